-- The text of a history whose answers are the replay's, and of a machine.
use Rattle.std.specs.Prelude.{ℕ, List, [], ◌∷◌, ◌++◌, map, filter, not, Option, Result, Ok, codes, decimal}
use Rattle.std.specs.List.{range_with_len}
use Rattle.bq_model.specs.declared.error.Refusal.{Refusal}
use Rattle.bq_model.specs.declared.error.Refusal.TheVariants.{Spent, Full}
use Rattle.bq_model.specs.declared.fault.TextFault.{TextFault}
use Rattle.bq_model.specs.declared.group.Group.{Group}
use Rattle.bq_model.specs.declared.op.Op.{Op}
use Rattle.bq_model.specs.declared.op.Op.TheVariants.{Enq, Deq, Shut}
use Rattle.bq_model.specs.declared.op.Answer.{Answer}
use Rattle.bq_model.specs.declared.op.Answer.TheVariants as answer
use Rattle.bq_model.specs.Queue.{Queue, unshut, queue_after, answer_at_queue}
use Rattle.bq_model.specs.Replay.{queue_from}
use Rattle.text_lines.specs.Printed.{printed_lines}
use Rattle.text_lines.specs.Parts.{◌>>=◌}
use Rattle.trace_text.specs.declared.play.Refused.{Refused}
use Rattle.trace_text.specs.Played.{Playing, state_of, is_idle, refusals_of}
use Rattle.trace_text.specs.ScheduleText.{machine_at_end, play_of}

-- an operation with its answer; a dequeue is never answered Done
abbrev pub answer_word : Op → Answer → List ℕ
answer_word (Enq v) answer.Refused = codes "x" ++ decimal v
answer_word (Enq v) other = codes "e" ++ decimal v
answer_word Deq (answer.Got v) = codes "d" ++ decimal v
answer_word Deq other = codes "d-"
answer_word Shut other = codes "s"

-- operations with the answers of this queue
abbrev pub op_words : Queue → List Op → List (List ℕ)
op_words q [] = []
op_words q (op ∷ ops) = answer_word op (answer_at_queue q op) ∷ op_words (queue_after q op) ops

-- the line of a group on this queue
abbrev pub group_words : Queue → Group → List (List ℕ)
group_words q g = codes "group" ∷ decimal g.caller ∷ decimal g.batch ∷ op_words q g.ops

-- the lines of groups, of which the first is on this queue
abbrev pub group_lines : Queue → List Group → List (List (List ℕ))
group_lines q [] = []
group_lines q (g ∷ h) = group_words q g ∷ group_lines (queue_from q g.ops) h

-- the lines of a history of so many callers, behind the header
abbrev pub history_lines : ℕ → List Group → List (List (List ℕ))
history_lines callers h = (codes "callers" ∷ decimal callers ∷ []) ∷ group_lines (unshut []) h

abbrev pub reason_word : Refusal → List ℕ
reason_word Spent = codes "spent"
reason_word Full = codes "full"

-- the comment on a refused command
abbrev pub refused_line : Refused → List (List ℕ)
refused_line r = codes "#" ∷ codes "refused" ∷ decimal r.caller ∷ reason_word r.reason ∷ []

-- the comment on a caller that is not idle
abbrev pub unfinished_line : ℕ → List (List ℕ)
unfinished_line c = codes "#" ∷ codes "unfinished" ∷ decimal c ∷ []

-- the callers that are not idle, by rising number
abbrev pub unfinished : Playing → List ℕ
unfinished p = filter (λ c. not (is_idle (state_of p) c)) (range_with_len 0 p.shape.callers)

-- the comments behind the groups
abbrev pub comment_lines : Playing → List (List (List ℕ))
comment_lines p = map refused_line (refusals_of p) ++ map unfinished_line (unfinished p)

-- the text of a machine: its history, and the comments
abbrev pub play_text : Playing → List ℕ
play_text p = printed_lines ((codes "bqhist" ∷ codes "1" ∷ []) ∷ (history_lines p.shape.callers (state_of p).history ++ comment_lines p))

-- what a schedule gives whose text ends before this line
abbrev pub text_at_end : ℕ → Option Playing → Result (List ℕ) TextFault
text_at_end line so_far = machine_at_end line so_far >>= (λ p. Ok (play_text p))

-- what a schedule gives, or its fault
abbrev pub played_in : List ℕ → Result (List ℕ) TextFault
played_in text = play_of text >>= (λ p. Ok (play_text p))
