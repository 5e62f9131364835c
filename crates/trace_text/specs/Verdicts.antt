-- The first group of a history that is wrong, looked for from its beginning.
use Rattle.std.specs.Prelude.{ℕ, Bool, true, false, ◌&&◌, ◌++◌, List, [], ◌∷◌, length, map, Option, None, Some, Result, Ok, nat_eq, nat_lt, if◌then◌else◌}
use Rattle.std.specs.Cmp.Lexicographic.{pointwise}
use Rattle.bq_model.specs.declared.op.Answer.{Answer}
use Rattle.bq_model.specs.declared.op.Answer.TheVariants.{Done, Got, Empty, Refused}
use Rattle.bq_model.specs.declared.group.Group.{Group}
use Rattle.bq_model.specs.declared.fault.TextFault.{TextFault}
use Rattle.bq_model.specs.Replay.{answers_from}
use Rattle.bq_model.specs.History.{last_queue}
use Rattle.bq_model.specs.Own.{mine}
use Rattle.text_lines.specs.Parts.{◌>>=◌}
use Rattle.trace_text.specs.declared.claim.Entry.{Entry}
use Rattle.trace_text.specs.declared.verdict.Verdict.{Verdict}
use Rattle.trace_text.specs.declared.verdict.Verdict.TheVariants.{Legal, Illegal}
use Rattle.trace_text.specs.Claims.{group_of, claimed}
use Rattle.trace_text.specs.HistoryText.{History, LinesSay, operation_count, history_at_end, hist_of}

-- the groups of entries
abbrev pub groups_of : List Entry → List Group
groups_of entries = map group_of entries

-- whether two answers are the same
abbrev pub same_answer : Answer → Answer → Bool
same_answer Done Done = true
same_answer Empty Empty = true
same_answer Refused Refused = true
same_answer (Got v) (Got w) = nat_eq v w
same_answer _ _ = false

-- Whether an entry is right behind these: its caller is one of so many, its batch number is how many groups that caller
-- has there, and each claimed answer is the replay's.
abbrev pub is_right : ℕ → List Entry → Entry → Bool
is_right callers before entry =
    nat_lt entry.caller callers
    && nat_eq entry.batch (length (mine (groups_of before) entry.caller))
    && pointwise same_answer (claimed entry) (answers_from (last_queue (groups_of before)) (group_of entry).ops)

-- the line of the first entry that isn't right, of those behind these
abbrev pub first_wrong : ℕ → List Entry → List Entry → Option ℕ
first_wrong callers before [] = None
first_wrong callers before (entry ∷ entries) = if is_right callers before entry then first_wrong callers (before ++ entry ∷ []) entries else Some entry.line

-- legal with its counts, or illegal with a line
abbrev pub verdict_with : List Entry → Option ℕ → Verdict
verdict_with entries None = Legal (length entries) (operation_count entries)
verdict_with entries (Some line) = Illegal line

-- what is found of a history
abbrev pub verdict_of : History → Verdict
verdict_of history = verdict_with history.entries (first_wrong history.callers [] history.entries)

-- what is found of the lines of a text that ends before this line
abbrev pub verdict_at_end : ℕ → LinesSay → Result Verdict TextFault
verdict_at_end line say = history_at_end line say.callers say.entries >>= (λ history. Ok (verdict_of history))

-- what is found of a text, or its fault; a fault anywhere comes before an entry that isn't right
abbrev pub verdict_in : List ℕ → Result Verdict TextFault
verdict_in text = hist_of text >>= (λ history. Ok (verdict_of history))
