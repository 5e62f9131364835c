-- A history judged from entry to entry.
use Rattle.std.specs.Prelude.{ℕ, ◌+◌, Bool, ◌&&◌, List, length, map, nat_eq, nat_lt, slice_index_or, slice_set}
use Rattle.std.specs.Cmp.Lexicographic.{pointwise}
use Rattle.bq_model.specs.Queue.{Queue}
use Rattle.bq_model.specs.Replay.{answers_from, queue_from}
use Rattle.trace_text.specs.declared.claim.Claim.{Claim}
use Rattle.trace_text.specs.declared.claim.Entry.{Entry}
use Rattle.trace_text.specs.Verdicts.{same_answer}

-- what is queued, and how many groups each caller has made
pub record Judging : Type 0 where
  pub queue : Queue
  pub made : List ℕ

-- whether each claimed answer is the queue's
abbrev pub are_right : Queue → List Claim → Bool
are_right queue claims = pointwise same_answer (map (λ c. c.answer) claims) (answers_from queue (map (λ c. c.op) claims))

-- whether the next entry is right
abbrev pub is_right_now : Judging → Entry → Bool
is_right_now so_far entry =
    nat_lt entry.caller (length so_far.made)
    && nat_eq entry.batch (slice_index_or so_far.made entry.caller 0)
    && are_right so_far.queue entry.claims

-- and what follows it
abbrev pub after_entry : Judging → Entry → Judging
after_entry so_far entry = record {
  queue = queue_from so_far.queue (map (λ c. c.op) entry.claims);
  made = slice_set so_far.made entry.caller (entry.batch + 1);
}
