use Rattle.std.proofs.Common.{◌≡◌, length}
use Rattle.bq_model.specs.Values.{enqueued}
use Rattle.bq_model.proofs.judge.Coming.next_value.Given as goal

-- what was passed over enqueued nothing
abbrev pub invariant-loop-op : goal.invariant-loop-op
invariant-loop-op l = enqueued l.initial.self ≡ enqueued l.self

abbrev pub decreases-loop-op : goal.decreases-loop-op
decreases-loop-op l = length l.self
