use Rattle.std.proofs.Common.{◌≡◌, ◌++◌, length}
use Rattle.bq_model.specs.History.{operations}
use Rattle.bq_model.proofs.judge.Coming.next.Given as goal

abbrev pub invariant-loop-self : goal.invariant-loop-self
invariant-loop-self l = l.fn.self ≡ l.self-inside.ops.now ++ operations l.self-inside.groups.now

abbrev pub decreases-loop-self : goal.decreases-loop-self
decreases-loop-self l = length l.self-inside.groups.now
