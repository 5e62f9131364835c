use Rattle.std.proofs.Common.{◌≡◌}
use Rattle.bq_lane_tests.proofs.small.smallest_lane_serves_a_hundred_thousand_operations.Given as goal

-- the pass stays that of the one caller on this lane
abbrev pub invariant-loop-value : goal.invariant-loop-value
invariant-loop-value g l = record { table : l.pass.table ≡ l.initial.pass.table; shape : l.pass.shape ≡ l.initial.pass.shape; callers : l.pass.callers ≡ l.initial.pass.callers }
