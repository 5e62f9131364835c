use Rattle.std.proofs.Common.{◌≡◌}
use Rattle.bq_lane_tests.proofs.long.repeats.Given as goal

-- the pass stays that of this caller on this lane
abbrev pub invariant-loop-number : goal.invariant-loop-number
invariant-loop-number l = record { table : l.pass.table ≡ l.fn.pass.table; shape : l.pass.shape ≡ l.fn.pass.shape; callers : l.pass.callers ≡ l.fn.pass.callers }
