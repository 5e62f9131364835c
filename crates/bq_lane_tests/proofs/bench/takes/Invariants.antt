use Rattle.std.proofs.Common.{◌≡◌}
use Rattle.bq_lane_tests.proofs.bench.takes.Given as goal

abbrev pub invariant-loop-value : goal.invariant-loop-value
invariant-loop-value l = record { table : l.pass.table ≡ l.fn.pass.table; shape : l.pass.shape ≡ l.fn.pass.shape; callers : l.pass.callers ≡ l.fn.pass.callers }
