use Rattle.std.proofs.Common.{◌≡◌}
use Rattle.bq_lane_tests.proofs.beside.makes_batches.Given as goal

abbrev pub invariant-loop-k : goal.invariant-loop-k
invariant-loop-k l = record { table : l.pass.table ≡ l.fn.pass.table; shape : l.pass.shape ≡ l.fn.pass.shape; callers : l.pass.callers ≡ l.fn.pass.callers }
