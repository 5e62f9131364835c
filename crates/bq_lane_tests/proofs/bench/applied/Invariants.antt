use Rattle.std.proofs.Common.{◌≡◌, ◌≤◌, length}
use Rattle.bq_model.specs.NoShut.{NoShut}
use Rattle.bq_lane_tests.proofs.bench.applied.Given as goal

abbrev pub invariant-loop-op : goal.invariant-loop-op
invariant-loop-op l = record { capacity : l.batch.capacity ≡ 8; room : length l.batch.items ≤ 8; no_shut : NoShut l.batch.items; answers : l.out.capacity ≡ 8; batch : 8 ≤ l.lane.shape.batch }
