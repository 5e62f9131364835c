use Rattle.std.proofs.Common.{◌≡◌}
use Rattle.bq_model.specs.NoShut.{NoShut}
use Rattle.lane_tests.proofs.mixed.fill.Given as goal

abbrev pub invariant-loop-place : goal.invariant-loop-place
invariant-loop-place l = record {
  capacity : l.batch.capacity ≡ 8;
  no_shut : NoShut l.batch.items;
}
