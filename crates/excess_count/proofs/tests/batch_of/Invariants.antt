use Rattle.std.proofs.Common.{◌≡◌, length}
use Rattle.bq_model.specs.NoShut.{NoShut}
use Rattle.excess_count.proofs.tests.batch_of.Given as goal

abbrev pub invariant-loop-op : goal.invariant-loop-op
invariant-loop-op g l = record {
  counted : length l.batch.items ≡ l.op-index;
  capacity : l.batch.capacity ≡ 256;
  no_shut : NoShut l.batch.items;
}
