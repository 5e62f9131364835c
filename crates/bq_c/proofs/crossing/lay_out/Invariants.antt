use Rattle.std.proofs.Common.{◌≡◌, ◌≤◌, length, map, take, All}
use Rattle.bq_c.specs.Crossing.{IsKnown, op_of}
use Rattle.bq_c.proofs.crossing.lay_out.Given as goal

abbrev pub invariant-loop-op : goal.invariant-loop-op
invariant-loop-op l = record {
  known : All IsKnown (take l.op-index l.ops);
  laid : l.batch.items ≡ map op_of (take l.op-index l.ops);
  capacity : l.batch.capacity ≡ l.fn.batch.capacity;
  room : length l.ops ≤ l.batch.capacity;
}
