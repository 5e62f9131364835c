use Rattle.trace_conditions.proofs.BegunBatches.{AreBegun, IsLastBatch, IsWholeBefore}
use Rattle.trace_conditions.proofs.whole.is_whole.Given as goal

abbrev pub invariant-loop-op : goal.invariant-loop-op
invariant-loop-op l = record {
  whole : IsWholeBefore l.ops l.op-index;
  begun : AreBegun l.ops l.op-index l.begun;
  last : IsLastBatch l.ops l.op-index l.last;
}
