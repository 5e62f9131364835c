use Rattle.std.proofs.Common.{◌≡◌, take}
use Rattle.bq_model.specs.Values.{enqueued}
use Rattle.step_core.proofs.starts.puts_of.Given as goal

abbrev pub invariant-loop-op : goal.invariant-loop-op
invariant-loop-op l = l.puts.items ≡ enqueued (take l.op-index l.ops)
