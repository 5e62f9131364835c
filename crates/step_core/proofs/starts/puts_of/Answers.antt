use Rattle.step_core.proofs.Enqueued.{next_put}
use Rattle.step_core.proofs.starts.puts_of.Goals as goal

pub loop-op-preserved : goal.loop-op-preserved
loop-op-preserved c = next_put c.args.ops.now c.loop-op.op-index _ c.loop-op.puts.items c.put_value.new.puts.items c.loop-op-test.true c.loop-op.invariant c.in_ok-put_value.ensures
