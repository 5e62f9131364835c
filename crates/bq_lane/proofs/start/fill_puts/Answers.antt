use Rattle.std.proofs.Common.{rules}
use Rattle.bq_lane.proofs.Enqueued.{next_put}
use Rattle.bq_lane.proofs.start.fill_puts.Goals as goal

pub loop-op-preserved : goal.loop-op-preserved
loop-op-preserved c = let i = c.loop-op.invariant in record {
  puts = next_put c.args.ops.now c.loop-op.op-index _ c.loop-op.puts.items c.put_value.new.puts.items c.loop-op-test.true i.puts c.put_value.ensures.puts;
  words = c.put_value.ensures.words i.words;
  room = search rules;
  capacity = search rules;
}
