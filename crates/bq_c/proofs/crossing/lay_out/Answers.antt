use Rattle.std.proofs.Common.{List, rules, sym, subst, take}
use Rattle.bq_model.specs.declared.op.Op.{Op}
use Rattle.bq_model.specs.NoShut.{NoShut}
use Rattle.bq_c.proofs.Laid.{laid_plain, next_laid, next_known}
use Rattle.bq_c.proofs.crossing.lay_out.Goals as goal

pub put-requires-clause-no_shut : goal.put-requires-clause-no_shut
put-requires-clause-no_shut c = subst NoShut (sym c.loop-op.invariant.laid) (laid_plain (take c.loop-op.op-index c.args.ops.now))

pub loop-op-preserved : goal.loop-op-preserved
loop-op-preserved c = let i = c.loop-op.invariant in record {
  known = next_known c.args.ops.now c.loop-op.op-index _ c.loop-op-test.true i.known (c.put.ensures.known.0 (search rules));
  laid = next_laid c.args.ops.now c.loop-op.op-index _ c.loop-op.batch.items c.put.new.batch.items c.loop-op-test.true i.laid (c.put.ensures.appended (search rules));
  capacity = search rules;
  room = search rules;
}
