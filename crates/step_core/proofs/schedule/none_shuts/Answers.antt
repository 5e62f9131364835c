use Rattle.std.proofs.Common.{sym, ap, ◌∙◌}
use Rattle.step_core.proofs.Shuts.{none_ahead, one_ahead, none_left}
use Rattle.step_core.proofs.schedule.none_shuts.Goals as goal

pub loop-op-preserved : goal.loop-op-preserved
loop-op-preserved c = none_ahead c.args.ops.now c.loop-op.op-index _ _ c.loop-op-test.true (sym c.is_shut.ensures ∙ c.if-is_shut.false) c.loop-op.invariant
