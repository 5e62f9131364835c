use Rattle.std.proofs.Common.{true≢false, subst, sym, ◌∙◌}
use Rattle.trace_conditions.specs.Stamps.{IsBefore}
use Rattle.trace_conditions.proofs.LatestMade.{next_latest, ahead_further, not_ahead}
use Rattle.trace_conditions.proofs.ahead.are_ahead.Goals as goal

pub returns-then-not-is_before : goal.returns-then-not-is_before
returns-then-not-is_before c = (
  λ e. absurd (true≢false (sym e)),
  λ ahead. absurd (true≢false (sym (c.is_before.ensures.1 (subst (λ s. IsBefore c.max-latest.result s) (sym c.stamp_of.ensures)
      (not_ahead c.args.stamp c.args.ops.now c.loop-op.op-index c.loop-op.latest c.max-latest.result _ c.loop-op-test.true c.loop-op.invariant.latest c.max-latest.ensures ahead))) ∙ c.if-not-is_before.true)),
)

pub loop-op-preserved : goal.loop-op-preserved
loop-op-preserved c = record {
  ahead = ahead_further c.args.stamp c.args.ops.now c.loop-op.op-index c.loop-op.latest c.max-latest.result _ c.loop-op-test.true c.loop-op.invariant.latest c.max-latest.ensures
      (subst (λ s. IsBefore c.max-latest.result s) c.stamp_of.ensures (c.is_before.ensures.0 c.if-not-is_before.false)) c.loop-op.invariant.ahead;
  latest = next_latest c.args.ops.now c.loop-op.op-index c.loop-op.latest c.max-latest.result _ c.loop-op-test.true c.loop-op.invariant.latest c.max-latest.ensures;
}
