use Rattle.std.proofs.Common.{rules, true≢false, sym, ◌∙◌}
use Rattle.trace_conditions.proofs.LatestOfCallers.{latest_further, ordered_further, is_behind_latest}
use Rattle.trace_conditions.proofs.callers.is_in_callers_order.Goals as goal

pub loop-op-preserved : goal.loop-op-preserved
loop-op-preserved c = let own = c.loop-op.invariant.latest _ _ (c.requires.callers c.loop-op.op-index _ c.loop-op-test.true) in record {
  length = search rules;
  ordered = ordered_further c.args.ops.now c.loop-op.op-index _ c.loop-op-test.true _ own (c.is_behind.ensures.0 c.if-not-is_behind.false) c.loop-op.invariant.ordered;
  latest = latest_further c.args.ops.now c.loop-op.op-index _ c.loop-op-test.true c.loop-op.latest _ c.loop-op.invariant.length (c.requires.callers c.loop-op.op-index _ c.loop-op-test.true) c.loop-op.invariant.latest (c.is_behind.ensures.0 c.if-not-is_behind.false);
}

pub returns-then-not-is_behind : goal.returns-then-not-is_behind
returns-then-not-is_behind c = (
  λ e. absurd (true≢false (sym e)),
  λ ordered. absurd (true≢false (sym (c.is_behind.ensures.1 (is_behind_latest c.args.ops.now c.loop-op.op-index _ c.loop-op-test.true _
      (c.loop-op.invariant.latest _ _ (c.requires.callers c.loop-op.op-index _ c.loop-op-test.true)) ordered)) ∙ c.if-not-is_behind.true)),
)
