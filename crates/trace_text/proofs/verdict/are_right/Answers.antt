use Rattle.std.proofs.Common.{sym, ◌∙◌}
use Rattle.trace_text.proofs.JudgingLemmas.{are_right-more, queue_from-more}
use Rattle.trace_text.proofs.verdict.are_right.Goals as goal

pub loop-claim-preserved : goal.loop-claim-preserved
loop-claim-preserved c = record {
  right = c.loop-claim.invariant.right ∙ are_right-more c.loop-claim.queue c.is_right.new.queue c.args.claims.now c.loop-claim.claim-index _ c.loop-claim-test.true (sym c.if-not-branch.false ∙ c.in_ok-is_right.ensures.right) c.in_ok-is_right.ensures.queue;
  queue = queue_from-more c.loop-claim.queue c.is_right.new.queue c.args.claims.now c.loop-claim.claim-index _ c.loop-claim-test.true c.args.queue.now c.loop-claim.invariant.queue c.in_ok-is_right.ensures.queue;
}
