use Rattle.std.proofs.Common.{sym, ap, subst, ◌∙◌}
use Rattle.bq_model.specs.NoShut.{NoShut}
use Rattle.bq_model.proofs.NoShuts.{NoShut-push}
use Rattle.lane_tests.proofs.mixed.fill.Goals as goal
use Rattle.lane_tests.proofs.mixed.fill.Goals.{then-len-lt8, else-len-lt8}

pub loop-place-preserved : goal.loop-place-preserved
loop-place-preserved c = elim c.if-len-lt8.branch [
  | then-len-lt8 w ↦ record {
    capacity = ap (λ b. b.capacity) w.batch-is ∙ w.push.ensures.capacity_stays ∙ c.loop-place.invariant.capacity;
    no_shut = subst NoShut (sym (ap (λ b. b.items) w.batch-is ∙ w.push.ensures.appended)) (NoShut-push c.loop-place.batch.items c.next_op-op.result c.loop-place.invariant.no_shut c.next_op-op.ensures);
  }
  | else-len-lt8 w ↦ record {
    capacity = ap (λ b. b.capacity) w.batch-is ∙ c.loop-place.invariant.capacity;
    no_shut = subst NoShut (sym (ap (λ b. b.items) w.batch-is)) c.loop-place.invariant.no_shut;
  }
]
