use Rattle.bq_model.specs.declared.op.Op.TheVariants.{Deq}
use Rattle.std.proofs.Common.{[], ◌∷◌, ap, ◌∙◌, sym, subst, ℕ, List}
use Rattle.lane_steps.specs.Answers.{closing_answers}
use Rattle.bq_lane.specs.Applied.{Called}
use Rattle.bq_lane.proofs.Applies.{goes_called, its_ops, called, answered, end_is, as_goes, as_ends}
use Rattle.bq_lane.proofs.drive.perform_dequeue.Goals as goal

pub drive-requires-clause-ops : goal.drive-requires-clause-ops
drive-requires-clause-ops c = let b = c.dequeue_first.ensures.next in its_ops c.args.token.now _ b.0 (Deq ∷ []) (as_goes _ _ _ _ _ _ _ _ b.2 _ (end_is c.in-None.is c.dequeue_first.new.goes)).1

pub returns-in-None-clause-called : goal.returns-in-None-clause-called
returns-in-None-clause-called c = let b = c.dequeue_first.ensures.next in goes_called c.args.token.now _ _ b.0 (Deq ∷ []) _ _ _ b.1 (as_goes _ _ _ _ _ _ _ _ b.2 _ (end_is c.in-None.is c.dequeue_first.new.goes)).1 c.drive.ensures.ends

pub returns-in-Some-clause-called : goal.returns-in-Some-clause-called
returns-in-Some-clause-called c = let b = c.dequeue_first.ensures.next in
    subst (Called c.args.token.now (Deq ∷ []) c.answer.new.out.items c.dequeue_first.new.scratch c.dequeue_first.new.token) (sym c.answer.ensures.done)
    (called c.args.token.now c.dequeue_first.new.token b.0 (Deq ∷ []) c.answer.new.out.items c.dequeue_first.new.scratch b.1 _
    (answered _ _ (Deq ∷ []) c.answer.new.out.items c.dequeue_first.new.scratch c.in-Some.closing (as_ends _ _ _ _ _ _ _ _ b.2 _ (end_is c.in-Some.is c.dequeue_first.new.goes)) (c.answer.ensures.answers ∙ ap (λ (vs : List ℕ). closing_answers (Deq ∷ []) vs c.in-Some.closing) c.as_slice.ensures.value)))
