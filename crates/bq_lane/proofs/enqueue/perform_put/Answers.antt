use Rattle.std.proofs.Common.{ap, ◌∙◌, ◌-◌, sym, subst, ℕ, List, [], ◌∷◌}
use Rattle.bq_model.specs.declared.op.Op.{Op}
use Rattle.bq_model.specs.declared.op.Op.TheVariants.{Enq}
use Rattle.lane_steps.specs.Answers.{closing_answers}
use Rattle.bq_lane.specs.Applied.{Called}
use Rattle.bq_lane.proofs.Applies.{goes_called, its_ops, called, answered, end_is, as_goes, as_ends}
use Rattle.lane_course.proofs.Begins.{idle_at, search_is}
use Rattle.bq_lane.proofs.enqueue.perform_put.Goals as goal

pub put_first-requires-clause-idle : goal.put_first-requires-clause-idle
put_first-requires-clause-idle c = idle_at (search_is c.args.shape.now c.args.caller c.args.value c.item_row-row.result _ c.item_row-row.ensures.by_number (ap (λ (k : ℕ). k - 1) c.items-left.ensures)) c.requires.idle

pub drive-requires-clause-ops : goal.drive-requires-clause-ops
drive-requires-clause-ops c = let b = c.put_first.ensures.next in its_ops c.args.token.now _ b.0 (Enq c.args.value ∷ []) (as_goes _ _ _ _ _ _ _ _ b.2 _ (end_is c.in-None.is c.put_first.new.goes)).1

pub returns-in-None-clause-called : goal.returns-in-None-clause-called
returns-in-None-clause-called c = let b = c.put_first.ensures.next in goes_called c.args.token.now _ _ b.0 (Enq c.args.value ∷ []) _ _ _ b.1 (as_goes _ _ _ _ _ _ _ _ b.2 _ (end_is c.in-None.is c.put_first.new.goes)).1 c.drive.ensures.ends

pub returns-in-Some-clause-called : goal.returns-in-Some-clause-called
returns-in-Some-clause-called c = let b = c.put_first.ensures.next in let ops : List Op = Enq c.args.value ∷ [] in
    subst (Called c.args.token.now ops c.answer.new.out.items c.put_first.new.scratch c.put_first.new.token) (sym c.answer.ensures.done)
    (called c.args.token.now c.put_first.new.token b.0 ops c.answer.new.out.items c.put_first.new.scratch b.1 _
    (answered _ _ ops c.answer.new.out.items c.put_first.new.scratch c.in-Some.closing (as_ends _ _ _ _ _ _ _ _ b.2 _ (end_is c.in-Some.is c.put_first.new.goes)) (c.answer.ensures.answers ∙ ap (λ (vs : List ℕ). closing_answers ops vs c.in-Some.closing) c.as_slice.ensures.value)))
