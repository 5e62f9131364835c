use Rattle.std.proofs.Common.{ap, ◌∙◌, sym, subst, ℕ, List}
use Rattle.lane_steps.specs.Answers.{closing_answers}
use Rattle.bq_lane.specs.Applied.{Called}
use Rattle.bq_lane.proofs.Applies.{goes_called, its_ops, called, answered, as_goes, as_ends}
use Rattle.bq_lane.proofs.drive.perform.Goals as goal

pub drive-requires-clause-ops : goal.drive-requires-clause-ops
drive-requires-clause-ops c = let b = c.begin.ensures.next in its_ops c.args.token.now _ b.0 c.args.ops.now (as_goes _ _ _ _ _ _ _ _ b.2 _ c.in-Goes.is).1

pub returns-in-Goes-clause-called : goal.returns-in-Goes-clause-called
returns-in-Goes-clause-called c = let b = c.begin.ensures.next in goes_called c.args.token.now _ _ b.0 c.args.ops.now _ _ _ b.1 (as_goes _ _ _ _ _ _ _ _ b.2 _ c.in-Goes.is).1 c.drive.ensures.ends

pub returns-in-Ends-clause-called : goal.returns-in-Ends-clause-called
returns-in-Ends-clause-called c = let b = c.begin.ensures.next in
    subst (Called c.args.token.now c.args.ops.now c.answer.new.out.items c.begin.new.scratch c.begin.new.token) (sym c.answer.ensures.done)
    (called c.args.token.now c.begin.new.token b.0 c.args.ops.now c.answer.new.out.items c.begin.new.scratch b.1 _
    (answered _ _ c.args.ops.now c.answer.new.out.items c.begin.new.scratch c.in-Ends.closing (as_ends _ _ _ _ _ _ _ _ b.2 _ c.in-Ends.is) (c.answer.ensures.answers ∙ ap (λ (vs : List ℕ). closing_answers c.args.ops.now vs c.in-Ends.closing) c.as_slice.ensures.value)))
