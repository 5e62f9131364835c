use Rattle.std.proofs.Common.{subst, ap, ◌∙◌, false, ◌++◌, [], ◌∷◌, List, ℕ}
use Rattle.lane_steps.specs.Step.{marks_all}
use Rattle.lane_course.specs.Next.{Becomes}
use Rattle.lane_course.specs.Scratch.{keeping}
use Rattle.lane_course.proofs.call_end.pass.Goals as goal

pub returns-clause-next : goal.returns-clause-next
returns-clause-next c = λ n i k. subst (λ (xs : List ℕ). Becomes n i k c.mark_all.new.scratch c.mark_all.result (marks_all n i (record (keeping k c.args.scratch.now) { walked = xs }) c.args.closing false c.args.dummy))
    (c.push_back_reserved.ensures.items ∙ ap (λ (xs : List ℕ). xs ++ c.args.row ∷ []) c.clear.ensures.items) (c.mark_all.ensures.next n i k)
