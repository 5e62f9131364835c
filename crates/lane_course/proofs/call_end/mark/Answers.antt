use Rattle.std.proofs.Common.{subst}
use Rattle.lane_steps.specs.State.{Caller}
use Rattle.lane_steps.specs.Step.{marks_on}
use Rattle.lane_course.specs.Next.{Becomes}
use Rattle.lane_course.proofs.call_end.mark.Goals as goal

pub returns-clause-next : goal.returns-clause-next
returns-clause-next c = λ n i k. subst (λ (w : Caller). Becomes n i k c.mark_on.new.scratch c.mark_on.result (marks_on n i w c.args.closing c.args.stopped c.args.place w.walked)) (c.retire.ensures.retired k) (c.mark_on.ensures.next n i k)
