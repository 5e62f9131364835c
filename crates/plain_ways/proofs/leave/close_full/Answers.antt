use Rattle.std.proofs.Common.{sym, subst}
use Rattle.lane_course.specs.declared.next.Next.{Next}
use Rattle.lane_course.specs.Next.{Becomes}
use Rattle.lane_steps.specs.Step.{closes}
use Rattle.lane_steps.specs.declared.point.Closing.TheVariants.{Full}
use Rattle.lane_course.specs.Scratch.{keeping}
use Rattle.plain_ways.proofs.leave.close_full.Goals as goal

pub returns-clause-next : goal.returns-clause-next
returns-clause-next c = λ n e k. subst (λ (y : Next). Becomes n e k c.close.new.scratch y (closes n e (keeping k c.args.scratch.now) Full)) (sym c.tell.ensures) (c.close.ensures.next n e k)
