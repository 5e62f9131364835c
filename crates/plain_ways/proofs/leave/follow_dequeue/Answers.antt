use Rattle.std.proofs.Common.{sym, subst}
use Rattle.lane_course.specs.declared.next.Next.{Next}
use Rattle.lane_course.specs.Next.{Becomes}
use Rattle.lane_steps.specs.LaneSizes.{lane_sizes}
use Rattle.lane_steps.specs.Step.{course, followed}
use Rattle.lane_steps.specs.declared.point.Point.TheVariants.{Dequeue}
use Rattle.lane_course.specs.Scratch.{keeping}
use Rattle.plain_ways.proofs.leave.follow_dequeue.Goals as goal

pub returns-clause-next : goal.returns-clause-next
returns-clause-next c = λ n k puts. subst (λ (y : Next). Becomes n c.args.caller k c.follow.new.scratch y (followed (lane_sizes c.args.shape.now) n c.args.caller (keeping k c.args.scratch.now) (course (Dequeue c.args.at) c.args.found))) (sym c.tell.ensures) (c.follow.ensures.next n k puts)
