use Rattle.std.proofs.Common.{subst}
use Rattle.lane_steps.specs.State.{Caller}
use Rattle.lane_steps.specs.Step.{reads_on}
use Rattle.lane_course.specs.Next.{Becomes}
use Rattle.lane_course.proofs.read.read_more.Goals as goal

pub returns-clause-next : goal.returns-clause-next
returns-clause-next c = λ n i k. subst (λ (w : Caller). Becomes n i k c.read_on.new.scratch c.read_on.result (reads_on n i w c.args.reading c.args.row c.args.left w.values w.walked)) (c.remember.ensures.one_more k) (c.read_on.ensures.next n i k)
