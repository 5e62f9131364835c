use Rattle.std.proofs.Common.{subst, ap, ◌∙◌}
use Rattle.lane_steps.specs.Step.{loses}
use Rattle.lane_course.specs.Next.{Becomes}
use Rattle.lane_course.specs.Scratch.{keeping}
use Rattle.lane_course.proofs.Losing.{loses_alike}
use Rattle.lane_course.proofs.call_end.close.Goals as goal

pub returns-clause-next : goal.returns-clause-next
returns-clause-next c = λ n i k. let s = c.args.scratch.now in
    subst (Becomes n i k c.lose.new.scratch c.lose.result) (loses_alike n i (keeping k s) c.args.closing c.put_in_order.new.rows.items c.put_in_order.new.rows.items ∙ ap (loses n i (keeping k s) c.args.closing) c.put_in_order.ensures.rising) (c.lose.ensures.next n i k)
