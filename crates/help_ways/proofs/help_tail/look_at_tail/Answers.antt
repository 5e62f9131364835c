use Rattle.lane_steps.specs.declared.point.Point.TheVariants.{Help}
use Rattle.help_ways.proofs.Single.{at_point, then_on}
use Rattle.help_ways.proofs.help_tail.look_at_tail.Goals as goal

pub see_tail-requires : goal.see_tail-requires
see_tail-requires c = (at_point (Help c.args.help.now) c.hold_tail.ensures.next c.in-LoadOldTail.is).0

pub returns-in-LoadOldTail-clause-next : goal.returns-in-LoadOldTail-clause-next
returns-in-LoadOldTail-clause-next c = then_on (at_point (Help c.args.help.now) c.hold_tail.ensures.next c.in-LoadOldTail.is) c.see_tail.ensures
