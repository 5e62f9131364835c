use Rattle.lane_steps.specs.declared.point.Point.TheVariants.{Help}
use Rattle.help_ways.proofs.Single.{at_point, then}
use Rattle.help_ways.proofs.help_way.help_on.Goals as goal

pub move_tail_over-point-requires : goal.move_tail_over-point-requires
move_tail_over-point-requires c = (at_point (Help c.args.help.now) c.find_old_tail.ensures.next c.in-LoadTailOver.is).0

pub returns-in-LoadTailOver-clause-next : goal.returns-in-LoadTailOver-clause-next
returns-in-LoadTailOver-clause-next c = then (at_point (Help c.args.help.now) c.find_old_tail.ensures.next c.in-LoadTailOver.is) _ _ c.walk_on.result (then c.move_tail_over-point.ensures _ _ c.walk_on.result c.walk_on.ensures.next)

pub returns-in_default-clause-next : goal.returns-in_default-clause-next
returns-in_default-clause-next c = then c.find_old_tail.ensures.next _ _ c.walk_on-in_default.result c.walk_on-in_default.ensures.next
