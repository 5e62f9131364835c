use Rattle.lane_steps.specs.declared.point.Point.TheVariants.{Help}
use Rattle.help_ways.proofs.Single.{at_point, at_last_on, along, same_then}
use Rattle.help_ways.proofs.help_tail.find_old_tail.Goals as goal

pub tails-preserved : goal.tails-preserved
tails-preserved c = let i = c.tails.invariant in record {
  along = along i.along (at_point (Help c.args.help.now) c.look_at_tail.ensures.next c.in-LoadTail.is);
  same = same_then i.same c.look_at_tail.ensures.same;
}

pub returns-in_default-clause-next : goal.returns-in_default-clause-next
returns-in_default-clause-next c = at_last_on c.tails.invariant.along c.look_at_tail.ensures.next
