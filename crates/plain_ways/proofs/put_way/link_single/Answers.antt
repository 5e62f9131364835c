use Rattle.std.proofs.Common.{sym, ◌∙◌, ap}
use Rattle.lane_steps.specs.Act.{is_nil}
use Rattle.plain_ways.proofs.Puts.{single_linked}
use Rattle.lane_course.proofs.Ways.{acts, here, stands_at}
use Rattle.plain_ways.proofs.put_way.link_single.Goals as goal

pub exchange-found-requires : goal.exchange-found-requires
exchange-found-requires c = record { at = stands_at c.requires; exchange = acts c.requires }

pub returns : goal.returns
returns c = single_linked {x = c.args.item} _ _ c.exchange-found.ensures c.args.tail c.is_nil.result (ap is_nil (sym c.link_in.ensures) ∙ sym c.is_nil.ensures) (here c.requires)
