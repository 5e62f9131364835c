use Rattle.lane_course.specs.Next.{told}
use Rattle.plain_ways.proofs.Puts.{mark_cleared, link_cleared, value_stored}
use Rattle.lane_course.proofs.Ways.{acts, here, next, stands_at}
use Rattle.plain_ways.proofs.put_way.put_into.Goals as goal

pub store-requires : goal.store-requires
store-requires c = record { at = stands_at c.requires; store = acts c.requires }

pub store-requires-2 : goal.store-requires-2
store-requires-2 c = let w = mark_cleared {x = c.args.item} _ _ c.store.ensures (here c.requires) in record { at = stands_at w.runs; store = acts w.runs }

pub store-requires-3 : goal.store-requires-3
store-requires-3 c = let w = link_cleared {x = c.args.item} _ _ c.store-2.ensures (mark_cleared {x = c.args.item} _ _ c.store.ensures (here c.requires)) in record { at = stands_at w.runs; store = acts w.runs }

pub link-requires : goal.link-requires
link-requires c = (value_stored {x = c.args.item} _ _ c.store-3.ensures (link_cleared {x = c.args.item} _ _ c.store-2.ensures (mark_cleared {x = c.args.item} _ _ c.store.ensures (here c.requires)))).runs

pub returns-clause-next : goal.returns-clause-next
returns-clause-next c = next (value_stored {x = c.args.item} _ _ c.store-3.ensures (link_cleared {x = c.args.item} _ _ c.store-2.ensures (mark_cleared {x = c.args.item} _ _ c.store.ensures (here c.requires)))) c.link.new.scratch c.link.new.token (told c.link.result c.link.new.goes) c.link.ensures.next
