use Rattle.std.proofs.Common.{refl, sym}
use Rattle.help_ways.proofs.RowSteps.{many_head}
use Rattle.help_ways.proofs.Single.{stands_own, acts_own, leads, room_then, then}
use Rattle.help_ways.proofs.many_way.dequeue_many_on.Goals as goal

pub load-found-requires-clause-at : goal.load-found-requires-clause-at
load-found-requires-clause-at c = stands_own c.requires

pub load-found-requires-clause-load : goal.load-found-requires-clause-load
load-found-requires-clause-load c = acts_own c.requires _ refl

pub dequeue_many-requires : goal.dequeue_many-requires
dequeue_many-requires c = (many_head c.requires c.load-found.ensures c.in-Node.dummy (sym c.in-Node.ensures) c.on_dummy-plan.result c.on_dummy-plan.ensures).0

pub returns-in-Node-clause-next : goal.returns-in-Node-clause-next
returns-in-Node-clause-next c = then (many_head c.requires c.load-found.ensures c.in-Node.dummy (sym c.in-Node.ensures) c.on_dummy-plan.result c.on_dummy-plan.ensures) _ _ c.dequeue_many.result c.dequeue_many.ensures.next

pub follow-requires-clause-room : goal.follow-requires-clause-room
follow-requires-clause-room c = room_then c.requires c.load-found.ensures

pub returns-in_default-clause-next : goal.returns-in_default-clause-next
returns-in_default-clause-next c = leads c.requires c.load-found.ensures c.follow.result c.follow.new.scratch c.follow.ensures.next c.follow.ensures.same
