use Rattle.std.proofs.Common.{sym}
use Rattle.lane_course.specs.Next.{told}
use Rattle.plain_ways.proofs.Dequeues.{finds_dummy}
use Rattle.lane_course.proofs.Ways.{here, next, room, ends}
use Rattle.plain_ways.proofs.dequeue.dequeue_on.Goals as goal

pub hold_dummy-requires : goal.hold_dummy-requires
hold_dummy-requires c = (finds_dummy _ _ c.load-found.ensures (here c.requires) c.in-Node.dummy (sym c.in-Node.ensures)).runs

pub returns-in-Node-clause-next : goal.returns-in-Node-clause-next
returns-in-Node-clause-next c = next (finds_dummy _ _ c.load-found.ensures (here c.requires) c.in-Node.dummy (sym c.in-Node.ensures)) _ _ (told c.hold_dummy.result c.hold_dummy.new.goes) c.hold_dummy.ensures.next

pub follow_dequeue-requires-clause-room : goal.follow_dequeue-requires-clause-room
follow_dequeue-requires-clause-room c = room (here c.requires) _ _ c.load-found.ensures

pub returns-in_default-clause-next : goal.returns-in_default-clause-next
returns-in_default-clause-next c = ends (here c.requires) _ _ c.load-found.ensures (told c.follow_dequeue.result c.follow_dequeue.new.goes) c.follow_dequeue.new.scratch c.follow_dequeue.ensures.next c.follow_dequeue.ensures.same
