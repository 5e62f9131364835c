use Rattle.std.proofs.Common.{sym}
use Rattle.lane_course.specs.Next.{told}
use Rattle.plain_ways.proofs.Dequeues.{finds_row, finds_none}
use Rattle.lane_course.proofs.Ways.{here, next, room, ends}
use Rattle.plain_ways.proofs.dequeue.look_behind.Goals as goal

pub pass_tail-requires : goal.pass_tail-requires
pass_tail-requires c = (finds_row _ _ c.load-found.ensures c.args.dummy (here c.requires) c.in-Single.row (sym c.in-Single.ensures)).runs

pub returns-in-Single-clause-next : goal.returns-in-Single-clause-next
returns-in-Single-clause-next c = next (finds_row _ _ c.load-found.ensures c.args.dummy (here c.requires) c.in-Single.row (sym c.in-Single.ensures)) _ _ (told c.pass_tail.result c.pass_tail.new.goes) c.pass_tail.ensures.next

pub finish-requires : goal.finish-requires
finish-requires c = record { led = (c.args.token.now, finds_none _ _ c.load-found.ensures c.args.dummy (here c.requires) (sym c.in-Nil.ensures)) }

pub returns-in-Nil-clause-next : goal.returns-in-Nil-clause-next
returns-in-Nil-clause-next c = c.finish.ensures.next c.args.token.now (finds_none _ _ c.load-found.ensures c.args.dummy (here c.requires) (sym c.in-Nil.ensures))

pub follow_dequeue-requires-clause-room : goal.follow_dequeue-requires-clause-room
follow_dequeue-requires-clause-room c = room (here c.requires) _ _ c.load-found.ensures

pub returns-in_default-clause-next : goal.returns-in_default-clause-next
returns-in_default-clause-next c = ends (here c.requires) _ _ c.load-found.ensures (told c.follow_dequeue.result c.follow_dequeue.new.goes) c.follow_dequeue.new.scratch c.follow_dequeue.ensures.next c.follow_dequeue.ensures.same
