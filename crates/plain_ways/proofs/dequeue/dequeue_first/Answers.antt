use Rattle.std.proofs.Common.{sym}
use Rattle.lane_course.proofs.Advances.{starts_room, starts_next}
use Rattle.lane_course.specs.Next.{told}
use Rattle.plain_ways.proofs.Dequeues.{starts_at_dummy}
use Rattle.lane_course.proofs.Ways.{next}
use Rattle.plain_ways.proofs.dequeue.dequeue_first.Goals as goal

pub hold_dummy-requires : goal.hold_dummy-requires
hold_dummy-requires g c = let r = c.requires in (starts_at_dummy c.args.words.now.table_id c.args.words.now.key c.args.shape.now c.args.caller _ c.args.token.now r.idle c.args.scratch.now r.known r.puts r.agrees r.reserves r.few r.apart _ _ c.first_load-found.ensures c.in-Node.dummy (sym c.in-Node.ensures)).runs

pub returns-in-Node-clause-next : goal.returns-in-Node-clause-next
returns-in-Node-clause-next g c = let r = c.requires in let m = c.first_load-found.ensures in (m.2.0, m.2.1, next (starts_at_dummy c.args.words.now.table_id c.args.words.now.key c.args.shape.now c.args.caller _ c.args.token.now r.idle c.args.scratch.now r.known r.puts r.agrees r.reserves r.few r.apart _ _ c.first_load-found.ensures c.in-Node.dummy (sym c.in-Node.ensures)) _ _ (told c.hold_dummy.result c.hold_dummy.new.goes) c.hold_dummy.ensures.next)

pub follow_dequeue-requires-clause-room : goal.follow_dequeue-requires-clause-room
follow_dequeue-requires-clause-room g c = let r = c.requires in starts_room _ _ _ _ _ _ _ r.idle c.args.scratch.now r.known r.puts r.agrees r.reserves r.few r.apart _ _ c.first_load-found.ensures

pub returns-in_default-clause-next : goal.returns-in_default-clause-next
returns-in_default-clause-next g c = let r = c.requires in starts_next _ _ _ _ _ _ _ r.idle c.args.scratch.now r.known r.puts r.agrees r.reserves r.few r.apart _ _ c.first_load-found.ensures c.follow_dequeue.new.scratch (told c.follow_dequeue.result c.follow_dequeue.new.goes) c.follow_dequeue.ensures.next c.follow_dequeue.ensures.same
