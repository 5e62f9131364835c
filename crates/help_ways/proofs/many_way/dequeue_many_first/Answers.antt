use Rattle.std.proofs.Common.{sym}
use Rattle.lane_course.proofs.Advances.{starts_room, starts_next}
use Rattle.lane_course.proofs.Begins.{moved, stood}
use Rattle.help_ways.proofs.RowSteps.{many_head}
use Rattle.help_ways.proofs.Single.{then}
use Rattle.help_ways.proofs.many_way.dequeue_many_first.Goals as goal

pub dequeue_many-requires : goal.dequeue_many-requires
dequeue_many-requires g c = let r = c.requires in let m = c.first_load-found.ensures in let w = stood r.idle c.args.scratch.now r.known r.puts r.agrees r.reserves r.few r.apart _ _ m in
    (many_head w.runs (moved r.idle c.args.scratch.now r.known r.puts r.agrees r.reserves r.few r.apart _ _ m) c.in-Node.dummy (sym c.in-Node.ensures) c.on_dummy-plan.result c.on_dummy-plan.ensures).0

pub returns-in-Node-clause-next : goal.returns-in-Node-clause-next
returns-in-Node-clause-next g c = let r = c.requires in let m = c.first_load-found.ensures in let w = stood r.idle c.args.scratch.now r.known r.puts r.agrees r.reserves r.few r.apart _ _ m in (
  m.2.0,
  m.2.1,
  then (many_head w.runs (moved r.idle c.args.scratch.now r.known r.puts r.agrees r.reserves r.few r.apart _ _ m) c.in-Node.dummy (sym c.in-Node.ensures) c.on_dummy-plan.result c.on_dummy-plan.ensures) _ _ c.dequeue_many.result c.dequeue_many.ensures.next,
)

pub follow-requires-clause-room : goal.follow-requires-clause-room
follow-requires-clause-room g c = let r = c.requires in starts_room _ _ _ _ _ _ _ r.idle c.args.scratch.now r.known r.puts r.agrees r.reserves r.few r.apart _ _ c.first_load-found.ensures

pub returns-in_default-clause-next : goal.returns-in_default-clause-next
returns-in_default-clause-next g c = let r = c.requires in starts_next _ _ _ _ _ _ _ r.idle c.args.scratch.now r.known r.puts r.agrees r.reserves r.few r.apart _ _ c.first_load-found.ensures c.follow.new.scratch c.follow.result c.follow.ensures.next c.follow.ensures.same
