use Rattle.lane_course.proofs.Advances.{starts_room, starts_next}
use Rattle.bq_lane.proofs.drive.begin_step.Goals as goal

pub follow-requires-clause-room : goal.follow-requires-clause-room
follow-requires-clause-room g c = let r = c.requires in starts_room _ _ _ _ _ _ _ r.idle c.args.scratch.now r.known r.puts r.agrees r.reserves r.few r.apart _ _ c.first_step-found.ensures

pub returns-clause-next : goal.returns-clause-next
returns-clause-next g c = let r = c.requires in starts_next _ _ _ _ _ _ _ r.idle c.args.scratch.now r.known r.puts r.agrees r.reserves r.few r.apart _ _ c.first_step-found.ensures c.follow.new.scratch c.follow.result c.follow.ensures.next c.follow.ensures.same
