use Rattle.lane_course.proofs.Advances.{room_for, follows_next}
use Rattle.bq_lane.proofs.drive.advance.Goals as goal

pub follow-requires-clause-room : goal.follow-requires-clause-room
follow-requires-clause-room c = room_for _ _ _ _ _ _ _ c.requires _ _ c.step-found.ensures

pub returns-in_default-clause-next : goal.returns-in_default-clause-next
returns-in_default-clause-next c = follows_next _ _ _ _ _ _ _ c.requires _ _ c.step-found.ensures c.follow.new.scratch c.follow.result c.follow.ensures.next c.follow.ensures.same
