use Rattle.help_ways.proofs.Single.{leads, room_then}
use Rattle.help_ways.proofs.help_way.walk_on.Goals as goal

pub follow-requires-clause-room : goal.follow-requires-clause-room
follow-requires-clause-room c = room_then c.requires c.step-found.ensures

pub returns-in_default-clause-next : goal.returns-in_default-clause-next
returns-in_default-clause-next c = leads c.requires c.step-found.ensures c.follow.result c.follow.new.scratch c.follow.ensures.next c.follow.ensures.same
