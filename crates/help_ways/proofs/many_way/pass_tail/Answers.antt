use Rattle.std.proofs.Common.{refl, sym, ◌∙◌}
use Rattle.help_ways.proofs.Helps.{tail_is_behind}
use Rattle.help_ways.proofs.Single.{stands_own, acts_own, leads, room_then, then}
use Rattle.help_ways.proofs.many_way.pass_tail.Goals as goal

pub load-found-requires-clause-at : goal.load-found-requires-clause-at
load-found-requires-clause-at c = stands_own c.requires

pub load-found-requires-clause-load : goal.load-found-requires-clause-load
load-found-requires-clause-load c = acts_own c.requires _ refl

pub move_head-requires : goal.move_head-requires
move_head-requires c = (tail_is_behind c.requires c.load-found.ensures c.tail_in.result c.tail_in.ensures (sym c.is_behind.ensures ∙ c.if-is_behind.true)).0

pub returns-then-is_behind-clause-next : goal.returns-then-is_behind-clause-next
returns-then-is_behind-clause-next c = then (tail_is_behind c.requires c.load-found.ensures c.tail_in.result c.tail_in.ensures (sym c.is_behind.ensures ∙ c.if-is_behind.true)) _ _ c.move_head.result c.move_head.ensures.next

pub follow-requires-clause-room : goal.follow-requires-clause-room
follow-requires-clause-room c = room_then c.requires c.load-found.ensures

pub returns-else-is_behind-clause-next : goal.returns-else-is_behind-clause-next
returns-else-is_behind-clause-next c = leads c.requires c.load-found.ensures c.follow.result c.follow.new.scratch c.follow.ensures.next c.follow.ensures.same
