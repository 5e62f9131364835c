use Rattle.std.proofs.Common.{refl, sym, ◌∙◌}
use Rattle.help_ways.proofs.RowSteps.{many_first, many_none}
use Rattle.help_ways.proofs.Single.{stands_own, acts_own, leads, room_then, then}
use Rattle.help_ways.proofs.many_way.walk.Goals as goal

pub load-found-requires-clause-at : goal.load-found-requires-clause-at
load-found-requires-clause-at c = stands_own c.requires

pub load-found-requires-clause-load : goal.load-found-requires-clause-load
load-found-requires-clause-load c = acts_own c.requires _ refl

pub follow-requires-clause-room : goal.follow-requires-clause-room
follow-requires-clause-room c = room_then c.requires c.load-found.ensures

pub finish-requires : goal.finish-requires
finish-requires c = record { led = (c.args.token.now, many_none c.requires c.load-found.ensures (sym c.in-Nil.ensures)) }

pub returns-in-Nil-clause-next : goal.returns-in-Nil-clause-next
returns-in-Nil-clause-next c = c.finish.ensures.next c.args.token.now (many_none c.requires c.load-found.ensures (sym c.in-Nil.ensures))

pub returns-in_default-link_in-clause-next : goal.returns-in_default-link_in-clause-next
returns-in_default-link_in-clause-next c = leads c.requires c.load-found.ensures c.follow.result c.follow.new.scratch c.follow.ensures.next c.follow.ensures.same

pub walk_values-requires : goal.walk_values-requires
walk_values-requires c = (many_first c.requires c.load-found.ensures c.in-Some.next (sym c.row_in.ensures ∙ c.in-Some.is) c.saturating_sub-left.result c.saturating_sub-left.ensures c.forget.new.scratch c.forget.ensures.nothing_read c.forget.ensures.same).0

pub returns-clause-next : goal.returns-clause-next
returns-clause-next c = then (many_first c.requires c.load-found.ensures c.in-Some.next (sym c.row_in.ensures ∙ c.in-Some.is) c.saturating_sub-left.result c.saturating_sub-left.ensures c.forget.new.scratch c.forget.ensures.nothing_read c.forget.ensures.same) _ _ c.walk_values.result c.walk_values.ensures.next
