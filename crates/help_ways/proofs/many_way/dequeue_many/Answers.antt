use Rattle.std.proofs.Common.{refl, sym, ◌∙◌}
use Rattle.help_ways.proofs.Helps.{names_dummy, holds_dummy}
use Rattle.help_ways.proofs.Single.{stands_own, acts_own, leads, room_then, then}
use Rattle.help_ways.proofs.many_way.dequeue_many.Goals as goal

pub store-requires-clause-at : goal.store-requires-clause-at
store-requires-clause-at c = stands_own c.requires

pub store-requires-clause-store : goal.store-requires-clause-store
store-requires-clause-store c = acts_own c.requires _ refl

pub load-found-requires-clause-at : goal.load-found-requires-clause-at
load-found-requires-clause-at c = stands_own (names_dummy c.requires c.store.ensures).0

pub load-found-requires-clause-load : goal.load-found-requires-clause-load
load-found-requires-clause-load c = acts_own (names_dummy c.requires c.store.ensures).0 _ refl

pub follow-requires-clause-room : goal.follow-requires-clause-room
follow-requires-clause-room c = room_then (names_dummy c.requires c.store.ensures).0 c.load-found.ensures

pub returns-else-is_same-clause-next : goal.returns-else-is_same-clause-next
returns-else-is_same-clause-next c = let named = names_dummy c.requires c.store.ensures in then named _ _ c.follow.result (leads named.0 c.load-found.ensures c.follow.result c.follow.new.scratch c.follow.ensures.next c.follow.ensures.same)

pub walk-requires : goal.walk-requires
walk-requires c = (holds_dummy (names_dummy c.requires c.store.ensures).0 c.load-found.ensures (sym c.is_same.ensures ∙ c.if-is_same.true)).0

pub returns-then-is_same-clause-next : goal.returns-then-is_same-clause-next
returns-then-is_same-clause-next c = let named = names_dummy c.requires c.store.ensures in let held = holds_dummy named.0 c.load-found.ensures (sym c.is_same.ensures ∙ c.if-is_same.true) in
    then named _ _ c.walk.result (then held _ _ c.walk.result c.walk.ensures.next)
