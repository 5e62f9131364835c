use Rattle.std.proofs.Common.{refl, sym, ◌∙◌}
use Rattle.help_ways.proofs.Helps.{names_ann, holds_ann}
use Rattle.help_ways.proofs.Single.{stands_own, acts_own, leads, room_then, then}
use Rattle.help_ways.proofs.help_way.help_found.Goals as goal

pub store-requires-clause-at : goal.store-requires-clause-at
store-requires-clause-at c = stands_own c.requires

pub store-requires-clause-store : goal.store-requires-clause-store
store-requires-clause-store c = acts_own c.requires _ refl

pub load-found-requires-clause-at : goal.load-found-requires-clause-at
load-found-requires-clause-at c = stands_own (names_ann c.requires c.store.ensures).0

pub load-found-requires-clause-load : goal.load-found-requires-clause-load
load-found-requires-clause-load c = acts_own (names_ann c.requires c.store.ensures).0 _ refl

pub follow-requires-clause-room : goal.follow-requires-clause-room
follow-requires-clause-room c = room_then (names_ann c.requires c.store.ensures).0 c.load-found.ensures

pub returns-else-is_same-clause-next : goal.returns-else-is_same-clause-next
returns-else-is_same-clause-next c = let named = names_ann c.requires c.store.ensures in then named _ _ c.follow.result (leads named.0 c.load-found.ensures c.follow.result c.follow.new.scratch c.follow.ensures.next c.follow.ensures.same)

pub read_notice-requires : goal.read_notice-requires
read_notice-requires c = (holds_ann (names_ann c.requires c.store.ensures).0 c.load-found.ensures (sym c.is_same.ensures ∙ c.if-is_same.true)).0

pub returns-then-is_same-clause-next : goal.returns-then-is_same-clause-next
returns-then-is_same-clause-next c = let named = names_ann c.requires c.store.ensures in let held = holds_ann named.0 c.load-found.ensures (sym c.is_same.ensures ∙ c.if-is_same.true) in
    then named _ _ c.help_on.result (then held _ _ c.help_on.result (then c.read_notice.ensures _ _ c.help_on.result c.help_on.ensures.next))
