use Rattle.std.proofs.Common.{refl, sym, ◌∙◌}
use Rattle.help_ways.proofs.Helps.{sees_tail, names_tail, holds_tail, looks_again}
use Rattle.help_ways.proofs.Single.{stands_own, acts_own, then_on}
use Rattle.help_ways.proofs.help_tail.hold_tail.Goals as goal

pub load-requires-clause-at : goal.load-requires-clause-at
load-requires-clause-at c = stands_own c.requires

pub load-requires-clause-load : goal.load-requires-clause-load
load-requires-clause-load c = acts_own c.requires _ refl

pub store-requires-clause-at : goal.store-requires-clause-at
store-requires-clause-at c = stands_own (sees_tail c.requires c.load.ensures c.tail_in-tail.result c.tail_in-tail.ensures).0

pub store-requires-clause-store : goal.store-requires-clause-store
store-requires-clause-store c = acts_own (sees_tail c.requires c.load.ensures c.tail_in-tail.result c.tail_in-tail.ensures).0 _ refl

pub load-found-requires-clause-at : goal.load-found-requires-clause-at
load-found-requires-clause-at c = stands_own (names_tail (sees_tail c.requires c.load.ensures c.tail_in-tail.result c.tail_in-tail.ensures).0 c.store.ensures).0

pub load-found-requires-clause-load : goal.load-found-requires-clause-load
load-found-requires-clause-load c = acts_own (names_tail (sees_tail c.requires c.load.ensures c.tail_in-tail.result c.tail_in-tail.ensures).0 c.store.ensures).0 _ refl

pub returns-then-is_same-clause-next : goal.returns-then-is_same-clause-next
returns-then-is_same-clause-next c = let seen = sees_tail c.requires c.load.ensures c.tail_in-tail.result c.tail_in-tail.ensures in let named = names_tail seen.0 c.store.ensures in
    then_on seen (then_on named (holds_tail named.0 c.load-found.ensures (sym c.is_same.ensures ∙ c.if-is_same.true)))

pub returns-else-is_same-clause-next : goal.returns-else-is_same-clause-next
returns-else-is_same-clause-next c = let seen = sees_tail c.requires c.load.ensures c.tail_in-tail.result c.tail_in-tail.ensures in let named = names_tail seen.0 c.store.ensures in
    then_on seen (then_on named (looks_again named.0 c.load-found.ensures (sym c.is_same.ensures ∙ c.if-is_same.false)))
