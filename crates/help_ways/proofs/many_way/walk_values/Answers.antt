use Rattle.std.proofs.Common.{◌≡◌, suc, ◌-◌, refl, sym, ◌∙◌, arith}
use Rattle.help_ways.proofs.RowSteps.{many_behind, many_more, many_last}
use Rattle.help_ways.proofs.Single.{stands_own, acts_own, room_then, leads, then, at_last, along, same_then}
use Rattle.help_ways.proofs.many_way.walk_values.Goals as goal

pub load-requires-clause-at : goal.load-requires-clause-at
load-requires-clause-at c = stands_own c.values.invariant.along.runs

pub load-requires-clause-load : goal.load-requires-clause-load
load-requires-clause-load c = acts_own c.values.invariant.along.runs _ refl

pub pass_tail-requires : goal.pass_tail-requires
pass_tail-requires c = (many_last c.values.invariant.along.runs c.load.ensures c.value_in-value.result c.value_in-value.ensures c.remember.new.scratch c.remember.ensures.one_more c.remember.ensures.same c.if-left-eq0.true).0

pub returns-then-left-eq0-clause-next : goal.returns-then-left-eq0-clause-next
returns-then-left-eq0-clause-next c = let i = c.values.invariant in at_last i.along _ _ c.pass_tail.result (then (many_last i.along.runs c.load.ensures c.value_in-value.result c.value_in-value.ensures c.remember.new.scratch c.remember.ensures.one_more c.remember.ensures.same c.if-left-eq0.true) _ _ c.pass_tail.result c.pass_tail.ensures.next)

pub load-found-requires-clause-at : goal.load-found-requires-clause-at
load-found-requires-clause-at c = let i = c.values.invariant in let some = c.if-left-eq0.false in let more : c.values.left ≡ suc (c.values.left - 1) = omega (arith, some) in
    stands_own (many_more i.along.runs c.load.ensures c.value_in-value.result c.value_in-value.ensures c.remember.new.scratch c.remember.ensures.one_more c.remember.ensures.same (c.values.left - 1) more).0

pub load-found-requires-clause-load : goal.load-found-requires-clause-load
load-found-requires-clause-load c = let i = c.values.invariant in let some = c.if-left-eq0.false in let more : c.values.left ≡ suc (c.values.left - 1) = omega (arith, some) in
    acts_own (many_more i.along.runs c.load.ensures c.value_in-value.result c.value_in-value.ensures c.remember.new.scratch c.remember.ensures.one_more c.remember.ensures.same (c.values.left - 1) more).0 _ refl

pub follow-requires-clause-room : goal.follow-requires-clause-room
follow-requires-clause-room c = let i = c.values.invariant in let some = c.if-left-eq0.false in let more : c.values.left ≡ suc (c.values.left - 1) = omega (arith, some) in
    room_then (many_more i.along.runs c.load.ensures c.value_in-value.result c.value_in-value.ensures c.remember.new.scratch c.remember.ensures.one_more c.remember.ensures.same (c.values.left - 1) more).0 c.load-found.ensures

pub returns-in_default-clause-next : goal.returns-in_default-clause-next
returns-in_default-clause-next c = let i = c.values.invariant in let some = c.if-left-eq0.false in let more : c.values.left ≡ suc (c.values.left - 1) = omega (arith, some) in
    let on = many_more i.along.runs c.load.ensures c.value_in-value.result c.value_in-value.ensures c.remember.new.scratch c.remember.ensures.one_more c.remember.ensures.same (c.values.left - 1) more in
    at_last i.along _ _ c.follow.result (then on _ _ c.follow.result (leads on.0 c.load-found.ensures c.follow.result c.follow.new.scratch c.follow.ensures.next c.follow.ensures.same))

pub values-preserved : goal.values-preserved
values-preserved c = let i = c.values.invariant in let some = c.if-left-eq0.false in let more : c.values.left ≡ suc (c.values.left - 1) = omega (arith, some) in
    let linked = many_more i.along.runs c.load.ensures c.value_in-value.result c.value_in-value.ensures c.remember.new.scratch c.remember.ensures.one_more c.remember.ensures.same (c.values.left - 1) more in record {
      along = along (along i.along linked) (many_behind linked.0 c.load-found.ensures c.in-Some.next (sym c.row_in.ensures ∙ c.in-Some.is));
      same = same_then i.same c.remember.ensures.same;
    }
