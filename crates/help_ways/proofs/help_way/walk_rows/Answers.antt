use Rattle.std.proofs.Common.{◌≡◌, suc, ◌-◌, refl, sym, ◌∙◌, arith}
use Rattle.help_ways.proofs.RowSteps.{walk_more, walk_last}
use Rattle.help_ways.proofs.Single.{stands_own, acts_own, room_then, leads, then, at_last, along}
use Rattle.help_ways.proofs.help_way.walk_rows.Goals as goal

pub load-found-requires-clause-at : goal.load-found-requires-clause-at
load-found-requires-clause-at c = stands_own c.rows.invariant.along.runs

pub load-found-requires-clause-load : goal.load-found-requires-clause-load
load-found-requires-clause-load c = acts_own c.rows.invariant.along.runs _ refl

pub follow-requires-clause-room : goal.follow-requires-clause-room
follow-requires-clause-room c = room_then c.rows.invariant.along.runs c.load-found.ensures

pub returns-in_default-clause-next : goal.returns-in_default-clause-next
returns-in_default-clause-next c = let i = c.rows.invariant in at_last i.along _ _ c.follow.result (leads i.along.runs c.load-found.ensures c.follow.result c.follow.new.scratch c.follow.ensures.next c.follow.ensures.same)

pub move_head-requires : goal.move_head-requires
move_head-requires c = let i = c.rows.invariant in (walk_last i.along.runs c.load-found.ensures c.in-Some.next (sym c.row_in.ensures ∙ c.in-Some.is) c.if-left-eq0.true).0

pub returns-then-left-eq0-clause-next : goal.returns-then-left-eq0-clause-next
returns-then-left-eq0-clause-next c = let i = c.rows.invariant in at_last i.along _ _ c.move_head.result (then (walk_last i.along.runs c.load-found.ensures c.in-Some.next (sym c.row_in.ensures ∙ c.in-Some.is) c.if-left-eq0.true) _ _ c.move_head.result c.move_head.ensures.next)

pub rows-preserved : goal.rows-preserved
rows-preserved c = let i = c.rows.invariant in let some = c.if-left-eq0.false in let more : c.rows.left ≡ suc (c.rows.left - 1) = omega (arith, some) in record {
  along = along i.along (walk_more i.along.runs c.load-found.ensures c.in-Some.next (sym c.row_in.ensures ∙ c.in-Some.is) (c.rows.left - 1) more);
  at_hand = i.at_hand;
}
