use Rattle.lane_course.specs.declared.next.Next.TheVariants.{Ends}
use Rattle.lane_steps.specs.declared.point.Closing.TheVariants.{Batch}
use Rattle.std.proofs.Common.{◌≡◌, suc, ◌-◌, refl, sym, ◌∙◌, arith}
use Rattle.help_ways.proofs.RowSteps.{answer_behind, answer_more, answer_last}
use Rattle.help_ways.proofs.Single.{stands_own, acts_own, leads, room_then, then, at_last, along, same_then}
use Rattle.help_ways.proofs.answer_way.read_values.Goals as goal

pub load-link-requires-clause-at : goal.load-link-requires-clause-at
load-link-requires-clause-at c = stands_own c.values.invariant.along.runs

pub load-link-requires-clause-load : goal.load-link-requires-clause-load
load-link-requires-clause-load c = acts_own c.values.invariant.along.runs _ refl

pub load-requires-clause-at : goal.load-requires-clause-at
load-requires-clause-at c = stands_own (answer_behind c.values.invariant.along.runs c.load-link.ensures c.in-Some.next (sym c.row_in.ensures ∙ c.in-Some.is)).0

pub load-requires-clause-load : goal.load-requires-clause-load
load-requires-clause-load c = acts_own (answer_behind c.values.invariant.along.runs c.load-link.ensures c.in-Some.next (sym c.row_in.ensures ∙ c.in-Some.is)).0 _ refl

pub returns-in_default-clause-next : goal.returns-in_default-clause-next
returns-in_default-clause-next c = let i = c.values.invariant in at_last i.along _ _ c.follow.result (leads i.along.runs c.load-link.ensures c.follow.result c.follow.new.scratch c.follow.ensures.next c.follow.ensures.same)

pub follow-requires-clause-room : goal.follow-requires-clause-room
follow-requires-clause-room c = room_then c.values.invariant.along.runs c.load-link.ensures

pub finish_rows-requires : goal.finish_rows-requires
finish_rows-requires c = let i = c.values.invariant in let behind = answer_behind i.along.runs c.load-link.ensures c.in-Some.next (sym c.row_in.ensures ∙ c.in-Some.is) in
    record { led = (c.load-link.new.token, answer_last behind.0 c.load.ensures c.value_in-value.result c.value_in-value.ensures c.remember.new.scratch c.remember.ensures.one_more c.remember.ensures.same c.if-left-eq0.true) }

pub returns-then-left-eq0-clause-next : goal.returns-then-left-eq0-clause-next
returns-then-left-eq0-clause-next c = let i = c.values.invariant in let behind = answer_behind i.along.runs c.load-link.ensures c.in-Some.next (sym c.row_in.ensures ∙ c.in-Some.is) in
    at_last i.along _ _ (Ends (Batch c.args.reading.queued)) (then behind _ _ (Ends (Batch c.args.reading.queued)) (c.finish_rows.ensures.next c.load-link.new.token (answer_last behind.0 c.load.ensures c.value_in-value.result c.value_in-value.ensures c.remember.new.scratch c.remember.ensures.one_more c.remember.ensures.same c.if-left-eq0.true)))

pub values-preserved : goal.values-preserved
values-preserved c = let i = c.values.invariant in let some = c.if-left-eq0.false in let more : c.values.left ≡ suc (c.values.left - 1) = omega (arith, some) in
    let behind = answer_behind i.along.runs c.load-link.ensures c.in-Some.next (sym c.row_in.ensures ∙ c.in-Some.is) in record {
      along = along (along i.along behind) (answer_more behind.0 c.load.ensures c.value_in-value.result c.value_in-value.ensures c.remember.new.scratch c.remember.ensures.one_more c.remember.ensures.same (c.values.left - 1) more);
      same = same_then i.same c.remember.ensures.same;
    }
