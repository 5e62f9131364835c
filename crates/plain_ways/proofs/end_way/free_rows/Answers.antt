use Rattle.std.proofs.Common.{◌∙◌, ℕ, List, ap, sym, refl}
use Rattle.node_guard.specs.Retired.{first_unheld, without_first_unheld}
use Rattle.lane_course.specs.declared.next.Next.TheVariants.{Ends}
use Rattle.lane_course.specs.Scratch.{keeping}
use Rattle.plain_ways.proofs.Finishes.{freed, frees_one, frees_none}
use Rattle.lane_course.proofs.Ways.{here, next, on, same_then}
use Rattle.plain_ways.proofs.end_way.free_rows.Goals as goal

pub returns-in-None-clause-next : goal.returns-in-None-clause-next
returns-in-None-clause-next c = let i = c.rows.invariant in let a = c.rows.scratch in
    next i.along _ _ (Ends c.args.closing) (frees_none (freed _ _ c.join.ensures (record a { retired = c.take_unheld.new.self }) (here i.along.runs)
    (λ k. ap (λ (rows : List ℕ). record (keeping k a) { retired = rows }) (c.take_unheld.ensures.others_stay_in_order ∙ ap (λ (held : List ℕ). without_first_unheld held a.retired.items) c.as_slice.ensures.value))
    (record { puts = refl; room = record { puts = refl; rows = refl; values = refl; walked = refl; retired = c.take_unheld.ensures.capacity_stays; named = refl } }))
    (ap (λ (held : List ℕ). first_unheld held c.take_unheld.new.self.items) (sym c.as_slice-in-rows.ensures.value) ∙ sym c.in-None.ensures.first_unheld_is_told))

pub rows-preserved : goal.rows-preserved
rows-preserved c = let i = c.rows.invariant in let a = c.rows.scratch in record {
  along = on i.along (frees_one (freed _ _ c.join.ensures (record a { retired = c.take_unheld.new.self }) (here i.along.runs)
      (λ k. ap (λ (rows : List ℕ). record (keeping k a) { retired = rows }) (c.take_unheld.ensures.others_stay_in_order ∙ ap (λ (held : List ℕ). without_first_unheld held a.retired.items) c.as_slice.ensures.value))
      (record { puts = refl; room = record { puts = refl; rows = refl; values = refl; walked = refl; retired = c.take_unheld.ensures.capacity_stays; named = refl } }))
      c.in-Some.other (ap (λ (held : List ℕ). first_unheld held c.take_unheld.new.self.items) (sym c.as_slice-in-rows.ensures.value) ∙ sym c.in-Some.ensures.first_unheld_is_told));
  at_hand = same_then i.at_hand (record { puts = refl; room = record { puts = refl; rows = refl; values = refl; walked = refl; retired = c.take_unheld.ensures.capacity_stays; named = refl } });
}

pub rows-smaller : goal.rows-smaller
rows-smaller c = let i = c.rows.invariant in let a = c.rows.scratch in
    (frees_one (freed _ _ c.join.ensures (record a { retired = c.take_unheld.new.self }) (here i.along.runs)
    (λ k. ap (λ (rows : List ℕ). record (keeping k a) { retired = rows }) (c.take_unheld.ensures.others_stay_in_order ∙ ap (λ (held : List ℕ). without_first_unheld held a.retired.items) c.as_slice.ensures.value))
    (record { puts = refl; room = record { puts = refl; rows = refl; values = refl; walked = refl; retired = c.take_unheld.ensures.capacity_stays; named = refl } }))
    c.in-Some.other (ap (λ (held : List ℕ). first_unheld held c.take_unheld.new.self.items) (sym c.as_slice-in-rows.ensures.value) ∙ sym c.in-Some.ensures.first_unheld_is_told)).2
