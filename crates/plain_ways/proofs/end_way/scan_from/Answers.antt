use Rattle.lane_course.specs.declared.next.Next.TheVariants.{Ends}
use Rattle.std.proofs.Common.{◌≡◌, ◌+◌, ◌∙◌, ℕ, suc, List, ap, sym, refl, arith}
use Rattle.lane_steps.specs.Fill.{noted}
use Rattle.lane_course.specs.Scratch.{keeping}
use Rattle.plain_ways.proofs.Finishes.{scanned_one, scans_more, scanned}
use Rattle.lane_course.proofs.Ways.{here, next, on, same_then}
use Rattle.plain_ways.proofs.end_way.scan_from.Goals as goal

pub free_unheld-requires : goal.free_unheld-requires
free_unheld-requires c = let i = c.others.invariant in let a = c.others.scratch in let b = record a { named = c.note.new.named } in
    let led = scanned_one _ _ c.load-found.ensures b (here i.along.runs) (λ k. ap (λ (xs : List ℕ). record (keeping k a) { named = xs }) (c.note.ensures.noted ∙ ap (noted a.named.items) c.hazard_in.ensures)) (record { puts = refl; room = record { puts = refl; rows = refl; values = refl; walked = refl; retired = refl; named = c.note.ensures.capacity } }) in
    let t = c.if-other-callers.true in let e = c.callers.ensures in let last : suc c.others.other ≡ c.args.shape.now.callers = omega (arith, t, e) in record { led = (c.others.token, scanned c.others.other led last) }

pub returns-then-other-callers-clause-next : goal.returns-then-other-callers-clause-next
returns-then-other-callers-clause-next c = let i = c.others.invariant in let a = c.others.scratch in let b = record a { named = c.note.new.named } in
    let led = scanned_one _ _ c.load-found.ensures b (here i.along.runs) (λ k. ap (λ (xs : List ℕ). record (keeping k a) { named = xs }) (c.note.ensures.noted ∙ ap (noted a.named.items) c.hazard_in.ensures)) (record { puts = refl; room = record { puts = refl; rows = refl; values = refl; walked = refl; retired = refl; named = c.note.ensures.capacity } }) in
    let t = c.if-other-callers.true in let e = c.callers.ensures in let last : suc c.others.other ≡ c.args.shape.now.callers = omega (arith, t, e) in next i.along _ _ (Ends c.args.closing) (c.free_unheld.ensures.next c.others.token (scanned c.others.other led last))

pub others-preserved : goal.others-preserved
others-preserved c = let i = c.others.invariant in let a = c.others.scratch in let b = record a { named = c.note.new.named } in
    let led = scanned_one _ _ c.load-found.ensures b (here i.along.runs) (λ k. ap (λ (xs : List ℕ). record (keeping k a) { named = xs }) (c.note.ensures.noted ∙ ap (noted a.named.items) c.hazard_in.ensures)) (record { puts = refl; room = record { puts = refl; rows = refl; values = refl; walked = refl; retired = refl; named = c.note.ensures.capacity } }) in
    let n : suc c.others.other ≡ c.others.other + 1 = omega arith in record {
      along = on i.along (scans_more c.others.other (c.others.other + 1) n led (λ is. c.if-other-callers.false (is ∙ sym c.callers.ensures)));
      at_hand = same_then i.at_hand (record { puts = refl; room = record { puts = refl; rows = refl; values = refl; walked = refl; retired = refl; named = c.note.ensures.capacity } });
    }

pub others-smaller : goal.others-smaller
others-smaller c = let i = c.others.invariant in let a = c.others.scratch in let b = record a { named = c.note.new.named } in
    let led = scanned_one _ _ c.load-found.ensures b (here i.along.runs) (λ k. ap (λ (xs : List ℕ). record (keeping k a) { named = xs }) (c.note.ensures.noted ∙ ap (noted a.named.items) c.hazard_in.ensures)) (record { puts = refl; room = record { puts = refl; rows = refl; values = refl; walked = refl; retired = refl; named = c.note.ensures.capacity } }) in
    let n : suc c.others.other ≡ c.others.other + 1 = omega arith in (scans_more c.others.other (c.others.other + 1) n led (λ is. c.if-other-callers.false (is ∙ sym c.callers.ensures))).2
