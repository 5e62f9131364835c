use Rattle.lane_course.specs.declared.next.Next.TheVariants.{Ends}
use Rattle.std.proofs.Common.{◌∙◌, ℕ, List, ap, sym, refl}
use Rattle.std.proofs.lemmas.List.{nil_from_length}
use Rattle.lane_course.specs.Scratch.{keeping}
use Rattle.plain_ways.proofs.Finishes.{lost_one, loses_one, loses_none}
use Rattle.lane_course.proofs.Ways.{here, next, on, room, same_then}
use Rattle.plain_ways.proofs.end_way.lose_rows.Goals as goal

pub put-requires : goal.put-requires
put-requires c = room c.rows.invariant.along _ _ c.join.ensures

pub rows-preserved : goal.rows-preserved
rows-preserved c = let i = c.rows.invariant in let a = c.rows.scratch in let b = record a { retired = c.put.new.self } in let d = record b { rows = c.pop_front.new.self } in
    let led = lost_one _ _ c.join.ensures b (here i.along.runs) (λ k. ap (λ (rows : List ℕ). record (keeping k a) { retired = rows }) c.put.ensures.put_last) (record { puts = refl; room = record { puts = refl; rows = refl; values = refl; walked = refl; retired = c.put.ensures.capacity_stays; named = refl } }) in
    let step = loses_one led c.in-Some.other d c.in-Some.ensures.items (λ k. refl) (record { puts = refl; room = record { puts = refl; rows = c.in-Some.ensures.capacity; values = refl; walked = refl; retired = refl; named = refl } }) in record {
      along = on i.along step;
      at_hand = same_then i.at_hand (record { puts = refl; room = record { puts = refl; rows = c.in-Some.ensures.capacity; values = refl; walked = refl; retired = c.put.ensures.capacity_stays; named = refl } });
    }

pub rows-smaller : goal.rows-smaller
rows-smaller c = let i = c.rows.invariant in let a = c.rows.scratch in let b = record a { retired = c.put.new.self } in let d = record b { rows = c.pop_front.new.self } in
    let led = lost_one _ _ c.join.ensures b (here i.along.runs) (λ k. ap (λ (rows : List ℕ). record (keeping k a) { retired = rows }) c.put.ensures.put_last) (record { puts = refl; room = record { puts = refl; rows = refl; values = refl; walked = refl; retired = c.put.ensures.capacity_stays; named = refl } }) in
    (loses_one led c.in-Some.other d c.in-Some.ensures.items (λ k. refl) (record { puts = refl; room = record { puts = refl; rows = c.in-Some.ensures.capacity; values = refl; walked = refl; retired = refl; named = refl } })).2

pub clear_node-requires : goal.clear_node-requires
clear_node-requires c = let i = c.rows.invariant in let a = c.rows.scratch in let b = record a { retired = c.put.new.self } in let d = record b { rows = c.pop_front.new.self } in
    let led = lost_one _ _ c.join.ensures b (here i.along.runs) (λ k. ap (λ (rows : List ℕ). record (keeping k a) { retired = rows }) c.put.ensures.put_last) (record { puts = refl; room = record { puts = refl; rows = refl; values = refl; walked = refl; retired = c.put.ensures.capacity_stays; named = refl } }) in
    record { led = (c.rows.token, loses_none led d (nil_from_length a.rows.items (sym a.rows.ok.0 ∙ c.in-None.ensures.cases.0)) (λ k. ap (λ (rows : List ℕ). record (keeping k b) { rows = rows }) (nil_from_length d.rows.items (sym d.rows.ok.0 ∙ c.in-None.ensures.cases.1))) (record { puts = refl; room = record { puts = refl; rows = c.in-None.ensures.capacity; values = refl; walked = refl; retired = refl; named = refl } })) }

pub returns-in-None-clause-next : goal.returns-in-None-clause-next
returns-in-None-clause-next c = let i = c.rows.invariant in let a = c.rows.scratch in let b = record a { retired = c.put.new.self } in let d = record b { rows = c.pop_front.new.self } in
    let led = lost_one _ _ c.join.ensures b (here i.along.runs) (λ k. ap (λ (rows : List ℕ). record (keeping k a) { retired = rows }) c.put.ensures.put_last) (record { puts = refl; room = record { puts = refl; rows = refl; values = refl; walked = refl; retired = c.put.ensures.capacity_stays; named = refl } }) in
    next i.along _ _ (Ends c.args.closing) (c.clear_node.ensures.next c.rows.token (loses_none led d (nil_from_length a.rows.items (sym a.rows.ok.0 ∙ c.in-None.ensures.cases.0)) (λ k. ap (λ (rows : List ℕ). record (keeping k b) { rows = rows }) (nil_from_length d.rows.items (sym d.rows.ok.0 ∙ c.in-None.ensures.cases.1))) (record { puts = refl; room = record { puts = refl; rows = c.in-None.ensures.capacity; values = refl; walked = refl; retired = refl; named = refl } })))
