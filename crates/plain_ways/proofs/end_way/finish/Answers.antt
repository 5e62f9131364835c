use Rattle.lane_course.specs.declared.next.Next.TheVariants.{Ends}
use Rattle.std.proofs.Common.{◌∙◌, ℕ, List, ap, sym, refl}
use Rattle.std.proofs.lemmas.List.{nil_from_length}
use Rattle.lane_course.specs.Scratch.{keeping}
use Rattle.plain_ways.proofs.Finishes.{closes_rising, loses_one, loses_none}
use Rattle.lane_course.proofs.Ways.{then_next}
use Rattle.plain_ways.proofs.end_way.finish.Goals as goal

pub lose_rows-requires : goal.lose_rows-requires
lose_rows-requires c = let a = c.args.scratch.now in let b = record a { rows = c.put_in_order.new.rows } in let d = record b { rows = c.pop_front.new.self } in
    (loses_one (closes_rising c.requires.led.1 b (λ k. ap (λ (rows : List ℕ). record (keeping k a) { rows = rows }) c.put_in_order.ensures.rising) (record { puts = refl; room = record { puts = refl; rows = c.put_in_order.ensures.capacity; values = refl; walked = refl; retired = refl; named = refl } })) c.in-Some.row d c.in-Some.ensures.items (λ k. refl) (record { puts = refl; room = record { puts = refl; rows = c.in-Some.ensures.capacity; values = refl; walked = refl; retired = refl; named = refl } })).0

pub returns-in-Some-clause-next : goal.returns-in-Some-clause-next
returns-in-Some-clause-next c = let a = c.args.scratch.now in let b = record a { rows = c.put_in_order.new.rows } in let d = record b { rows = c.pop_front.new.self } in
    λ p led. then_next (loses_one (closes_rising led b (λ k. ap (λ (rows : List ℕ). record (keeping k a) { rows = rows }) c.put_in_order.ensures.rising) (record { puts = refl; room = record { puts = refl; rows = c.put_in_order.ensures.capacity; values = refl; walked = refl; retired = refl; named = refl } })) c.in-Some.row d c.in-Some.ensures.items (λ k. refl) (record { puts = refl; room = record { puts = refl; rows = c.in-Some.ensures.capacity; values = refl; walked = refl; retired = refl; named = refl } })) _ _ (Ends c.args.closing) c.lose_rows.ensures.next

pub clear_node-requires : goal.clear_node-requires
clear_node-requires c = let a = c.args.scratch.now in let b = record a { rows = c.put_in_order.new.rows } in let d = record b { rows = c.pop_front.new.self } in
    record { led = (c.requires.led.0, loses_none (closes_rising c.requires.led.1 b (λ k. ap (λ (rows : List ℕ). record (keeping k a) { rows = rows }) c.put_in_order.ensures.rising) (record { puts = refl; room = record { puts = refl; rows = c.put_in_order.ensures.capacity; values = refl; walked = refl; retired = refl; named = refl } })) d (nil_from_length b.rows.items (sym b.rows.ok.0 ∙ c.in-None.ensures.cases.0)) (λ k. ap (λ (rows : List ℕ). record (keeping k b) { rows = rows }) (nil_from_length d.rows.items (sym d.rows.ok.0 ∙ c.in-None.ensures.cases.1))) (record { puts = refl; room = record { puts = refl; rows = c.in-None.ensures.capacity; values = refl; walked = refl; retired = refl; named = refl } })) }

pub returns-in-None-clause-next : goal.returns-in-None-clause-next
returns-in-None-clause-next c = let a = c.args.scratch.now in let b = record a { rows = c.put_in_order.new.rows } in let d = record b { rows = c.pop_front.new.self } in
    λ p led. c.clear_node.ensures.next p (loses_none (closes_rising led b (λ k. ap (λ (rows : List ℕ). record (keeping k a) { rows = rows }) c.put_in_order.ensures.rising) (record { puts = refl; room = record { puts = refl; rows = c.put_in_order.ensures.capacity; values = refl; walked = refl; retired = refl; named = refl } })) d (nil_from_length b.rows.items (sym b.rows.ok.0 ∙ c.in-None.ensures.cases.0)) (λ k. ap (λ (rows : List ℕ). record (keeping k b) { rows = rows }) (nil_from_length d.rows.items (sym d.rows.ok.0 ∙ c.in-None.ensures.cases.1))) (record { puts = refl; room = record { puts = refl; rows = c.in-None.ensures.capacity; values = refl; walked = refl; retired = refl; named = refl } }))
