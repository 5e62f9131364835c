use Rattle.lane_course.specs.declared.next.Next.TheVariants.{Ends}
use Rattle.std.proofs.Common.{◌∙◌, ℕ, Bool, List, ap, sym, refl, nat_lt, arith}
use Rattle.std.proofs.lemmas.List.{nil_from_length}
use Rattle.word_rows.specs.declared.marks.Marks.{Marks}
use Rattle.lane_steps.specs.Close.{both_set, to_pass}
use Rattle.lane_steps.specs.Step.{retires}
use Rattle.lane_course.specs.Scratch.{keeping}
use Rattle.plain_ways.proofs.Finishes.{marked, marks_one, marks_none}
use Rattle.lane_course.proofs.Ways.{here, next, on, room, same_then}
use Rattle.plain_ways.proofs.end_way.mark_rows.Goals as goal

pub retire-requires : goal.retire-requires
retire-requires c = record { room = (room c.rows.invariant.along _ _ c.join-found.ensures).1 }

pub overflow_add-count : goal.overflow_add-count
overflow_add-count c = let below = (room c.rows.invariant.along _ _ c.join-found.ensures).0 in omega (arith, below)

pub rows-preserved : goal.rows-preserved
rows-preserved c = let i = c.rows.invariant in let a = c.rows.scratch in let b = c.retire.new.scratch in let d = record b { walked = c.pop_front.new.self } in
    let led = marked _ _ c.join-found.ensures b (here i.along.runs) (λ k. c.retire.ensures.retired k ∙ ap (λ (both : Bool). retires (keeping k a) c.rows.row both) (c.both_set.ensures ∙ ap (λ (m : Marks). both_set m c.rows.read c.rows.passed) c.mark_in.ensures)) c.retire.ensures.same in
    let step = marks_one c.args.stopped (record { row = c.rows.row; count = c.rows.count }) led c.in-Some.next d c.was_passed-passed.result c.in-Some.ensures.items (c.was_passed-passed.ensures ∙ ap (λ (n : ℕ). nat_lt 0 (to_pass n c.args.stopped)) (c.len.ensures ∙ d.walked.ok.0)) (λ k. refl) (record { puts = refl; room = record { puts = refl; rows = refl; values = refl; walked = c.in-Some.ensures.capacity; retired = refl; named = refl } }) in record {
      along = on i.along step;
      at_hand = same_then i.at_hand (same_then c.retire.ensures.same (record { puts = refl; room = record { puts = refl; rows = refl; values = refl; walked = c.in-Some.ensures.capacity; retired = refl; named = refl } }));
    }

pub rows-smaller : goal.rows-smaller
rows-smaller c = let i = c.rows.invariant in let a = c.rows.scratch in let b = c.retire.new.scratch in let d = record b { walked = c.pop_front.new.self } in
    let led = marked _ _ c.join-found.ensures b (here i.along.runs) (λ k. c.retire.ensures.retired k ∙ ap (λ (both : Bool). retires (keeping k a) c.rows.row both) (c.both_set.ensures ∙ ap (λ (m : Marks). both_set m c.rows.read c.rows.passed) c.mark_in.ensures)) c.retire.ensures.same in
    (marks_one c.args.stopped (record { row = c.rows.row; count = c.rows.count }) led c.in-Some.next d c.was_passed-passed.result c.in-Some.ensures.items (c.was_passed-passed.ensures ∙ ap (λ (n : ℕ). nat_lt 0 (to_pass n c.args.stopped)) (c.len.ensures ∙ d.walked.ok.0)) (λ k. refl) (record { puts = refl; room = record { puts = refl; rows = refl; values = refl; walked = c.in-Some.ensures.capacity; retired = refl; named = refl } })).2

pub finish-requires : goal.finish-requires
finish-requires c = let i = c.rows.invariant in let a = c.rows.scratch in let b = c.retire.new.scratch in let d = record b { walked = c.pop_front.new.self } in
    let led = marked _ _ c.join-found.ensures b (here i.along.runs) (λ k. c.retire.ensures.retired k ∙ ap (λ (both : Bool). retires (keeping k a) c.rows.row both) (c.both_set.ensures ∙ ap (λ (m : Marks). both_set m c.rows.read c.rows.passed) c.mark_in.ensures)) c.retire.ensures.same in
    record { led = (c.rows.token, marks_none c.args.stopped (record { row = c.rows.row; count = c.rows.count }) led d (nil_from_length b.walked.items (sym b.walked.ok.0 ∙ c.in-None.ensures.cases.0)) (λ k. ap (λ (rows : List ℕ). record (keeping k b) { walked = rows }) (nil_from_length d.walked.items (sym d.walked.ok.0 ∙ c.in-None.ensures.cases.1))) (record { puts = refl; room = record { puts = refl; rows = refl; values = refl; walked = c.in-None.ensures.capacity; retired = refl; named = refl } })) }

pub returns-in-None-clause-next : goal.returns-in-None-clause-next
returns-in-None-clause-next c = let i = c.rows.invariant in let a = c.rows.scratch in let b = c.retire.new.scratch in let d = record b { walked = c.pop_front.new.self } in
    let led = marked _ _ c.join-found.ensures b (here i.along.runs) (λ k. c.retire.ensures.retired k ∙ ap (λ (both : Bool). retires (keeping k a) c.rows.row both) (c.both_set.ensures ∙ ap (λ (m : Marks). both_set m c.rows.read c.rows.passed) c.mark_in.ensures)) c.retire.ensures.same in
    next i.along _ _ (Ends c.args.closing) (c.finish.ensures.next c.rows.token (marks_none c.args.stopped (record { row = c.rows.row; count = c.rows.count }) led d (nil_from_length b.walked.items (sym b.walked.ok.0 ∙ c.in-None.ensures.cases.0)) (λ k. ap (λ (rows : List ℕ). record (keeping k b) { walked = rows }) (nil_from_length d.walked.items (sym d.walked.ok.0 ∙ c.in-None.ensures.cases.1))) (record { puts = refl; room = record { puts = refl; rows = refl; values = refl; walked = c.in-None.ensures.capacity; retired = refl; named = refl } })))
