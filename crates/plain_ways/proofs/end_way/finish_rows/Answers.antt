use Rattle.lane_course.specs.declared.next.Next.TheVariants.{Ends}
use Rattle.std.proofs.Common.{◌∙◌, ℕ, List, ap, sym, refl, nat_lt}
use Rattle.lane_steps.specs.Close.{to_pass}
use Rattle.lane_course.specs.Scratch.{keeping}
use Rattle.plain_ways.proofs.Finishes.{marks_dummy, marks_nothing}
use Rattle.lane_course.proofs.Ways.{then_next}
use Rattle.plain_ways.proofs.end_way.finish_rows.Goals as goal

pub mark_rows-requires : goal.mark_rows-requires
mark_rows-requires c = (marks_dummy c.args.stopped c.args.dummy c.requires.led.1 (ap (λ (n : ℕ). nat_lt 0 (to_pass n c.args.stopped)) (sym (c.len.ensures ∙ c.args.scratch.now.walked.ok.0)) ∙ sym c.if-was_passed.ensures)).0

pub returns-then-was_passed-clause-next : goal.returns-then-was_passed-clause-next
returns-then-was_passed-clause-next c = λ p led. then_next (marks_dummy c.args.stopped c.args.dummy led (ap (λ (n : ℕ). nat_lt 0 (to_pass n c.args.stopped)) (sym (c.len.ensures ∙ c.args.scratch.now.walked.ok.0)) ∙ sym c.if-was_passed.ensures)) _ _ (Ends c.args.closing) c.mark_rows.ensures.next

pub finish-requires : goal.finish-requires
finish-requires c = record { led = (c.requires.led.0, marks_nothing c.args.stopped c.args.dummy c.requires.led.1 _ (ap (λ (n : ℕ). nat_lt 0 (to_pass n c.args.stopped)) (sym (c.len.ensures ∙ c.args.scratch.now.walked.ok.0)) ∙ sym c.if-was_passed.ensures) (λ k. ap (λ (rows : List ℕ). record (keeping k c.args.scratch.now) { walked = rows }) c.clear.ensures.items) (record { puts = refl; room = record { puts = refl; rows = refl; values = refl; walked = c.clear.ensures.capacity; retired = refl; named = refl } })) }

pub returns-else-was_passed-clause-next : goal.returns-else-was_passed-clause-next
returns-else-was_passed-clause-next c = λ p led. c.finish.ensures.next p (marks_nothing c.args.stopped c.args.dummy led _ (ap (λ (n : ℕ). nat_lt 0 (to_pass n c.args.stopped)) (sym (c.len.ensures ∙ c.args.scratch.now.walked.ok.0)) ∙ sym c.if-was_passed.ensures) (λ k. ap (λ (rows : List ℕ). record (keeping k c.args.scratch.now) { walked = rows }) c.clear.ensures.items) (record { puts = refl; room = record { puts = refl; rows = refl; values = refl; walked = c.clear.ensures.capacity; retired = refl; named = refl } }))
