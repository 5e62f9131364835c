use Rattle.lane_course.specs.declared.next.Next.TheVariants.{Ends}
use Rattle.std.proofs.Common.{◌∙◌, ℕ, List, ap, sym}
use Rattle.node_guard.specs.Retired.{first_unheld}
use Rattle.plain_ways.proofs.Finishes.{frees_one, frees_none}
use Rattle.lane_course.proofs.Ways.{then_next}
use Rattle.plain_ways.proofs.end_way.free_unheld.Goals as goal

pub free_rows-requires : goal.free_rows-requires
free_rows-requires c = (frees_one c.requires.led.1 c.in-Some.row (ap (λ (held : List ℕ). first_unheld held c.args.scratch.now.retired.items) (sym c.as_slice.ensures.value) ∙ sym c.in-Some.ensures.first_unheld_is_told)).0

pub returns-in-Some-clause-next : goal.returns-in-Some-clause-next
returns-in-Some-clause-next c = λ p led. then_next (frees_one led c.in-Some.row (ap (λ (held : List ℕ). first_unheld held c.args.scratch.now.retired.items) (sym c.as_slice.ensures.value) ∙ sym c.in-Some.ensures.first_unheld_is_told)) _ _ (Ends c.args.closing) c.free_rows.ensures.next

pub returns-in-None-clause-next : goal.returns-in-None-clause-next
returns-in-None-clause-next c = λ p led. frees_none led (ap (λ (held : List ℕ). first_unheld held c.args.scratch.now.retired.items) (sym c.as_slice.ensures.value) ∙ sym c.in-None.ensures.first_unheld_is_told)
