use Rattle.lane_course.specs.declared.next.Next.TheVariants.{Ends}
use Rattle.std.proofs.Common.{◌∙◌, List, ℕ, ap, sym, refl}
use Rattle.lane_course.specs.Scratch.{keeping}
use Rattle.plain_ways.proofs.Finishes.{scans_none, scans_some}
use Rattle.lane_course.proofs.Ways.{then_next}
use Rattle.plain_ways.proofs.end_way.scan.Goals as goal

pub returns-then-len-eq0-clause-next : goal.returns-then-len-eq0-clause-next
returns-then-len-eq0-clause-next c = λ p led. scans_none led (sym c.len.ensures ∙ c.if-len-eq0.true)

pub scan_from-requires : goal.scan_from-requires
scan_from-requires c = (scans_some c.requires.led.1 (λ none. c.if-len-eq0.false (c.len.ensures ∙ none)) (record c.args.scratch.now { named = c.clear.new.self }) (λ k. ap (λ (xs : List ℕ). record (keeping k c.args.scratch.now) { named = xs }) c.clear.ensures.items) (record { puts = refl; room = record { puts = refl; rows = refl; values = refl; walked = refl; retired = refl; named = c.clear.ensures.capacity } })).0

pub returns-clause-next : goal.returns-clause-next
returns-clause-next c = λ p led. then_next (scans_some led (λ none. c.if-len-eq0.false (c.len.ensures ∙ none)) (record c.args.scratch.now { named = c.clear.new.self }) (λ k. ap (λ (xs : List ℕ). record (keeping k c.args.scratch.now) { named = xs }) c.clear.ensures.items) (record { puts = refl; room = record { puts = refl; rows = refl; values = refl; walked = refl; retired = refl; named = c.clear.ensures.capacity } })) _ _ (Ends c.args.closing) c.scan_from.ensures.next
