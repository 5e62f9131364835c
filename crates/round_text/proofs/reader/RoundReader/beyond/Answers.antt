use Rattle.std.proofs.Common.{◌<◌, ◌∙◌, ℕ, List, length, sym, ap, subst}
use Rattle.round_text.specs.declared.reader.Next.{Next}
use Rattle.round_text.specs.Reading.{Reading}
use Rattle.round_text.specs.Coming.{Comes}
use Rattle.round_text.proofs.ReaderLemmas.{has_byte, beyond_some, beyond_more}
use Rattle.round_text.proofs.reader.RoundReader.beyond.Goals as goal

pub returns-then-not-is_empty-clause-comes : goal.returns-then-not-is_empty-clause-comes
returns-then-not-is_empty-clause-comes g c =
    let at = c.args.self.now in
    let left = g.S.Source.left c.args.source.now in
    let ahead_is = c.as_slice.ensures ∙ ap (λ (r : Reading). r.ahead) c.self.view_is in
    let some : 0 < length at.ahead = subst (λ (bytes : List ℕ). 0 < length bytes) ahead_is (has_byte c.as_slice.result.now (sym c.is_empty.ensures ∙ c.if-not-is_empty.true)) in
    subst (λ (next : Next). Comes next at at left left) (sym c.refused.ensures) (beyond_some at left c.requires some)

pub returns-then-branch-clause-comes : goal.returns-then-branch-clause-comes
returns-then-branch-clause-comes g c =
    let at = c.args.self.now in
    let before = g.S.Source.left c.args.source.now in
    let after = g.S.Source.left c.read.new.source in
    let new : Reading = record { number = c.self.inside.number; ahead = c.read.new.self } in
    let took = c.in_ok-read.ensures.took in
    subst (λ (next : Next). Comes next at new before after) (sym c.refused-then-branch.ensures) (beyond_more at before after took.piece c.requires took.is_taken (took.some c.if-branch.true))
