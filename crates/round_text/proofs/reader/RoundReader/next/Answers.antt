use Rattle.std.proofs.Common.{◌≡◌, ◌∙◌, ◌<◌, ℕ, List, length, take, sym, ap, subst, arith}
use Rattle.std.proofs.lemmas.List.{length-take}
use Rattle.bq_model.specs.declared.fault.TextCause.TheVariants.{TooLong}
use Rattle.text_lines.specs.Reading.{fault, most_bytes}
use Rattle.round_text.specs.declared.reader.Next.{Next}
use Rattle.round_text.specs.declared.reader.Next.TheVariants.{Refused}
use Rattle.round_text.specs.Cutting.{IsOpen}
use Rattle.round_text.specs.Reading.{Reading}
use Rattle.round_text.specs.Rounds.{most_rounds, none_but}
use Rattle.round_text.specs.Coming.{Comes}
use Rattle.round_text.proofs.ReaderLemmas.{same_read, comes_later, whatever_follows}
use Rattle.round_text.proofs.LongLemmas.{long_open}
use Rattle.round_text.proofs.reader.RoundReader.next.Goals as goal

pub returns-in-Round-clause-comes : goal.returns-in-Round-clause-comes
returns-in-Round-clause-comes g c =
    let old = c.args.self.now in
    let before = g.S.Source.left c.args.source.now in
    let after = g.S.Source.left c.loop-text.source in
    let view = c.self-in-loop-text.view_is in
    let mid : Reading = record { number = c.self-in-loop-text.inside.number; ahead = c.find.new.self } in
    let read = same_read old c.loop-text.self mid before after c.loop-text.invariant.read (c.in-Round.ensures.stays ∙ ap (λ (r : Reading). r.ahead) view) (ap (λ (r : Reading). r.number) view) in
    comes_later c.in_ok-round-in-Round.field-0 old mid c.round.new.self before after read (c.in_ok-round-in-Round.ensures after)

pub returns-then-line-gt-MOST_BYTES-clause-comes : goal.returns-then-line-gt-MOST_BYTES-clause-comes
returns-then-line-gt-MOST_BYTES-clause-comes g c =
    let old = c.args.self.now in
    let before = g.S.Source.left c.args.source.now in
    let after = g.S.Source.left c.loop-text.source in
    let view = c.self-in-loop-text.view_is in
    let line = c.in-Open.line in
    let mid : Reading = record { number = c.self-in-loop-text.inside.number; ahead = c.find.new.self } in
    let same : c.find.new.self ≡ c.self-in-loop-text.inside.ahead = c.in-Open.ensures.stays in
    let read = same_read old c.loop-text.self mid before after c.loop-text.invariant.read (same ∙ ap (λ (r : Reading). r.ahead) view) (ap (λ (r : Reading). r.number) view) in
    let found = c.in-Open.ensures.found in
    let lines : IsOpen (take line mid.ahead) = subst (λ (bytes : List ℕ). IsOpen (take line bytes)) (sym same) found.1 in
    let within = found.0 in
    let size = ap length same in
    let long : most_bytes < length (take line mid.ahead) = (let l = length-take line mid.ahead in let t = c.if-line-gt-MOST_BYTES.true in omega (arith, l, t, within, size)) in
    let below : mid.number < most_rounds = subst (λ (n : ℕ). n < most_rounds) (sym (ap (λ (r : Reading). r.number) view)) c.loop-text.invariant.below in
    subst (λ (next : Next). Comes next old mid before after) (sym c.refused.ensures)
    (comes_later (Refused (fault 0 TooLong)) old mid mid before after read
    (whatever_follows (none_but mid.number (fault 0 TooLong)) mid after (λ left. long_open mid.number mid.ahead left line below lines long)))
