use Rattle.std.proofs.Common.{◌≡◌, ◌∙◌, ◌<◌, ◌≤◌, ℕ, List, length, drop, false, sym, ap, subst}
use Rattle.std.proofs.lemmas.List.{take_rest}
use Rattle.bq_model.specs.declared.fault.TextCause.TheVariants.{TooLong, OpenRound}
use Rattle.text_lines.specs.Reading.{fault, most_bytes}
use Rattle.round_text.specs.declared.reader.Next.{Next}
use Rattle.round_text.specs.Stream.{is_go}
use Rattle.round_text.specs.Reading.{Reading}
use Rattle.round_text.specs.Rounds.{none_but}
use Rattle.round_text.specs.Coming.{Comes}
use Rattle.round_text.proofs.ReaderLemmas.{has_byte, at_end, last_rest, rest_short, rest_long}
use Rattle.round_text.proofs.reader.RoundReader.last.Goals as goal

pub returns-then-bytes-le-MOST_BYTES : goal.returns-then-bytes-le-MOST_BYTES
returns-then-bytes-le-MOST_BYTES c =
    let at = c.args.self.now in
    let line = c.args.line in
    let bytes = c.as_slice-bytes.result.now in
    let ahead_is : bytes ≡ at.ahead = c.as_slice-bytes.ensures ∙ ap (λ (r : Reading). r.ahead) c.self.view_is in
    let other : is_go (drop line at.ahead) ≡ false =
    ap (λ (b : List ℕ). is_go (drop line b)) (sym ahead_is) ∙ sym (ap is_go (take_rest bytes line)) ∙ sym c.is_go.ensures ∙ c.if-is_go.false in
    let some : 0 < length at.ahead = subst (λ (b : List ℕ). 0 < length b) ahead_is (has_byte bytes (sym c.is_empty.ensures ∙ c.if-is_empty.false)) in
    let short : length at.ahead ≤ most_bytes = subst (λ (b : List ℕ). length b ≤ most_bytes) ahead_is c.if-bytes-le-MOST_BYTES.true in
    λ left end. subst (λ (next : Next). Comes next at at left left) (sym c.refused.ensures)
    (at_end (none_but at.number (fault 1 OpenRound)) at left end
    (last_rest at.number at.ahead line c.requires.lines c.requires.no_feed c.requires.not_beyond other
    ∙ rest_short at.number c.requires.not_beyond at.ahead some short))

pub returns : goal.returns
returns c =
    let at = c.args.self.now in
    let line = c.args.line in
    let bytes = c.as_slice-bytes.result.now in
    let ahead_is : bytes ≡ at.ahead = c.as_slice-bytes.ensures ∙ ap (λ (r : Reading). r.ahead) c.self.view_is in
    let other : is_go (drop line at.ahead) ≡ false =
    ap (λ (b : List ℕ). is_go (drop line b)) (sym ahead_is) ∙ sym (ap is_go (take_rest bytes line)) ∙ sym c.is_go.ensures ∙ c.if-is_go.false in
    let long : most_bytes < length at.ahead = subst (λ (b : List ℕ). most_bytes < length b) ahead_is c.if-bytes-le-MOST_BYTES.false in
    λ left end. subst (λ (next : Next). Comes next at at left left) (sym c.refused-2.ensures)
    (at_end (none_but at.number (fault 0 TooLong)) at left end
    (last_rest at.number at.ahead line c.requires.lines c.requires.no_feed c.requires.not_beyond other
    ∙ rest_long at.number c.requires.not_beyond at.ahead long))
