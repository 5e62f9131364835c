use Rattle.std.proofs.Common.{ℕ, List, ◌∷◌, Option, ap, ◌∙◌}
use Rattle.std.proofs.lemmas.Result.{err_from_is_err_and}
use Rattle.text_lines.specs.Parts.{or_bad_number}
use Rattle.dep_text.specs.DepWords.{count_of}
use Rattle.dep_text.proofs.SoFarLemmas.{ReadsPart-both, no_word}
use Rattle.dep_text.proofs.dep_words.read_count.Goals as goal

pub returns-in_err-byte : goal.returns-in_err-byte
returns-in_err-byte c =
    let returned = err_from_is_err_and c.from_residual.result c.from_residual.ensures.1 in
    let none = no_word c.next-2.new.self c.next-3.new.self c.next-3.result c.next-3.ensures.steps c.if-is_some.ensures in
    let second = ap (λ (more : List (List ℕ)). c.in-Some-next.bytes.now ∷ more) none in
    let words_are = c.in-Some.ensures.steps ∙ ap (λ (more : List (List ℕ)). c.in-Some.byte.now ∷ more) (c.in-Some-next.ensures.steps ∙ second) in
    let byte_is = c.ok_or-byte.ensures.value ∙ ap (λ (found : Option ℕ). or_bad_number found) c.byte_word.ensures in
    rw (returned.1, returned.2) (ReadsPart-both _ c.ok_or-byte.result _ _ _ c.in_err-byte.field-0.0 byte_is (ap (count_of c.args.jobs.now) words_are) (c.in_err-byte.ensures _ c.read_piece.ensures))
