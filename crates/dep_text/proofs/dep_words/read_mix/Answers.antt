use Rattle.std.proofs.Common.{ℕ, List, ◌∷◌, ap, ◌∙◌}
use Rattle.std.proofs.lemmas.Result.{err_from_is_err_and}
use Rattle.dep_text.specs.DepWords.{mix_of}
use Rattle.dep_text.proofs.SoFarLemmas.{ReadsPart-both, no_word}
use Rattle.dep_text.proofs.dep_words.read_mix.Goals as goal

pub returns-in_err-start : goal.returns-in_err-start
returns-in_err-start c =
    let returned = err_from_is_err_and c.from_residual.result c.from_residual.ensures.1 in
    let none = no_word c.next-2.new.self c.next-3.new.self c.next-3.result c.next-3.ensures.steps c.if-is_some.ensures in
    let second = ap (λ (more : List (List ℕ)). c.in-Some-next.turns.now ∷ more) none in
    let words_are = c.in-Some.ensures.steps ∙ ap (λ (more : List (List ℕ)). c.in-Some.start.now ∷ more) (c.in-Some-next.ensures.steps ∙ second) in
    rw (returned.1, returned.2) (ReadsPart-both _ c.read_arg.result _ _ _ c.in_err-start.field-0.0 c.read_arg.ensures (ap (mix_of c.args.jobs.now) words_are) (c.in_err-start.ensures _ c.read_turns.ensures))
