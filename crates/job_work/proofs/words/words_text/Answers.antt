use Rattle.std.proofs.Common.{◌≡◌, ◌<◌, ℕ, List, [], ◌∷◌, length, refl, sym, ap, ◌∙◌, arith}
use Rattle.std.proofs.lemmas.Bool.Decides.{nat_tests}
use Rattle.job_work.specs.Words.{word_counts, entries_text, words_answer}
use Rattle.job_work.proofs.words.words_text.Goals as goal

words_answer-some : (words : List (List ℕ)) → 0 < length words → words_answer words ≡ entries_text (word_counts words)
words_answer-some [] some = absurd (omega arith)
words_answer-some (word ∷ words) some = refl

pub returns : goal.returns
returns c =
    let some : 0 < length c.args.words.now = grind (arith, nat_tests) in
    c.from-2.ensures ∙ c.in_ok-text.ensures ∙ ap entries_text c.in_ok-counts.ensures
    ∙ sym (words_answer-some c.args.words.now some)
