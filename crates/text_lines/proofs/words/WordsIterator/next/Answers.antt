use Rattle.std.proofs.Common.{List, ℕ, length, sym, ap, ◌∙◌, arith, rules}
use Rattle.text_lines.proofs.WordLemmas.{words_of-first, words_of-last}
use Rattle.text_lines.proofs.words.WordsIterator.next.Goals as goal

pub returns-in-Some-clause-steps : goal.returns-in-Some-clause-steps
returns-in-Some-clause-steps c =
    let text = c.without_blanks-text.result.now in
    sym c.self.view_is ∙ (sym c.without_blanks-text.ensures.words ∙ words_of-first text c.in-Some.end (c.without_blanks-text.ensures.begins (search rules)) c.in-Some.ensures)

pub returns-in-None-clause-steps : goal.returns-in-None-clause-steps
returns-in-None-clause-steps c =
    let text = c.without_blanks-text.result.now in
    sym c.self.view_is ∙ (sym c.without_blanks-text.ensures.words ∙ words_of-last text (search rules) c.in-None.ensures)

pub returns-in-Some-clause-goes : goal.returns-in-Some-clause-goes
returns-in-Some-clause-goes c =
    let shorter = ap (λ (words : List (List ℕ)). length words) (returns-in-Some-clause-steps c) in
    record {
      on = λ _. (search rules, search rules, omega arith);
      keeps = search rules;
      rests = search rules;
    }
