use Rattle.std.proofs.Common.{List, ℕ, length, sym, ap, ◌∙◌, arith, rules}
use Rattle.text_lines.proofs.LineLemmas.{lines_of-first, lines_of-last}
use Rattle.text_lines.proofs.lines.LinesIterator.next.Goals as goal

pub returns-in-Some-clause-steps : goal.returns-in-Some-clause-steps
returns-in-Some-clause-steps c = sym c.self.view_is ∙ lines_of-first c.self.inside.rest.now c.in-Some.end c.in-Some.ensures

pub returns-in-None-clause-steps : goal.returns-in-None-clause-steps
returns-in-None-clause-steps c =
    sym c.self.view_is ∙ lines_of-last c.self.inside.rest.now (search rules) c.in-None.ensures

pub returns-in-Some-clause-goes : goal.returns-in-Some-clause-goes
returns-in-Some-clause-goes c =
    let shorter = ap (λ (lines : List (List ℕ)). length lines) (returns-in-Some-clause-steps c) in
    record {
      on = λ _. (search rules, search rules, omega arith);
      keeps = search rules;
      rests = search rules;
    }
