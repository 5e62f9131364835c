use Rattle.std.proofs.Common.{ℕ, List, ◌++◌, Contains, sym, subst, ◌∙◌, arith}
use Rattle.bq_lane_tests.proofs.Lasts.{among_four}
use Rattle.bq_lane_tests.proofs.four.pass_on_and_close.Goals as goal

pub close-book-requires-clause-every_caller : goal.close-book-requires-clause-every_caller
close-book-requires-clause-every_caller g c = λ n below. let r = c.requires.every_caller in let four = c.requires.four in
    subst (λ (cs : List ℕ). Contains cs n) (sym (c.in_ok-all.ensures.callers ∙ (λ j. (r.0 j ++ r.1 j) ++ (r.2 j ++ r.3 j))))
    (among_four n (omega (arith, below, four)))
