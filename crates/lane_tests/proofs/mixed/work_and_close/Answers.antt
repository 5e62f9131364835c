use Rattle.std.proofs.Common.{ℕ, List, ◌++◌, Contains, sym, subst, ◌∙◌, arith}
use Rattle.lane_tests.proofs.Lasts.{among_five}
use Rattle.lane_tests.proofs.mixed.work_and_close.Goals as goal

pub close-book-requires-clause-every_caller : goal.close-book-requires-clause-every_caller
close-book-requires-clause-every_caller g c = λ n below. let r = c.requires.every_caller in let five = c.requires.five.0 in
    subst (λ (cs : List ℕ). Contains cs n) (sym (c.gather-all.ensures.of_both ∙ (λ i. (c.in_ok-four.ensures.callers ∙ (λ j. (r.0 j ++ r.1 j) ++ (r.2 j ++ r.3 j))) i ++ (c.takes_the_rest.ensures.pass_stays.2 ∙ r.4) i)))
    (among_five n (omega (arith, below, five)))
