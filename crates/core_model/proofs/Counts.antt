-- In a proper history each group stands once.
use Rattle.std.proofs.Common.{◌≡◌, ℕ, zero, suc, ◌+◌, ◌<◌, ◌≤◌, eqb, ◌&&◌, Bool, true, false, cond, List, [], ◌∷◌, ◌++◌, length, map, count_by, refl, sym, ap, ◌∙◌, eq-eqb, ne_eqb, arith}
use Rattle.std.proofs.lemmas.List.Sums.{sum_by-append}
use mathlib.Core.Logic.{dite}
use native.Mathlib.Decide.{ℕ_discrete}
use Rattle.std.specs.List.{range_with_len}
use Rattle.bq_model.specs.declared.group.Group.{Group}
use Rattle.bq_model.specs.Own.{mine}
use Rattle.bq_model.specs.Proper.{IsProper}
use Rattle.core_model.specs.Once.{times}

abbrev one : Bool → ℕ
one b = cond b 1 0

-- a count goes on behind the first element
count_first : {A : Type 0} → (p : A → Bool) (x : A) (xs : List A) → count_by p (x ∷ xs) ≡ one (p x) + count_by p xs
count_first p x xs = sum_by-append (λ y. cond (p y) 1 0) (x ∷ []) xs ∙ (let first : 0 + one (p x) ≡ one (p x) = omega arith in ap (λ n. n + count_by p xs) first)

-- the groups of one caller
of_mine : (c b : ℕ) (h : List Group) → count_by (λ (x : Group). eqb x.caller c && eqb x.batch b) h ≡ count_by (λ (x : Group). eqb x.batch b) (mine h c)
of_mine c b [] = refl
of_mine c b (g ∷ h) = count_first (λ (x : Group). eqb x.caller c && eqb x.batch b) g h ∙ by (eqb g.caller c) (of_mine c b h) where
  by : (own : Bool) → count_by (λ (x : Group). eqb x.caller c && eqb x.batch b) h ≡ count_by (λ (x : Group). eqb x.batch b) (mine h c)
      → one (own && eqb g.batch b) + count_by (λ (x : Group). eqb x.caller c && eqb x.batch b) h ≡ count_by (λ (x : Group). eqb x.batch b) (cond own (g ∷ mine h c) (mine h c))
  by true e = ap (λ (n : ℕ). one (eqb g.batch b) + n) e ∙ sym (count_first (λ (x : Group). eqb x.batch b) g (mine h c))
  by false e = let n = e in omega arith

of_numbers : (b : ℕ) (gs : List Group) → count_by (λ (x : Group). eqb x.batch b) gs ≡ count_by (λ (n : ℕ). eqb n b) (map (λ (x : Group). x.batch) gs)
of_numbers b [] = refl
of_numbers b (g ∷ gs) = count_first (λ (x : Group). eqb x.batch b) g gs ∙ (ap (λ (n : ℕ). one (eqb g.batch b) + n) (of_numbers b gs) ∙ sym (count_first (λ (n : ℕ). eqb n b) g.batch (map (λ (x : Group). x.batch) gs)))

-- a number below a range is not in it, and each number is in it once at most
none_below : (b a n : ℕ) → b < a → count_by (λ (x : ℕ). eqb x b) (range_with_len a n) ≡ 0
none_below b a zero below = refl
none_below b a (suc n) below = count_first (λ (x : ℕ). eqb x b) a (range_with_len (a + 1) n) ∙ (let rest = none_below b (a + 1) n (omega arith) in let first = ap one (ne_eqb a b (λ e. omega arith)) in omega arith)

once_at_most : (b a n : ℕ) → count_by (λ (x : ℕ). eqb x b) (range_with_len a n) ≤ 1
once_at_most b a zero = omega arith
once_at_most b a (suc n) = let all = count_first (λ (x : ℕ). eqb x b) a (range_with_len (a + 1) n) in dite (ℕ_discrete a b)
    (λ same. let rest = none_below b (a + 1) n (omega arith) in let first = ap one (eq-eqb a b same) in omega arith)
    (λ apart. let rest = once_at_most b (a + 1) n in let first = ap one (ne_eqb a b apart) in omega arith)

pub stands_once : (callers : ℕ) (before behind : List Group) (g : Group) → IsProper callers ((before ++ g ∷ []) ++ behind) → times g ((before ++ g ∷ []) ++ behind) ≡ 1
stands_once callers before behind g proper = let h = (before ++ g ∷ []) ++ behind in let most = once_at_most g.batch 0 (length (mine h g.caller)) in let numbers = ap (count_by (λ (n : ℕ). eqb n g.batch)) (proper.numbered g.caller) in
    let counted = of_mine g.caller g.batch h ∙ of_numbers g.batch (mine h g.caller) in
    let parts = sum_by-append (λ (x : Group). cond (eqb x.caller g.caller && eqb x.batch g.batch) 1 0) (before ++ g ∷ []) behind in
    let parts' = sum_by-append (λ (x : Group). cond (eqb x.caller g.caller && eqb x.batch g.batch) 1 0) before (g ∷ []) in
    let own : one (eqb g.caller g.caller && eqb g.batch g.batch) ≡ one true = λ i. one (eq-eqb g.caller g.caller refl i && eq-eqb g.batch g.batch refl i) in omega arith
