-- Counting: a list in which no number is twice is no longer than a list that has all of its numbers.
use Rattle.std.proofs.Common.{◌≡◌, ⊎_elim, ℕ, zero, suc, ◌+◌, ◌*◌, ◌<◌, ◌≤◌, ◌||◌, Bool, true, false, cond, List, [], ◌∷◌, ◌++◌, length, map, sym, refl, ap, ◌∙◌, subst, arith, ne_eqb, eq-eqb, length-append}
use Rattle.std.specs.Prelude.{nat_eq, filter}
use Rattle.std.specs.List.{IsDistinct, AllByRecursion}
use Rattle.std.proofs.lemmas.Bool.Decides.{Decides-eqb}
use Rattle.std.proofs.lemmas.Cmp.{nat_eq_equiv}
use Rattle.std.proofs.lemmas.List.Folds.{list_any-append}
use Rattle.std.proofs.lemmas.Map.Made.{is_member-Decides, length-le_from_is_member}
use mathlib.Core.Logic.{dite}
use native.Mathlib.Decide.{ℕ_discrete}
use Rattle.node_guard.specs.Pick.{among}
use Rattle.node_guard.proofs.Picks.{among_decides}
use Rattle.lane_steps.specs.Functions.{run, Distinct}
use Rattle.core_model.proofs.Lists.{among_here, among_there, among_cases, among_none}
use Rattle.core_model.proofs.Rely.{true_false}

neither : (a b : Bool) → (a || b) ≡ false → (a ≡ false) × (b ≡ false)
neither true b is = absurd (cc is)
neither false b is = (refl, is)

others : (x : ℕ) (xs : List ℕ) → among xs x ≡ false → AllByRecursion (λ (y : ℕ). nat_eq x y ≡ false) xs
others x [] apart = tt
others x (y ∷ ys) apart = let both = neither (nat_eq y x) (among ys x) apart in (ne_eqb x y (λ e. true_false (sym (eq-eqb y x (sym e)) ∙ both.0)), others x ys both.1)

distinct : (xs : List ℕ) → Distinct xs → IsDistinct nat_eq xs
unfolding IsDistinct
distinct [] d = tt
distinct (x ∷ xs) d = (others x xs d.0, distinct xs d.1)

pub no_more : (xs ys : List ℕ) → Distinct xs → ((r : ℕ) → among xs r ≡ true → among ys r ≡ true) → length xs ≤ length ys
no_more xs ys d all = length-le_from_is_member nat_eq_equiv xs ys (distinct xs d)
    (λ r is. (is_member-Decides Decides-eqb ys r).1 ((among_decides ys r).0 (all r ((among_decides xs r).1 ((is_member-Decides Decides-eqb xs r).0 is)))))

-- what is among the first rows, or among the others, is among all
pub among_first : (xs ys : List ℕ) (r : ℕ) → among xs r ≡ true → among (xs ++ ys) r ≡ true
among_first xs ys r is = list_any-append (λ (y : ℕ). nat_eq y r) xs ys ∙ ap (λ (b : Bool). b || among ys r) is

pub among_rest : (xs ys : List ℕ) (r : ℕ) → among ys r ≡ true → among (xs ++ ys) r ≡ true
among_rest xs ys r is = list_any-append (λ (y : ℕ). nat_eq y r) xs ys ∙ by (among xs r) (among ys r) is where
  by : (a b : Bool) → b ≡ true → (a || b) ≡ true
  by true b e = refl
  by false b e = e

-- the lists of so many callers, one behind another
abbrev pub gathered : (ℕ → List ℕ) → ℕ → List ℕ
gathered f zero = []
gathered f (suc n) = f n ++ gathered f n

pub among_gathered : (f : ℕ → List ℕ) (n d r : ℕ) → d < n → among (f d) r ≡ true → among (gathered f n) r ≡ true
among_gathered f zero d r below is = absurd (omega arith)
among_gathered f (suc n) d r below is = dite (ℕ_discrete d n) (λ same. among_first (f n) (gathered f n) r (subst (λ (k : ℕ). among (f k) r ≡ true) same is))
    (λ ne. among_rest (f n) (gathered f n) r (among_gathered f n d r (omega arith) is))

pub length_gathered : (f : ℕ → List ℕ) (n most : ℕ) → ((d : ℕ) → d < n → length (f d) ≤ most) → length (gathered f n) ≤ n * most
length_gathered f zero most fits = omega arith
length_gathered f (suc n) most fits = let first = fits n (omega arith) in let rest = length_gathered f n most (λ d below. fits d (omega arith)) in
    let both = length-append (f n) (gathered f n) in let times : suc n * most ≡ most + n * most = omega arith in omega (arith, first, rest, both, times)

-- a value of a run, of those that pass a test, and of a list of values
pub among_run : (f : ℕ → ℕ) (a n i : ℕ) → a ≤ i → i < a + n → among (run f a n) (f i) ≡ true
among_run f a zero i from below = absurd (omega arith)
among_run f a (suc n) i from below = dite (ℕ_discrete i a) (λ same. among_here (run f (suc a) n) (f a) (f i) (ap f (sym same)))
    (λ ne. among_there (run f (suc a) n) (f a) (f i) (among_run f (suc a) n i (omega arith) (omega arith)))

pub among_passing : (p : ℕ → Bool) (xs : List ℕ) (r : ℕ) → among xs r ≡ true → p r ≡ true → among (filter p xs) r ≡ true
among_passing p [] r is ok = is
among_passing p (x ∷ xs) r is ok = ⊎_elim
    (λ (same : x ≡ r). subst (λ (b : Bool). among (cond b (x ∷ filter p xs) (filter p xs)) r ≡ true) (sym (ap p same ∙ ok)) (among_here (filter p xs) x r same))
    (λ (there : among xs r ≡ true). by (p x) (among_passing p xs r there ok)) (among_cases xs x r is) where
      by : (b : Bool) → among (filter p xs) r ≡ true → among (cond b (x ∷ filter p xs) (filter p xs)) r ≡ true
      by true h = among_there (filter p xs) x r h
      by false h = h

pub among_map : (f : ℕ → ℕ) (xs : List ℕ) (r : ℕ) → among xs r ≡ true → among (map f xs) (f r) ≡ true
among_map f [] r is = absurd (among_none r is)
among_map f (x ∷ xs) r is = ⊎_elim (λ (same : x ≡ r). among_here (map f xs) (f x) (f r) (ap f same)) (λ (there : among xs r ≡ true). among_there (map f xs) (f x) (f r) (among_map f xs r there)) (among_cases xs x r is)
