-- Lists of numbers: whether one is among them, where it stands, and one more at the end.
use Rattle.std.proofs.Common.{◌≡◌, ◌≢◌, ◌⊎◌, ℕ, zero, suc, ◌+◌, ◌<◌, ◌≤◌, Bool, true, false, List, [], ◌∷◌, ◌++◌, length, get_or, sym, refl, ap, ◌∙◌, subst, arith, eq-eqb, ne_eqb, inl, inr, ⊎_elim}
use mathlib.Core.Logic.{dite}
use native.Mathlib.Decide.{ℕ_discrete}
use Rattle.std.specs.Prelude.{nat_eq, ◌||◌}
use Rattle.node_guard.specs.Pick.{among}
use Rattle.lane_steps.specs.Functions.{Distinct, upto}
use Rattle.core_model.proofs.Rely.{true_false}

pub among_here : (xs : List ℕ) (x r : ℕ) → x ≡ r → among (x ∷ xs) r ≡ true
among_here xs x r e = ap (λ (b : Bool). b || among xs r) (eq-eqb x r e)

pub among_there : (xs : List ℕ) (x r : ℕ) → among xs r ≡ true → among (x ∷ xs) r ≡ true
among_there xs x r e = by (nat_eq x r) where
  by : (b : Bool) → (b || among xs r) ≡ true
  by true = refl
  by false = e

pub among_else : (xs : List ℕ) (x r : ℕ) → x ≢ r → among (x ∷ xs) r ≡ among xs r
among_else xs x r apart = ap (λ (b : Bool). b || among xs r) (ne_eqb x r apart)

pub among_none : (r : ℕ) → among [] r ≡ true → ⊥
among_none r is = true_false (sym is)

pub among_cases : (xs : List ℕ) (x r : ℕ) → among (x ∷ xs) r ≡ true → (x ≡ r) ⊎ (among xs r ≡ true)
among_cases xs x r is = dite (ℕ_discrete x r) (λ e. inl e) (λ apart. inr (sym (among_else xs x r apart) ∙ is))

pub among_one : (x r : ℕ) → among (x ∷ []) r ≡ true → x ≡ r
among_one x r is = by (among_cases [] x r is) where
  by : (x ≡ r) ⊎ (among [] r ≡ true) → x ≡ r
  by (inl e) = e
  by (inr none) = absurd (among_none r none)

-- with one more at the end
pub among_last : (xs : List ℕ) (x r : ℕ) → x ≡ r → among (xs ++ x ∷ []) r ≡ true
among_last [] x r e = among_here [] x r e
among_last (y ∷ xs) x r e = among_there (xs ++ x ∷ []) y r (among_last xs x r e)

pub among_before : (xs : List ℕ) (x r : ℕ) → among xs r ≡ true → among (xs ++ x ∷ []) r ≡ true
among_before [] x r is = absurd (among_none r is)
among_before (y ∷ xs) x r is = ⊎_elim (λ (e : y ≡ r). among_here (xs ++ x ∷ []) y r e) (λ (there : among xs r ≡ true). among_there (xs ++ x ∷ []) y r (among_before xs x r there)) (among_cases xs y r is)

pub among_pushed : (xs : List ℕ) (x r : ℕ) → among (xs ++ x ∷ []) r ≡ true → (x ≡ r) ⊎ (among xs r ≡ true)
among_pushed [] x r is = inl (among_one x r is)
among_pushed (y ∷ xs) x r is = ⊎_elim (λ (e : y ≡ r). inr (among_here xs y r e)) (λ (there : among (xs ++ x ∷ []) r ≡ true). further (among_pushed xs x r there)) (among_cases (xs ++ x ∷ []) y r is) where
  further : (x ≡ r) ⊎ (among xs r ≡ true) → (x ≡ r) ⊎ (among (y ∷ xs) r ≡ true)
  further (inl e) = inl e
  further (inr there) = inr (among_there xs y r there)

pub not_among : (xs : List ℕ) (r : ℕ) → (among xs r ≡ true → ⊥) → among xs r ≡ false
not_among xs r never = by (among xs r) refl where
  by : (b : Bool) → among xs r ≡ b → b ≡ false
  by true is = absurd (never is)
  by false _ = refl

pub distinct_push : (xs : List ℕ) (x : ℕ) → Distinct xs → among xs x ≡ false → Distinct (xs ++ x ∷ [])
distinct_push [] x d off = (refl, tt)
distinct_push (y ∷ xs) x d off = (
  not_among (xs ++ x ∷ []) y (λ is. by (among_pushed xs x y is)),
  distinct_push xs x d.1 (not_among xs x (λ is. true_false (sym (among_there xs y x is) ∙ off))),
) where
  by : (x ≡ y) ⊎ (among xs y ≡ true) → ⊥
  by (inl e) = true_false (sym (among_here xs y x (sym e)) ∙ off)
  by (inr is) = true_false (sym is ∙ d.0)

-- so many numbers from one on
pub among_upto : (from n r : ℕ) → from ≤ r → r < from + n → among (upto from n) r ≡ true
among_upto from zero r above below = absurd (omega arith)
among_upto from (suc n) r above below = dite (ℕ_discrete from r) (λ e. among_here (upto (suc from) n) from r e) (λ apart. among_there (upto (suc from) n) from r (among_upto (suc from) n r (omega arith) (omega arith)))

-- by its number
pub get_before : (xs : List ℕ) (x l : ℕ) → l < length xs → get_or (xs ++ x ∷ []) l 0 ≡ get_or xs l 0
get_before [] x l below = absurd (omega arith)
get_before (y ∷ xs) x zero below = refl
get_before (y ∷ xs) x (suc l) below = get_before xs x l (omega arith)

pub get_last : (xs : List ℕ) (x : ℕ) → get_or (xs ++ x ∷ []) (length xs) 0 ≡ x
get_last [] x = refl
get_last (y ∷ xs) x = get_last xs x

pub among_at : (xs : List ℕ) (l : ℕ) → l < length xs → among xs (get_or xs l 0) ≡ true
among_at [] l below = absurd (omega arith)
among_at (y ∷ xs) zero below = among_here xs y y refl
among_at (y ∷ xs) (suc l) below = among_there xs y (get_or xs l 0) (among_at xs l (omega arith))

pub among_index : (xs : List ℕ) (r : ℕ) → among xs r ≡ true → (l : ℕ) × (l < length xs) × (get_or xs l 0 ≡ r)
among_index [] r is = absurd (among_none r is)
among_index (x ∷ xs) r is = ⊎_elim (λ (e : x ≡ r). (0, omega arith, e)) (λ (there : among xs r ≡ true). further (among_index xs r there)) (among_cases xs x r is) where
  further : (l : ℕ) × (l < length xs) × (get_or xs l 0 ≡ r) → (l : ℕ) × (l < length (x ∷ xs)) × (get_or (x ∷ xs) l 0 ≡ r)
  further y = let l = y.1 in (suc y.0, omega arith, y.2)

pub distinct_at : (xs : List ℕ) (i j : ℕ) → Distinct xs → i < j → j < length xs → get_or xs i 0 ≢ get_or xs j 0
distinct_at [] i j d less below e = absurd (omega arith)
distinct_at (x ∷ xs) zero zero d less below e = absurd (omega arith)
distinct_at (x ∷ xs) zero (suc j) d less below e = true_false (sym (subst (λ (y : ℕ). among xs y ≡ true) (sym e) (among_at xs j (omega arith))) ∙ d.0)
distinct_at (x ∷ xs) (suc i) zero d less below e = absurd (omega arith)
distinct_at (x ∷ xs) (suc i) (suc j) d less below e = distinct_at xs i j d.1 (omega arith) (omega arith) e
