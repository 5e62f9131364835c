-- Runs of values, and functions that go on as another.
use Rattle.std.proofs.Common.{◌≡◌, ◌≢◌, ℕ, zero, suc, ◌+◌, ◌-◌, ◌<◌, ◌≤◌, ltb, Bool, cond, List, ◌∷◌, ◌++◌, length, take, drop, sym, refl, ap, ◌∙◌, arith, Option, Some, ◌⊎◌, inl, inr}
use Rattle.std.proofs.lemmas.Bool.{lt-ltb, le-ltb}
use mathlib.Core.Logic.{dite}
use native.Mathlib.Decide.{ℕ_discrete}
use Rattle.lane_steps.specs.Functions.{put, run}
use Rattle.core_model.proofs.Puts.{put_here, put_else}

pub length-run : (f : ℕ → ℕ) (i n : ℕ) → length (run f i n) ≡ n
length-run f i zero = refl
length-run f i (suc n) = ap suc (length-run f (suc i) n)

-- a run of as many values of two functions, from i on and from j on
pub run_moved : (f g : ℕ → ℕ) (i j n : ℕ) → ((x : ℕ) → x < n → f (i + x) ≡ g (j + x)) → run f i n ≡ run g j n
run_moved f g i j zero same = refl
run_moved f g i j (suc n) same = λ k. (ap f (let e : i ≡ i + 0 = omega arith in e) ∙ (same 0 (omega arith) ∙ ap g (let e : j + 0 ≡ j = omega arith in e))) k
    ∷ run_moved f g (suc i) (suc j) n (λ x below. ap f (let e : suc i + x ≡ i + suc x = omega arith in e) ∙ (same (suc x) (omega arith) ∙ ap g (let e : j + suc x ≡ suc j + x = omega arith in e))) k

pub run_parted : (f : ℕ → ℕ) (i n m : ℕ) → run f i (n + m) ≡ run f i n ++ run f (i + n) m
run_parted f i zero m = (λ k. run f ((let e : i ≡ i + 0 = omega arith in e) k) ((let e : 0 + m ≡ m = omega arith in e) k))
run_parted f i (suc n) m = ap (run f i) (let e : suc n + m ≡ suc (n + m) = omega arith in e)
    ∙ ap (λ (xs : List ℕ). f i ∷ xs) (run_parted f (suc i) n m ∙ ap (λ (j : ℕ). run f (suc i) n ++ run f j m) (omega arith))

pub take-run : (f : ℕ → ℕ) (i n m : ℕ) → m ≤ n → take m (run f i n) ≡ run f i m
take-run f i n zero le = refl
take-run f i zero (suc m) le = absurd (omega arith)
take-run f i (suc n) (suc m) le = ap (λ (xs : List ℕ). f i ∷ xs) (take-run f (suc i) n m (omega arith))

pub drop-run : (f : ℕ → ℕ) (i n m : ℕ) → m ≤ n → drop m (run f i n) ≡ run f (i + m) (n - m)
drop-run f i n zero le = λ k. run f ((let e : i ≡ i + 0 = omega arith in e) k) ((let e : n ≡ n - 0 = omega arith in e) k)
drop-run f i zero (suc m) le = absurd (omega arith)
drop-run f i (suc n) (suc m) le = drop-run f (suc i) n m (omega arith) ∙ (λ k. run f ((let e : suc i + m ≡ i + suc m = omega arith in e) k) ((let e : n - m ≡ suc n - suc m = omega arith in e) k))

-- f below n, and g from there on
abbrev pub then : {A : Type 0} → ℕ → (ℕ → A) → (ℕ → A) → ℕ → A
then n f g j = cond (ltb j n) (f j) (g (j - n))

module _ {A : Type 0} (n : ℕ) (f g : ℕ → A) where
  pub then_old : (j : ℕ) → j < n → then n f g j ≡ f j
  then_old j below = ap (λ (b : Bool). cond b (f j) (g (j - n))) (lt-ltb j n below)

  pub then_new : (j i : ℕ) → j ≡ n + i → then n f g j ≡ g i
  then_new j i e = ap (λ (b : Bool). cond b (f j) (g (j - n))) (le-ltb j n (omega arith)) ∙ ap g (omega arith)

-- the first m rows of a chain stand at the places from n on
abbrev pub placed : (ℕ → ℕ) → ℕ → ℕ → (ℕ → Option ℕ) → ℕ → Option ℕ
placed chain n zero spot r = spot r
placed chain n (suc m) spot r = put (placed chain n m spot) (chain m) (Some (n + m)) r

pub placed_else : (chain : ℕ → ℕ) (n m : ℕ) (spot : ℕ → Option ℕ) (r : ℕ) → ((i : ℕ) → i < m → chain i ≢ r) → placed chain n m spot r ≡ spot r
placed_else chain n zero spot r apart = refl
placed_else chain n (suc m) spot r apart = put_else (placed chain n m spot) (chain m) (Some (n + m)) r (λ e. apart m (omega arith) (sym e)) ∙ placed_else chain n m spot r (λ i below. apart i (omega arith))

pub placed_here : (chain : ℕ → ℕ) (n m : ℕ) (spot : ℕ → Option ℕ) → ((i j : ℕ) → i < j → j < m → chain i ≢ chain j) → (i : ℕ) → i < m → placed chain n m spot (chain i) ≡ Some (n + i)
placed_here chain n zero spot apart i below = absurd (omega arith)
placed_here chain n (suc m) spot apart i below = dite (ℕ_discrete i m)
    (λ e. ap (placed chain n (suc m) spot) (ap chain e) ∙ (put_here (placed chain n m spot) (chain m) (Some (n + m)) ∙ ap (λ (j : ℕ). Some (n + j)) (sym e)))
    (λ ne. put_else (placed chain n m spot) (chain m) (Some (n + m)) (chain i) (apart i m (omega arith) (omega arith)) ∙ placed_here chain n m spot (λ i j less inside. apart i j less (omega arith)) i (omega arith))

-- a row that has a position then is one of these, or it had that
pub placed_which : (chain : ℕ → ℕ) (n m : ℕ) (spot : ℕ → Option ℕ) (r i : ℕ) → placed chain n m spot r ≡ Some i → ((j : ℕ) × (j < m) × (chain j ≡ r) × (i ≡ n + j)) ⊎ (spot r ≡ Some i)
placed_which chain n zero spot r i at = inr at
placed_which chain n (suc m) spot r i at = dite (ℕ_discrete r (chain m))
    (λ e. inl (m, omega arith, sym e, one (sym at ∙ (ap (placed chain n (suc m) spot) e ∙ put_here (placed chain n m spot) (chain m) (Some (n + m))))))
    (λ ne. more (placed_which chain n m spot r i (sym (put_else (placed chain n m spot) (chain m) (Some (n + m)) r ne) ∙ at))) where
      one : {i j : ℕ} → Some i ≡ Some j → i ≡ j
      one e = cc e

      more : ((j : ℕ) × (j < m) × (chain j ≡ r) × (i ≡ n + j)) ⊎ (spot r ≡ Some i) → ((j : ℕ) × (j < suc m) × (chain j ≡ r) × (i ≡ n + j)) ⊎ (spot r ≡ Some i)
      more (inl (j, below, is, count)) = inl (j, omega arith, is, count)
      more (inr old) = inr old
