-- Functions with one value changed, and runs of values.
use Rattle.std.proofs.Common.{◌≡◌, ◌≢◌, ℕ, zero, suc, ◌+◌, ◌<◌, ◌≤◌, Bool, true, false, cond, List, [], ◌∷◌, ◌++◌, sym, refl, ap, ◌∙◌, subst, eq-eqb, ne_eqb, arith, eqb}
use mathlib.Core.Logic.{dite}
use native.Mathlib.Decide.{ℕ_discrete}
use Rattle.lane_steps.specs.Functions.{put, run}

module _ {A : Type 0} (f : ℕ → A) (i : ℕ) (x : A) where
  pub put_here : put f i x i ≡ x
  put_here = ap (λ (b : Bool). cond b x (f i)) (eq-eqb i i refl)

  pub put_else : (j : ℕ) → j ≢ i → put f i x j ≡ f j
  put_else j apart = ap (λ (b : Bool). cond b x (f j)) (ne_eqb j i apart)

  -- a fact of the new value, and of the old ones elsewhere
  pub put_all : (P : ℕ → A → Type 0) → P i x → ((j : ℕ) → j ≢ i → P j (f j)) → (j : ℕ) → P j (put f i x j)
  put_all P here there j = dite (ℕ_discrete j i)
      (λ same. subst (λ (k : ℕ). P k (put f i x k)) (sym same) (subst (P i) (sym put_here) here))
      (λ apart. subst (P j) (sym (put_else j apart)) (there j apart))

-- the value that is there already
pub put_same : {A : Type 0} → (f : ℕ → A) (i : ℕ) → put f i (f i) ≡ f
put_same f i = λ k j. put_all f i (f i) (λ n y. y ≡ f n) refl (λ n _. refl) j k

twice : {A : Type 0} → (b : Bool) (x y z : A) → cond b y (cond b x z) ≡ cond b y z
twice true x y z = refl
twice false x y z = refl

-- changed twice at the same place
pub put_twice : {A : Type 0} → (f : ℕ → A) (i : ℕ) (x y : A) → put (put f i x) i y ≡ put f i y
unfolding twice
put_twice f i x y = λ k j. twice (eqb j i) x y (f j) k

pub run_last : (f : ℕ → ℕ) (i n : ℕ) → run f i (suc n) ≡ run f i n ++ f (i + n) ∷ []
run_last f i zero = ap (λ (k : ℕ). f k ∷ []) (omega arith)
run_last f i (suc n) = ap (λ (xs : List ℕ). f i ∷ xs) (run_last f (suc i) n ∙ ap (λ (k : ℕ). run f (suc i) n ++ f k ∷ []) (omega arith))

-- one more value behind the position d
pub run_next : (f : ℕ → ℕ) (d n : ℕ) → run f (suc d) n ++ f (suc (d + n)) ∷ [] ≡ run f (suc d) (suc n)
run_next f d n = ap (λ (y : ℕ). run f (suc d) n ++ f y ∷ []) (let e : suc (d + n) ≡ suc d + n = omega arith in e) ∙ sym (run_last f (suc d) n)

pub run_same : (f g : ℕ → ℕ) (i n : ℕ) → ((j : ℕ) → i ≤ j → j < i + n → f j ≡ g j) → run f i n ≡ run g i n
run_same f g i zero same = refl
run_same f g i (suc n) same = λ k. same i (omega arith) (omega arith) k ∷ run_same f g (suc i) n (λ j above below. same j (omega arith) (omega arith)) k
