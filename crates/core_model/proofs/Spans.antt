-- Functions with the values of a run of numbers changed to one.
use Rattle.std.proofs.Common.{◌≡◌, ℕ, zero, suc, ◌+◌, ◌<◌, ◌≤◌, sym, refl, ap, ◌∙◌, subst, arith}
use mathlib.Core.Logic.{dite}
use native.Mathlib.Decide.{dec_le, ℕ_discrete}
use Rattle.lane_steps.specs.Functions.{put}
use Rattle.core_model.proofs.Puts.{put_here, put_else}

-- f, but x at n numbers from this one on
abbrev pub put_run : {A : Type 0} → (ℕ → A) → ℕ → ℕ → A → ℕ → A
put_run f from zero x i = f i
put_run f from (suc n) x i = put (put_run f from n x) (from + n) x i

module _ {A : Type 0} (f : ℕ → A) (from : ℕ) where
  pub run_in : (n : ℕ) (x : A) (i : ℕ) → from ≤ i → i < from + n → put_run f from n x i ≡ x
  run_in zero x i above below = absurd (omega arith)
  run_in (suc n) x i above below = dite (ℕ_discrete i (from + n)) (λ e. ap (put (put_run f from n x) (from + n) x) e ∙ put_here (put_run f from n x) (from + n) x)
      (λ apart. put_else (put_run f from n x) (from + n) x i apart ∙ run_in n x i above (omega arith))

  pub run_out : (n : ℕ) (x : A) (i : ℕ) → (from ≤ i → i < from + n → ⊥) → put_run f from n x i ≡ f i
  run_out zero x i off = refl
  run_out (suc n) x i off = put_else (put_run f from n x) (from + n) x i (λ e. off (omega arith) (omega arith)) ∙ run_out n x i (λ above below. off above (omega arith))

  -- a fact of the new values, and of the old ones elsewhere
  pub run_all : (n : ℕ) (x : A) (P : ℕ → A → Type 0) → ((i : ℕ) → from ≤ i → i < from + n → P i x) → ((i : ℕ) → (from ≤ i → i < from + n → ⊥) → P i (f i)) → (i : ℕ) → P i (put_run f from n x i)
  run_all n x P inside outside i = dite (dec_le from i)
      (λ above. dite (dec_le (suc i) (from + n)) (λ below. subst (P i) (sym (run_in n x i above below)) (inside i above below)) (λ late. let off : from ≤ i → i < from + n → ⊥ = λ _ l. late l in subst (P i) (sym (run_out n x i off)) (outside i off)))
      (λ early. let off : from ≤ i → i < from + n → ⊥ = λ l _. early l in subst (P i) (sym (run_out n x i off)) (outside i off))
