-- The stock of a caller's announcements: who owns one, which is picked, and what a list of them has.
use Rattle.std.proofs.Common.{◌≡◌, ◌≢◌, ℕ, ◌+◌, ◌-◌, ◌*◌, ◌<◌, Bool, true, false, List, [], ◌∷◌, ◌++◌, length, sym, refl, ap, ◌∙◌, subst, arith, eq-eqb}
use Rattle.std.proofs.lemmas.List.Folds.{list_any-append}
use Rattle.std.proofs.lemmas.Nat.{div-mul-add}
use Rattle.std.proofs.Math.Nat.{div-lt_iff_lt-mul}
use mathlib.Core.Logic.{dite}
use native.Mathlib.Decide.{dec_le}
use Rattle.std.specs.Prelude.{nat_eq, ◌||◌}
use Rattle.node_guard.specs.Pick.{among, pick}
use Rattle.node_guard.proofs.Picks.{pick_right}
use Rattle.lane_steps.specs.LaneSizes.{LaneSizes}
use Rattle.lane_steps.specs.Batches.{owner_of}

-- who owns an announcement of the lane is one of its callers
pub owner_inside : (z : LaneSizes) (a c : ℕ) → a < z.callers * z.callers → owner_of z a ≡ c → c < z.callers
owner_inside z a c inside own = subst (λ (d : ℕ). d < z.callers) own ((div-lt_iff_lt-mul some).1 inside) where
  some : 0 < z.callers
  some = dite (dec_le 1 z.callers) (λ l. l) (λ none. let zero_callers : z.callers ≡ 0 = omega arith in let bad : a < 0 * 0 = subst (λ (n : ℕ). a < n * n) zero_callers inside in absurd (omega arith))

-- and an announcement that one of the callers owns is one of the lane
pub ann_inside : (z : LaneSizes) (a c : ℕ) → c < z.callers → owner_of z a ≡ c → a < z.callers * z.callers
ann_inside z a c known own = (div-lt_iff_lt-mul (omega arith)).0 (subst (λ (d : ℕ). d < z.callers) (sym own) known)

-- what is picked is the caller's own
pub pick_own : (z : LaneSizes) (c : ℕ) (xs : List ℕ) → length xs < z.callers → owner_of z (pick z.callers c xs) ≡ c
pick_own z c xs short = let r = pick_right z.callers c xs short in let from = r.0 in let below = r.1 in
    ap (owner_of z) (let e : pick z.callers c xs ≡ c * z.callers + (pick z.callers c xs - c * z.callers) = omega arith in e) ∙ div-mul-add c z.callers (pick z.callers c xs - c * z.callers) (omega arith)

-- one more in the list
pub among-push : (xs : List ℕ) (a x : ℕ) → among (xs ++ a ∷ []) x ≡ false → (among xs x ≡ false) × (x ≢ a)
among-push xs a x off = by (among xs x) refl (nat_eq a x) refl (sym (list_any-append (λ (y : ℕ). nat_eq y x) xs (a ∷ [])) ∙ off) where
  differ : true ≡ false → ⊥
  differ e = cc e

  by : (b : Bool) → among xs x ≡ b → (d : Bool) → nat_eq a x ≡ d → (b || (d || false)) ≡ false → (among xs x ≡ false) × (x ≢ a)
  by true _ d _ e = absurd (differ e)
  by false is true _ e = absurd (differ e)
  by false is false other e = (is, λ same. differ (sym (eq-eqb a x (sym same)) ∙ other))
