-- Where each of some distinct rows is held, there are no more of them than are held.
use Rattle.std.proofs.Common.{◌≡◌, ⊎_elim, ℕ, ◌<◌, ◌≤◌, ◌||◌, nat_eq, Bool, true, false, List, [], ◌∷◌, length, Option, Some, None, IsSome, sym, refl}
use Rattle.std.specs.List.{IsDistinct, AllByRecursion}
use Rattle.std.proofs.lemmas.Bool.{cases_lt}
use Rattle.std.proofs.lemmas.Bool.Decides.{Decides-eqb}
use Rattle.std.proofs.lemmas.Map.Made.{AllPairs-from_IsDistinct}
use Rattle.node_guard.specs.Pick.{among}
use Rattle.node_guard.specs.Retired.{first_unheld}
use Rattle.node_guard.proofs.RetiredRows.{some_is_given}
use Rattle.lane_steps.specs.Functions.{Distinct}

neither : (a b : Bool) → (a || b) ≡ false → (a ≡ false) × (b ≡ false)
neither true b is = absurd (cc is)
neither false b is = (refl, is)

others : (x : ℕ) (xs : List ℕ) → among xs x ≡ false → AllByRecursion (λ (y : ℕ). nat_eq y x ≡ false) xs
others x [] apart = tt
others x (y ∷ ys) apart = let both = neither (nat_eq y x) (among ys x) apart in (both.0, others x ys both.1)

distinct : (xs : List ℕ) → Distinct xs → IsDistinct (λ x y. nat_eq y x) xs
unfolding IsDistinct
distinct [] d = tt
distinct (x ∷ xs) d = (others x xs d.0, distinct xs d.1)

never_some : (o : Option ℕ) → o ≡ None → IsSome o → ⊥
never_some None is some = cc some
never_some (Some x) is some = cc is

pub all_are_held : (held rows : List ℕ) → Distinct rows → first_unheld held rows ≡ None → length rows ≤ length held
all_are_held held rows apart none = ⊎_elim (λ (fewer : length held < length rows). absurd (never_some (first_unheld held rows) none
    (some_is_given held rows (AllPairs-from_IsDistinct (λ x y. let same = Decides-eqb y x in ((λ is. sym (same.0 is)), λ is. same.1 (sym is))) rows (distinct rows apart)) fewer)))
    (λ (most : length rows ≤ length held). most) (cases_lt (length held) (length rows))
