-- One of a caller's announcements is always left, and the least of these is picked.
use Rattle.std.proofs.Common.{◌≡◌, ℕ, zero, suc, ◌+◌, ◌-◌, ◌*◌, ◌<◌, ◌≤◌, Bool, true, false, cond, List, length, get_or, sym, refl, ap, subst, ◌∙◌, arith, le_refl, ne_eqb}
use Rattle.std.specs.Prelude.{Contains, nat_eq}
use Rattle.std.specs.Bool.{Decides}
use Rattle.std.specs.List.{list_any, range_with_len, IsDistinct}
use Rattle.std.proofs.lemmas.Bool.Decides.{Decides-eqb, Decides-by_or, not_from_Decides}
use Rattle.std.proofs.lemmas.Cmp.{nat_eq_equiv}
use Rattle.std.proofs.lemmas.List.Elements.{Decides-contains}
use Rattle.std.proofs.lemmas.List.FromFn.{length-range_with_len, get_or-range_with_len}
use Rattle.std.proofs.lemmas.Map.Keys.{IsDistinct-from_apart}
use Rattle.std.proofs.lemmas.Map.Made.{is_member-Decides, length-le_from_is_member}
use mathlib.Core.Logic.{dite}
use native.Mathlib.Decide.{ℕ_discrete, dec_le}
use Rattle.node_guard.specs.Pick.{among, first_left, pick}

-- the test finds what is in the list
pub among_decides : (held : List ℕ) (x : ℕ) → Decides (among held x) (Contains held x)
among_decides held x = Decides-contains held x (among held x) (Decides-by_or (λ y. nat_eq y x) (λ y. y ≡ x) (list_any (λ y. nat_eq y x)) (λ y. Decides-eqb y x) refl (λ _ _. refl) held)

-- numbers that follow one another are distinct
in_a_row_are_distinct : (a n : ℕ) → IsDistinct nat_eq (range_with_len a n)
in_a_row_are_distinct a n = IsDistinct-from_apart nat_eq (range_with_len a n) (λ i j d before inside.
    let within : j < n = subst (λ (k : ℕ). j < k) (length-range_with_len a n) inside in
    ne_eqb (get_or (range_with_len a n) i d) (get_or (range_with_len a n) j d) (λ same.
    let e : a + i ≡ a + j = sym (get_or-range_with_len a n i d (omega arith)) ∙ (same ∙ get_or-range_with_len a n j d within) in omega arith))

-- n numbers that follow one another are in no list that is shorter than n
pub pigeons : (n a : ℕ) (xs : List ℕ) → ((b : ℕ) → a ≤ b → b < a + n → among xs b ≡ true) → n ≤ length xs
pigeons n a xs all = subst (λ (k : ℕ). k ≤ length xs) (length-range_with_len a n) (length-le_from_is_member nat_eq_equiv (range_with_len a n) xs (in_a_row_are_distinct a n) (λ b e.
    let found = (is_member-Decides Decides-eqb (range_with_len a n) b).0 e in
    let inside : found.0 < n = subst (λ (k : ℕ). found.0 < k) (length-range_with_len a n) found.1 in
    let is : a + found.0 ≡ b = sym (get_or-range_with_len a n found.0 b inside) ∙ found.2 in
    (is_member-Decides Decides-eqb xs b).1 ((among_decides xs b).0 (all b (omega arith) (omega arith)))))

-- a number that is in the list is passed over
pub first_left-held : (xs : List ℕ) (n a : ℕ) → among xs a ≡ true → first_left xs (suc n) a ≡ first_left xs n (suc a)
first_left-held xs n a is = ap (λ (b : Bool). cond b (first_left xs n (suc a)) a) is

-- and one that isn't is the first
pub first_left-here : (xs : List ℕ) (n a : ℕ) → among xs a ≡ false → first_left xs (suc n) a ≡ a
first_left-here xs n a is = ap (λ (b : Bool). cond b (first_left xs n (suc a)) a) is

-- what is found first is not in the list, where anything is left, and all before it are
pub first_is_left : (xs : List ℕ) (n a : ℕ) → (a ≤ first_left xs n a) × (first_left xs n a ≤ a + n) × ((b : ℕ) → a ≤ b → b < first_left xs n a → among xs b ≡ true)
    × (first_left xs n a < a + n → among xs (first_left xs n a) ≡ false)
first_is_left xs zero a = (le_refl _, omega arith, (λ b from below. absurd (omega arith)), λ below. absurd (omega arith))
first_is_left xs (suc n) a = by (first_is_left xs n (suc a)) (among xs a) refl where
  by : (suc a ≤ first_left xs n (suc a)) × (first_left xs n (suc a) ≤ suc a + n) × ((b : ℕ) → suc a ≤ b → b < first_left xs n (suc a) → among xs b ≡ true) × (first_left xs n (suc a) < suc a + n → among xs (first_left xs n (suc a)) ≡ false) → (d : Bool) → among xs a ≡ d → let p : ℕ = cond d (first_left xs n (suc a)) a in (a ≤ p) × (p ≤ a + suc n) × ((b : ℕ) → a ≤ b → b < p → among xs b ≡ true) × (p < a + suc n → among xs p ≡ false)
  by r true is = let from = r.0 in let upto = r.1 in (
    omega arith,
    omega arith,
    (λ b above below. dite (ℕ_discrete b a) (λ e. ap (among xs) e ∙ is) (λ ne. r.2 b (omega arith) below)),
    λ below. r.3 (omega arith),
  )
  by _ false is = (le_refl _, omega arith, (λ b above below. absurd (omega arith)), λ _. is)

-- What is picked is one of the caller's announcements that isn't in the list, and all its announcements before it are,
-- where the list is shorter than there are callers.
pub pick_right : (callers caller : ℕ) (held : List ℕ) → length held < callers
    → (caller * callers ≤ pick callers caller held) × (pick callers caller held < caller * callers + callers) × (among held (pick callers caller held) ≡ false)
    × ((b : ℕ) → caller * callers ≤ b → b < pick callers caller held → among held b ≡ true)
pick_right callers caller held short = let r = first_is_left held (callers - 1) (caller * callers) in let from = r.0 in let upto = r.1 in (
  from,
  omega arith,
  by (among held (pick callers caller held)) refl,
  r.2,
) where
  by : (d : Bool) → among held (pick callers caller held) ≡ d → among held (pick callers caller held) ≡ false
  by false is = is
  by true is = let r = first_is_left held (callers - 1) (caller * callers) in let from = r.0 in let upto = r.1 in
      dite (dec_le (suc (pick callers caller held)) (caller * callers + (callers - 1))) (λ below. r.3 below)
      (λ end. let most = pigeons callers (caller * callers) held (λ b above below. dite (ℕ_discrete b (pick callers caller held)) (λ e. ap (among held) e ∙ is) (λ ne. r.2 b above (omega arith))) in absurd (omega arith))

-- the same by `Contains`
pub pick_not_held : (callers caller : ℕ) (held : List ℕ) → length held < callers → ¬ Contains held (pick callers caller held)
pick_not_held callers caller held short = not_from_Decides (among held (pick callers caller held)) (among_decides held (pick callers caller held)) (pick_right callers caller held short).2

pub pick_least : (callers caller : ℕ) (held : List ℕ) → length held < callers → (b : ℕ) → caller * callers ≤ b → b < pick callers caller held → Contains held b
pick_least callers caller held short b from below = (among_decides held b).0 ((pick_right callers caller held short).3 b from below)
