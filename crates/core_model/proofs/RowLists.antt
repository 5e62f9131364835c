-- Lists of rows: by rising number, and without the first one that isn't named.
use Rattle.std.proofs.Common.{◌≡◌, ◌≢◌, ℕ, Bool, true, false, cond, not, List, [], ◌∷◌, sym, refl, ap, ◌∙◌, Some}
use Rattle.std.specs.Prelude.{◌||◌, nat_eq, nat_lt}
use Rattle.node_guard.specs.Pick.{among}
use Rattle.node_guard.specs.Retired.{first_unheld, without_first_unheld}
use Rattle.lane_steps.specs.Functions.{Distinct, inserted, rising}
use Rattle.core_model.proofs.Lists.{among_here, among_there, among_else, not_among}
use Rattle.core_model.proofs.Rely.{true_false}

-- lists with the same numbers
abbrev pub SameRows : List ℕ → List ℕ → Type 0
SameRows xs ys = (x : ℕ) → among xs x ≡ among ys x

or_swapped : (a b c : Bool) → (a || (b || c)) ≡ (b || (a || c))
or_swapped true true c = refl
or_swapped true false c = refl
or_swapped false true c = refl
or_swapped false false c = refl

-- one is put at its place, by rising order
among_inserted : (x : ℕ) (ys : List ℕ) → SameRows (inserted x ys) (x ∷ ys)
unfolding or_swapped
among_inserted x [] q = refl
among_inserted x (y ∷ ys) q = by (among_inserted x ys q) (nat_lt y x) where
  by : among (inserted x ys) q ≡ among (x ∷ ys) q → (b : Bool) → among (cond b (y ∷ inserted x ys) (x ∷ y ∷ ys)) q ≡ among (x ∷ y ∷ ys) q
  by same true = ap (λ (d : Bool). nat_eq y q || d) same ∙ or_swapped (nat_eq y q) (nat_eq x q) (among ys q)
  by same false = refl

distinct_inserted : (x : ℕ) (ys : List ℕ) → among ys x ≡ false → Distinct ys → Distinct (inserted x ys)
distinct_inserted x [] off d = (refl, tt)
distinct_inserted x (y ∷ ys) off d = by (distinct_inserted x ys (off_tail off) d.1) (among_inserted x ys y) (nat_lt y x) where
  off_tail : among (y ∷ ys) x ≡ false → among ys x ≡ false
  off_tail e = not_among ys x (λ is. true_false (sym (among_there ys y x is) ∙ e))

  apart : y ≢ x
  apart e = true_false (sym (among_here ys y x e) ∙ off)

  by : Distinct (inserted x ys) → among (inserted x ys) y ≡ among (x ∷ ys) y → (b : Bool) → Distinct (cond b (y ∷ inserted x ys) (x ∷ y ∷ ys))
  by rest same true = (same ∙ (among_else ys x y (λ e. apart (sym e)) ∙ d.0), rest)
  by rest same false = (off, d)

-- the same rows, by rising order
pub among_rising : (xs : List ℕ) → SameRows (rising xs) xs
among_rising [] q = refl
among_rising (x ∷ xs) q = among_inserted x (rising xs) q ∙ ap (λ (d : Bool). nat_eq x q || d) (among_rising xs q)

pub distinct_rising : (xs : List ℕ) → Distinct xs → Distinct (rising xs)
distinct_rising [] d = tt
distinct_rising (x ∷ xs) d = distinct_inserted x (rising xs) (among_rising xs x ∙ d.0) (distinct_rising xs d.1)

-- the first row that isn't named is in the list
pub first_is_there : (named rows : List ℕ) (r : ℕ) → first_unheld named rows ≡ Some r → (among rows r ≡ true) × (among named r ≡ false)
first_is_there named [] r e = absurd (cc e)
first_is_there named (q ∷ rows) r e = by (among named q) refl e (first_is_there named rows r) where
  by : (b : Bool) → among named q ≡ b → cond (not b) (Some q) (first_unheld named rows) ≡ Some r → (first_unheld named rows ≡ Some r → (among rows r ≡ true) × (among named r ≡ false)) → (among (q ∷ rows) r ≡ true) × (among named r ≡ false)
  by true is e rest = let x = rest e in (among_there rows q r x.0, x.1)
  by false is e rest = let same : q ≡ r = cc e in (among_here rows q r same, ap (among named) (sym same) ∙ is)

-- the rows without it
module _ (named : List ℕ) (r : ℕ) where
  pub among_without : (rows : List ℕ) → first_unheld named rows ≡ Some r → (x : ℕ) → x ≢ r → among (without_first_unheld named rows) x ≡ among rows x
  among_without [] e x ne = refl
  among_without (q ∷ rows) e x ne = by (among named q) e (among_without rows) where
    by : (b : Bool) → cond (not b) (Some q) (first_unheld named rows) ≡ Some r → (first_unheld named rows ≡ Some r → (x : ℕ) → x ≢ r → among (without_first_unheld named rows) x ≡ among rows x)
        → among (cond (not b) rows (q ∷ without_first_unheld named rows)) x ≡ among (q ∷ rows) x
    by true e rest = ap (λ (d : Bool). nat_eq q x || d) (rest e x ne)
    by false e rest = let same : q ≡ r = cc e in sym (among_else rows q x (λ y. ne (sym y ∙ same)))

  pub gone_without : (rows : List ℕ) → Distinct rows → first_unheld named rows ≡ Some r → among (without_first_unheld named rows) r ≡ false
  gone_without [] d e = absurd (cc e)
  gone_without (q ∷ rows) d e = by (among named q) refl e (gone_without rows d.1) where
    by : (b : Bool) → among named q ≡ b → cond (not b) (Some q) (first_unheld named rows) ≡ Some r → (first_unheld named rows ≡ Some r → among (without_first_unheld named rows) r ≡ false)
        → among (cond (not b) rows (q ∷ without_first_unheld named rows)) r ≡ false
    by true is e rest = among_else (without_first_unheld named rows) q r (λ same. true_false (sym is ∙ (ap (among named) same ∙ (first_is_there named rows r e).1))) ∙ rest e
    by false is e rest = let same : q ≡ r = cc e in ap (among rows) (sym same) ∙ d.0

  pub distinct_without : (rows : List ℕ) → Distinct rows → first_unheld named rows ≡ Some r → Distinct (without_first_unheld named rows)
  distinct_without [] d e = tt
  distinct_without (q ∷ rows) d e = by (among named q) refl e (distinct_without rows d.1) where
    by : (b : Bool) → among named q ≡ b → cond (not b) (Some q) (first_unheld named rows) ≡ Some r → (first_unheld named rows ≡ Some r → Distinct (without_first_unheld named rows))
        → Distinct (cond (not b) rows (q ∷ without_first_unheld named rows))
    by true is e rest = (among_without rows e q (λ same. true_false (sym is ∙ (ap (among named) same ∙ (first_is_there named rows r e).1))) ∙ d.0, rest e)
    by false is e rest = d.1
