-- A list of numbers that was sorted is the same one by rising order, however it was sorted.
use Rattle.std.proofs.Common.{◌≡◌, ℕ, suc, ◌+◌, ◌<◌, ◌≤◌, ◌==◌, Bool, true, false, cond, List, [], ◌∷◌, refl, sym, ap, ◌∙◌, subst, arith, nat_lt, sum_by, slice_index_or}
use Rattle.std.specs.Ordering.{nat_cmp, is_lt}
use Rattle.std.specs.Prelude.{IsSorted, IsPermutation}
use Rattle.std.proofs.lemmas.Bool.{eqb-true, eq-eqb, ltb-true, ltb-false}
use Rattle.std.proofs.lemmas.List.Sums.{sum_by-cons}
use Rattle.std.proofs.lemmas.List.Sorted.{sum_by-IsPermutation}
use Rattle.std.proofs.lemmas.Map.Keys.{ge_from_not_lt}
use Rattle.lane_steps.specs.Functions.{inserted, rising}

-- how often the number stands in the list
abbrev one : ℕ → ℕ → ℕ
one y x = cond (x == y) 1 0

abbrev times : List ℕ → ℕ → ℕ
times [] y = 0
times (x ∷ xs) y = one y x + times xs y

-- each number is at most those behind it
abbrev Rises : List ℕ → Type 0
Rises [] = Unit {0}
Rises (x ∷ xs) = ((y : ℕ) → 0 < times xs y → x ≤ y) × Rises xs

-- what is at most the first and those behind it is at most each
at_most : (x z : ℕ) (zs : List ℕ) → x ≤ z → ((y : ℕ) → 0 < times zs y → x ≤ y) → (y : ℕ) → 0 < one y z + times zs y → x ≤ y
at_most x z zs first rest y some = by (z == y) refl some where
  by : (b : Bool) → (z == y) ≡ b → 0 < cond b 1 0 + times zs y → x ≤ y
  by true e some = let same = eqb-true z y e in omega arith
  by false e more = rest y (let n : 0 < 0 + times zs y = more in omega arith)

times_inserted : (x : ℕ) (xs : List ℕ) (y : ℕ) → times (inserted x xs) y ≡ one y x + times xs y
times_inserted x [] y = refl
times_inserted x (z ∷ zs) y = by (times_inserted x zs y) (nat_lt z x) where
  by : times (inserted x zs) y ≡ one y x + times zs y → (b : Bool) → times (cond b (z ∷ inserted x zs) (x ∷ z ∷ zs)) y ≡ one y x + (one y z + times zs y)
  by e true = omega arith
  by e false = refl

rises_inserted : (x : ℕ) (xs : List ℕ) → Rises xs → Rises (inserted x xs)
rises_inserted x [] r = ((λ y some. absurd (let e : ⊥ = omega arith in e)), tt)
rises_inserted x (z ∷ zs) r = by (rises_inserted x zs r.1) (nat_lt z x) refl where
  by : Rises (inserted x zs) → (b : Bool) → nat_lt z x ≡ b → Rises (cond b (z ∷ inserted x zs) (x ∷ z ∷ zs))
  by behind true e = let less = ltb-true z x e in ((λ y some. let n = times_inserted x zs y in at_most z x zs (omega arith) r.0 y (omega arith)), behind)
  by behind false e = let least = ltb-false z x e in ((λ y some. at_most x z zs least (λ v more. let le = r.0 v more in omega arith) y some), r)

times_rising : (xs : List ℕ) (y : ℕ) → times (rising xs) y ≡ times xs y
times_rising [] y = refl
times_rising (x ∷ xs) y = let e = times_rising xs y in let i = times_inserted x (rising xs) y in omega arith

rises_rising : (xs : List ℕ) → Rises (rising xs)
rises_rising [] = tt
rises_rising (x ∷ xs) = rises_inserted x (rising xs) (rises_rising xs)

rises_sorted : (xs : List ℕ) → IsSorted nat_cmp xs → Rises xs
rises_sorted [] s = tt
rises_sorted (x ∷ []) s = ((λ y some. absurd (let e : ⊥ = omega arith in e)), tt)
rises_sorted (x ∷ z ∷ zs) s = let rest = rises_sorted (z ∷ zs) (λ k d low below. subst (λ (n : ℕ). is_lt (nat_cmp (slice_index_or (x ∷ z ∷ zs) n d) (slice_index_or (z ∷ zs) k d)) ≡ false) (let e : suc k + 1 ≡ suc (k + 1) = omega arith in e) (s (suc k) d (omega arith) (omega arith))) in let first = ge_from_not_lt z x (s 0 0 (omega arith) (omega arith)) in
    ((λ y some. at_most x z zs first (λ v more. let le = rest.0 v more in omega arith) y some), rest)

-- rising lists with the same numbers are the same
same_list : (xs ys : List ℕ) → Rises xs → Rises ys → ((y : ℕ) → times xs y ≡ times ys y) → xs ≡ ys
same_list [] [] r s e = refl
same_list [] (y ∷ ys) r s e = let n = e y in let o : one y y ≡ 1 = ap (λ (b : Bool). cond b 1 0) (eq-eqb y y refl) in absurd (let c : ⊥ = omega arith in c)
same_list (x ∷ xs) [] r s e = let n = e x in let o : one x x ≡ 1 = ap (λ (b : Bool). cond b 1 0) (eq-eqb x x refl) in absurd (let c : ⊥ = omega arith in c)
same_list (x ∷ xs) (y ∷ ys) r s e = λ i. heads i ∷ same_list xs ys r.1 s.1 tails i where
  left : one x x ≡ 1
  left = ap (λ (b : Bool). cond b 1 0) (eq-eqb x x refl)

  right : one y y ≡ 1
  right = ap (λ (b : Bool). cond b 1 0) (eq-eqb y y refl)

  heads : x ≡ y
  heads = let up = at_most x x xs (omega arith) r.0 y (let n = e y in let q = right in omega arith) in let down = at_most y y ys (omega arith) s.0 x (let n = e x in let q = left in omega arith) in omega arith

  tails : (v : ℕ) → times xs v ≡ times ys v
  tails v = let n = e v in let o = ap (one v) heads in omega arith

times_sum : (xs : List ℕ) (y : ℕ) → times xs y ≡ sum_by (one y) xs
times_sum [] y = refl
times_sum (x ∷ xs) y = ap (λ (n : ℕ). one y x + n) (times_sum xs y) ∙ sym (sum_by-cons (one y) x xs)

pub sorted_is_rising : (xs ys : List ℕ) → IsPermutation xs ys → IsSorted nat_cmp ys → ys ≡ rising xs
sorted_is_rising xs ys moved sorted = same_list ys (rising xs) (rises_sorted ys sorted) (rises_rising xs)
    (λ y. times_sum ys y ∙ (sum_by-IsPermutation (one y) xs ys moved ∙ (sym (times_sum xs y) ∙ sym (times_rising xs y))))
