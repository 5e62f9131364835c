-- Numbers in order that are those of a range, in whatever order it had them, are the range.
use Rattle.std.proofs.Common.{◌≡◌, ◌≢◌, ℕ, zero, suc, ◌+◌, ◌<◌, ◌≤◌, ◌==◌, cond, List, [], ◌∷◌, length, get_or, refl, sym, ap, ◌∙◌, arith, zero-add, ne_eqb, eq-eqb, count_by, inl, inr}
use Rattle.std.specs.List.{range_with_len, flat_map, AllByRecursion}
use Rattle.std.specs.List.Sorted.{IsPermutation, IsNonDecreasing}
use Rattle.std.proofs.lemmas.Bool.{cases_lt}
use Rattle.std.proofs.lemmas.List.Sums.{sum_by-cons}
use Rattle.std.proofs.lemmas.List.Elements.{recursion_from_All}
use Rattle.std.proofs.lemmas.List.Sorted.{sum_by-IsPermutation, IsPermutation-refl, IsPermutation-append}

-- how often a number stands in a list
abbrev times : ℕ → List ℕ → ℕ
times x xs = count_by (λ y. y == x) xs

one_more : (x : ℕ) (xs : List ℕ) → times x (x ∷ xs) ≡ 1 + times x xs
one_more x xs = sum_by-cons (λ y. cond (y == x) 1 0) x xs ∙ ap (λ b. cond b 1 0 + times x xs) (eq-eqb x x refl)

as_often : (x y : ℕ) (xs : List ℕ) → y ≢ x → times x (y ∷ xs) ≡ times x xs
as_often x y xs other = sum_by-cons (λ z. cond (z == x) 1 0) y xs ∙ ap (λ b. cond b 1 0 + times x xs) (ne_eqb y x other) ∙ zero-add (times x xs)

never : (x : ℕ) (xs : List ℕ) → AllByRecursion (λ y. y ≢ x) xs → times x xs ≡ 0
never x [] h = refl
never x (y ∷ xs) h = as_often x y xs h.0 ∙ never x xs h.1

above : (x a n : ℕ) → x < a → AllByRecursion (λ y. y ≢ x) (range_with_len a n)
above x a zero l = tt
above x a (suc n) l = ((λ e. absurd (omega (arith, e, l))), above x (a + 1) n (omega (arith, l)))

-- each is at most those behind it

abbrev pub Rises : List ℕ → Type 0
Rises [] = Unit {0}
Rises (x ∷ xs) = AllByRecursion (λ y. x ≤ y) xs × Rises xs

not_below : (x y : ℕ) (xs : List ℕ) → x < y → AllByRecursion (λ z. y ≤ z) xs → AllByRecursion (λ z. z ≢ x) xs
not_below x y [] l h = tt
not_below x y (z ∷ xs) l h = let m = h.0 in ((λ e. absurd (omega (arith, e, l, m))), not_below x y xs l h.1)

cancel : (x y : ℕ) (xs ys : List ℕ) → times x (y ∷ xs) ≡ times x (y ∷ ys) → times x xs ≡ times x ys
cancel x y xs ys e =
    let one = sum_by-cons (λ z. cond (z == x) 1 0) y xs in
    let other = sum_by-cons (λ z. cond (z == x) 1 0) y ys in
    omega (arith, e, one, other)

pub is_range : (a n : ℕ) (xs : List ℕ) → ((x : ℕ) → times x xs ≡ times x (range_with_len a n)) → Rises xs → xs ≡ range_with_len a n
is_range a zero [] same rises = refl
is_range a zero (x ∷ xs) same rises = absurd (let e = sym (one_more x xs) ∙ same x in omega (arith, e))
is_range a (suc n) [] same rises = absurd (let e = same a ∙ one_more a (range_with_len (a + 1) n) in omega (arith, e))
is_range a (suc n) (x ∷ xs) same rises =
    let first : x ≡ a = elim (cases_lt x a) [
      | inl less ↦ absurd (let e = sym (one_more x xs) ∙ same x ∙ never x (range_with_len a (suc n)) (above x a (suc n) less) in omega (arith, e))
      | inr least ↦ elim (cases_lt a x) [
        | inl less ↦ absurd (let e = sym (never a (x ∷ xs) ((λ e. absurd (omega (arith, e, less))), not_below a x xs less rises.0)) ∙ same a ∙ one_more a (range_with_len (a + 1) n) in omega (arith, e))
        | inr most ↦ omega (arith, least, most)
      ]
    ] in
    ap (λ y. y ∷ xs) first ∙ ap (λ ys. a ∷ ys) (is_range (a + 1) n xs (λ y. cancel y a xs (range_with_len (a + 1) n) (ap (λ z. times y (z ∷ xs)) (sym first) ∙ same y)) rises.1)

-- from the order that a sort gives
rises_from : (xs : List ℕ) → ((i j : ℕ) (d : ℕ) → i ≤ j → j < length xs → get_or xs i d ≤ get_or xs j d) → Rises xs
rises_from [] h = tt
rises_from (x ∷ xs) h =
    (recursion_from_All (λ y. x ≤ y) xs (λ k d l. h 0 (suc k) d (omega arith) (omega (arith, l))), rises_from xs (λ i j d l m. h (suc i) (suc j) d (omega (arith, l)) (omega (arith, m))))

pub range_from_sort : (n : ℕ) (xs : List ℕ) → IsPermutation (range_with_len 0 n) xs → IsNonDecreasing xs → xs ≡ range_with_len 0 n
range_from_sort n xs p rises = is_range 0 n xs (λ x. sum_by-IsPermutation (λ y. cond (y == x) 1 0) (range_with_len 0 n) xs p) (rises_from xs rises)

-- pieces that are in another order
pub pieces_moved : {Y : Type 0} (f g : ℕ → List Y) (a n : ℕ) → ((k : ℕ) → a ≤ k → k < a + n → IsPermutation (f k) (g k)) → IsPermutation (flat_map f (range_with_len a n)) (flat_map g (range_with_len a n))
pieces_moved f g a zero h = IsPermutation-refl []
pieces_moved f g a (suc n) h =
    IsPermutation-append (f a) (g a) _ _ (h a (omega arith) (omega arith)) (pieces_moved f g (a + 1) n (λ k l m. h k (omega (arith, l)) (omega (arith, m))))
