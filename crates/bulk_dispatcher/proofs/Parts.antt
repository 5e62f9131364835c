-- A list taken apart by a number of its elements, each part in order, has the same elements.
use Rattle.std.proofs.Common.{◌≡◌, ℕ, zero, suc, ◌+◌, ◌<◌, ◌≤◌, ◌==◌, Bool, true, false, cond, List, [], ◌∷◌, ◌++◌, filter, refl, sym, ap, subst, ◌∙◌, arith, ne_eqb, eq-eqb, append_assoc, inl, inr}
use Rattle.std.specs.List.{flat_map, range_with_len, AllByRecursion}
use Rattle.std.specs.List.Sorted.{IsPermutation}
use Rattle.std.proofs.lemmas.List.Sorted.{IsPermutation-refl, IsPermutation-trans, IsPermutation-append_comm, IsPermutation-append_right, IsPermutation-append_left}
use Rattle.std.proofs.lemmas.Bool.{cases_eq}
use Rattle.std.proofs.lemmas.List.Elements.{All-filter, All-from_recursion, recursion_from_All}

-- the part of the elements with number k
abbrev pub part : {X : Type 0} → (X → ℕ) → List X → ℕ → List X
part key xs k = filter (λ x. key x == k) xs

-- where one part more comes in front of part j
abbrev pub with_front : {Y : Type 0} → ℕ → List Y → (ℕ → List Y) → ℕ → List Y
with_front j ys F k = cond (j == k) (ys ++ F k) (F k)

-- none of these parts is part j
front_outside : {Y : Type 0} (j : ℕ) (ys : List Y) (F : ℕ → List Y) (a n : ℕ) → j < a → flat_map (with_front j ys F) (range_with_len a n) ≡ flat_map F (range_with_len a n)
front_outside j ys F a zero l = refl
front_outside j ys F a (suc n) l =
    let not_here : (j == a) ≡ false = ne_eqb j a (λ e. omega arith) in
    ap (λ b. cond b (ys ++ F a) (F a) ++ flat_map (with_front j ys F) (range_with_len (a + 1) n)) not_here
    ∙ ap (λ zs. F a ++ zs) (front_outside j ys F (a + 1) n (omega arith))

swap_front : {Y : Type 0} (us ys vs : List Y) → IsPermutation (us ++ (ys ++ vs)) (ys ++ (us ++ vs))
swap_front us ys vs =
    subst (λ zs. IsPermutation zs (ys ++ (us ++ vs))) (append_assoc us ys vs)
    (subst (λ zs. IsPermutation ((us ++ ys) ++ vs) zs) (append_assoc ys us vs)
    (IsPermutation-append_left vs (us ++ ys) (ys ++ us) (IsPermutation-append_comm us ys)))

front_inside : {Y : Type 0} (j : ℕ) (ys : List Y) (F : ℕ → List Y) (a n : ℕ) → a ≤ j → j < a + n → IsPermutation (flat_map (with_front j ys F) (range_with_len a n)) (ys ++ flat_map F (range_with_len a n))
front_inside j ys F a zero l m = absurd (omega arith)
front_inside j ys F a (suc n) l m =
    elim (cases_eq j a) [
      | inl here ↦
          let is_here : (j == a) ≡ true = eq-eqb j a here in
          subst (λ zs. IsPermutation zs (ys ++ (F a ++ flat_map F (range_with_len (a + 1) n))))
          (sym (ap (λ b. cond b (ys ++ F a) (F a) ++ flat_map (with_front j ys F) (range_with_len (a + 1) n)) is_here
          ∙ ap (λ zs. (ys ++ F a) ++ zs) (front_outside j ys F (a + 1) n (omega arith)) ∙ append_assoc ys (F a) (flat_map F (range_with_len (a + 1) n))))
          (IsPermutation-refl (ys ++ (F a ++ flat_map F (range_with_len (a + 1) n))))
      | inr other ↦
          let not_here : (j == a) ≡ false = ne_eqb j a other in
          let rest = front_inside j ys F (a + 1) n (omega arith) (omega arith) in
          subst (λ zs. IsPermutation zs (ys ++ (F a ++ flat_map F (range_with_len (a + 1) n))))
          (sym (ap (λ b. cond b (ys ++ F a) (F a) ++ flat_map (with_front j ys F) (range_with_len (a + 1) n)) not_here))
          (IsPermutation-trans _ _ _ (IsPermutation-append_right (F a) _ _ rest) (swap_front (F a) ys (flat_map F (range_with_len (a + 1) n))))
    ]

-- what part k of a longer list gives
part-cons : {X Y : Type 0} (key : X → ℕ) (f : X → List Y) (x : X) (xs : List X) (k : ℕ) → flat_map f (part key (x ∷ xs) k) ≡ with_front (key x) (f x) (λ i. flat_map f (part key xs i)) k
part-cons key f x xs k = elim (cases_eq (key x) k) [
  | inl here ↦ let e : (key x == k) ≡ true = eq-eqb (key x) k here in rw e
  | inr other ↦ let e : (key x == k) ≡ false = ne_eqb (key x) k other in rw e
]

pub flat_map-agree : {X Y : Type 0} (f g : X → List Y) → ((x : X) → f x ≡ g x) → (xs : List X) → flat_map f xs ≡ flat_map g xs
flat_map-agree f g h [] = refl
flat_map-agree f g h (x ∷ xs) = ap (λ ys. ys ++ flat_map f xs) (h x) ∙ ap (λ ys. g x ++ ys) (flat_map-agree f g h xs)

nothing : {Y : Type 0} → ℕ → List Y
nothing k = []

none : {Y : Type 0} (a n : ℕ) → flat_map (nothing {Y = Y}) (range_with_len a n) ≡ []
unfolding nothing
none a zero = refl
none a (suc n) = none (a + 1) n

-- The parts together have what the list has.
pub IsPermutation-parts : {X Y : Type 0} (key : X → ℕ) (f : X → List Y) (n : ℕ) (xs : List X) → AllByRecursion (λ x. key x < n) xs → IsPermutation (flat_map (λ k. flat_map f (part key xs k)) (range_with_len 0 n)) (flat_map f xs)
unfolding nothing
IsPermutation-parts key f n [] h = subst (λ zs. IsPermutation zs []) (sym (none 0 n)) (IsPermutation-refl [])
IsPermutation-parts key f n (x ∷ xs) h =
    let F : ℕ → List _ = λ k. flat_map f (part key xs k) in
    subst (λ zs. IsPermutation zs (f x ++ flat_map f xs)) (sym (flat_map-agree _ (with_front (key x) (f x) F) (part-cons key f x xs) (range_with_len 0 n)))
    (IsPermutation-trans _ _ _ (front_inside (key x) (f x) F 0 n (omega arith) (let l = h.0 in omega arith)) (IsPermutation-append_right (f x) _ _ (IsPermutation-parts key f n xs h.1)))

-- What holds of each part holds of the whole.
pub AllByRecursion-parts : {X : Type 0} (key : X → ℕ) (P : X → Type 0) (K : ℕ → Type 0) (xs : List X) → AllByRecursion (λ x. K (key x)) xs → ((k : ℕ) → K k → AllByRecursion P (part key xs k)) → AllByRecursion P xs
AllByRecursion-parts key P K [] h parts = tt
AllByRecursion-parts key P K (x ∷ xs) h parts =
    let here : (key x == key x) ≡ true = eq-eqb (key x) (key x) refl in
    let first : AllByRecursion P (x ∷ part key xs (key x)) = subst (λ b. AllByRecursion P (cond b (x ∷ part key xs (key x)) (part key xs (key x)))) here (parts (key x) h.0) in (
      first.0,
      AllByRecursion-parts key P K xs h.1 (λ k l.
          elim (cases_eq (key x) k) [
            | inl same ↦
                let e : (key x == k) ≡ true = eq-eqb (key x) k same in
                (subst (λ b. AllByRecursion P (cond b (x ∷ part key xs k) (part key xs k))) e (parts k l)).1
            | inr other ↦
                let e : (key x == k) ≡ false = ne_eqb (key x) k other in
                subst (λ b. AllByRecursion P (cond b (x ∷ part key xs k) (part key xs k))) e (parts k l)
          ]),
    )

-- two functions that agree on a range
pub flat_map-agree_within : {Y : Type 0} (f g : ℕ → List Y) (a n : ℕ) → ((k : ℕ) → a ≤ k → k < a + n → f k ≡ g k) → flat_map f (range_with_len a n) ≡ flat_map g (range_with_len a n)
flat_map-agree_within f g a zero h = refl
flat_map-agree_within f g a (suc n) h =
    ap (λ ys. ys ++ flat_map f (range_with_len (a + 1) n)) (h a (omega arith) (omega arith))
    ∙ ap (λ ys. g a ++ ys) (flat_map-agree_within f g (a + 1) n (λ k l m. h k (omega arith) (omega arith)))

-- the elements of a part have its number
pub of_part : {X : Type 0} (key : X → ℕ) (P Q : X → Type 0) (k : ℕ) → ((x : X) → key x ≡ k → P x → Q x) → (xs : List X) → AllByRecursion P (part key xs k) → AllByRecursion Q (part key xs k)
of_part key P Q k h [] all = tt
of_part key P Q k h (x ∷ xs) all =
    elim (cases_eq (key x) k) [
      | inl same ↦
          let e : (key x == k) ≡ true = eq-eqb (key x) k same in
          let both : P x × AllByRecursion P (part key xs k) = subst (λ b. AllByRecursion P (cond b (x ∷ part key xs k) (part key xs k))) e all in
          subst (λ b. AllByRecursion Q (cond b (x ∷ part key xs k) (part key xs k))) (sym e) (h x same both.0, of_part key P Q k h xs both.1)
      | inr other ↦
          let e : (key x == k) ≡ false = ne_eqb (key x) k other in
          subst (λ b. AllByRecursion Q (cond b (x ∷ part key xs k) (part key xs k))) (sym e)
          (of_part key P Q k h xs (subst (λ b. AllByRecursion P (cond b (x ∷ part key xs k) (part key xs k))) e all))
    ]

-- what holds of all holds of those that pass a test
pub AllByRecursion-filter : {X : Type 0} (p : X → Bool) (P : X → Type 0) (xs : List X) → AllByRecursion P xs → AllByRecursion P (filter p xs)
AllByRecursion-filter p P xs h = recursion_from_All P (filter p xs) (All-filter p P xs (All-from_recursion P xs h))
