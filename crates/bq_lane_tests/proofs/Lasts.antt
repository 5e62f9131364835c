-- The last of the passes of a new lane, and all four callers among four.
use Rattle.std.proofs.Common.{◌≡◌, ℕ, zero, suc, ◌+◌, ◌<◌, List, [], ◌∷◌, ◌++◌, map, All, Contains, Option, Some, None, IfSome, refl, sym, ap, subst, ◌∙◌, arith}
use Rattle.std.proofs.lemmas.List.{map-append}
use Rattle.std.proofs.lemmas.List.Elements.{All-from_recursion, recursion_from_All}
use Rattle.std.specs.List.{range_with_len, AllByRecursion}
use Rattle.std.specs.Option.{option_to_list}

module _ {A : Type 0} where
  tail_same : (x y : A) (xs ys : List A) → x ∷ xs ≡ y ∷ ys → xs ≡ ys
  tail_same x y xs ys e = cc e

  head_same : (x y : A) (xs ys : List A) → x ∷ xs ≡ y ∷ ys → x ≡ y
  head_same x y xs ys e = cc e

  some_left : (x : A) (xs : List A) → xs ++ x ∷ [] ≡ [] → ⊥
  some_left x [] e = cc e
  some_left x (y ∷ xs) e = cc e

  -- two lists that are the same with one item more each
  last_same : (xs ys : List A) (x y : A) → xs ++ x ∷ [] ≡ ys ++ y ∷ [] → (x ≡ y) × (xs ≡ ys)
  last_same [] [] x y e = (head_same x y [] [] e, refl)
  last_same [] (z ∷ ys) x y e = absurd (some_left y ys (sym (tail_same x z [] (ys ++ y ∷ []) e)))
  last_same (z ∷ xs) [] x y e = absurd (some_left x xs (tail_same z y (xs ++ x ∷ []) [] e))
  last_same (z ∷ xs) (w ∷ ys) x y e = let t = last_same xs ys x y (tail_same z w (xs ++ x ∷ []) (ys ++ y ∷ []) e) in
      (t.0, λ i. head_same z w (xs ++ x ∷ []) (ys ++ y ∷ []) e i ∷ t.1 i)

  front : (P : A → Type 0) (xs ys : List A) → AllByRecursion P (xs ++ ys) → AllByRecursion P xs
  front P [] ys a = tt
  front P (x ∷ xs) ys a = (a.0, front P xs ys a.1)

  last : (P : A → Type 0) (xs : List A) (x : A) → AllByRecursion P (xs ++ x ∷ []) → P x
  last P [] x a = a.0
  last P (y ∷ xs) x a = last P xs x a.1

range-last : (a n : ℕ) → range_with_len a (suc n) ≡ range_with_len a n ++ (a + n) ∷ []
range-last a zero = ap (λ (x : ℕ). x ∷ []) (omega arith)
range-last a (suc n) = ap (λ (xs : List ℕ). a ∷ xs) (range-last (a + 1) n ∙ ap (λ (x : ℕ). range_with_len (a + 1) n ++ x ∷ []) (omega arith))

-- passes, each of which holds callers
module _ {P : Type 0} (callers : P → List ℕ) where
  -- the passes of the first n callers
  abbrev OfFirst : ℕ → List P → Type 0
  OfFirst n ps = map callers ps ≡ map (λ (c : ℕ). c ∷ []) (range_with_len 0 n)

  last_is : (n : ℕ) (ps : List P) (p : P) → OfFirst (n + 1) (ps ++ p ∷ []) → (callers p ≡ n ∷ []) × OfFirst n ps
  last_is n ps p e = last_same (map callers ps) (map (λ (c : ℕ). c ∷ []) (range_with_len 0 n)) (callers p) (n ∷ [])
      (sym (map-append callers ps (p ∷ [])) ∙ (e ∙ (ap (map (λ (c : ℕ). c ∷ [])) (ap (range_with_len 0) (let s : n + 1 ≡ suc n = omega arith in s) ∙ (range-last 0 n ∙ ap (λ (x : ℕ). range_with_len 0 n ++ x ∷ []) (let z : 0 + n ≡ n = omega arith in z)))
      ∙ map-append (λ (c : ℕ). c ∷ []) (range_with_len 0 n) (n ∷ []))))

  pub its_caller : (n : ℕ) (ps qs : List P) (o : Option P) → OfFirst (n + 1) ps → ps ≡ qs ++ option_to_list o → IfSome o (λ p. callers p ≡ n ∷ [])
  its_caller n ps qs None e is = tt
  its_caller n ps qs (Some p) e is = (last_is n qs p (subst (OfFirst (n + 1)) is e)).0

  pub others_left : (n : ℕ) (ps qs : List P) (o : Option P) → OfFirst (n + 1) ps → ps ≡ qs ++ option_to_list o → IfSome o (λ _. OfFirst n qs)
  others_left n ps qs None e is = tt
  others_left n ps qs (Some p) e is = (last_is n qs p (subst (OfFirst (n + 1)) is e)).1

module _ {P : Type 0} (ps qs : List P) where
  pub all_left : (Q : P → Type 0) (o : Option P) → All Q ps → ps ≡ qs ++ option_to_list o → All Q qs
  all_left Q o a is = All-from_recursion Q qs (front Q qs (option_to_list o) (recursion_from_All Q (qs ++ option_to_list o) (subst (All Q) is a)))

  pub last_too : (Q R : P → Type 0) (o : Option P) → All Q ps → All R ps → ps ≡ qs ++ option_to_list o → IfSome o (λ p. Q p × R p)
  last_too Q R None a b is = tt
  last_too Q R (Some p) a b is = (last Q qs p (recursion_from_All Q (qs ++ p ∷ []) (subst (All Q) is a)), last R qs p (recursion_from_All R (qs ++ p ∷ []) (subst (All R) is b)))

pub among_four : (c : ℕ) → c < 4 → Contains (0 ∷ 1 ∷ 2 ∷ 3 ∷ []) c
among_four zero below = (0, omega arith, refl)
among_four (suc zero) below = (1, omega arith, refl)
among_four (suc (suc zero)) below = (2, omega arith, refl)
among_four (suc (suc (suc zero))) below = (3, omega arith, refl)
among_four (suc (suc (suc (suc c)))) below = absurd (omega (arith, below))
