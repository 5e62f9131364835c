-- The passes of a new lane, the last of them, and the seats that are put in place of them.
use Rattle.std.proofs.Common.{◌≡◌, ◌<◌, ◌≤◌, ℕ, ◌+◌, take, set, List, [], ◌∷◌, ◌++◌, map, reverse, length, length-append, All, Option, Some, None, IfSome, sym, ap, subst, ◌∙◌, arith}
use Rattle.std.proofs.lemmas.List.{append-nil, append_assoc, length-map, length-set, map_push, reverse-append, take_all, take_more_set}
use Rattle.std.proofs.lemmas.List.Elements.{All-from_recursion, All-push, recursion_from_All}
use Rattle.std.proofs.lemmas.List.FromFn.{length-range_with_len}
use Rattle.std.specs.List.{AllByRecursion, range_with_len}
use Rattle.std.specs.Option.{option_to_list}

module _ {A : Type 0} where
  tail_same : (x y : A) (xs ys : List A) → x ∷ xs ≡ y ∷ ys → xs ≡ ys
  tail_same x y xs ys e = cc e

  head_same : (x y : A) (xs ys : List A) → x ∷ xs ≡ y ∷ ys → x ≡ y
  head_same x y xs ys e = cc e

  front : (P : A → Type 0) (xs ys : List A) → AllByRecursion P (xs ++ ys) → AllByRecursion P xs
  front P [] ys a = tt
  front P (x ∷ xs) ys a = (a.0, front P xs ys a.1)

  last : (P : A → Type 0) (xs : List A) (x : A) → AllByRecursion P (xs ++ x ∷ []) → P x
  last P [] x a = a.0
  last P (y ∷ xs) x a = last P xs x a.1

module _ {P : Type 0} (callers : P → List ℕ) where
  one_each : (ps : List P) (cs : List ℕ) → map callers ps ≡ map (λ c. c ∷ []) cs → AllByRecursion (λ p. length (callers p) ≡ 1) ps
  one_each [] cs e = tt
  one_each (p ∷ ps) [] e = cc e
  one_each (p ∷ ps) (c ∷ cs) e = (ap length (head_same (callers p) (c ∷ []) (map callers ps) (map (λ c. c ∷ []) cs) e), one_each ps cs (tail_same (callers p) (c ∷ []) (map callers ps) (map (λ c. c ∷ []) cs) e))

  -- passes of one caller each
  pub of_one : (ps : List P) (cs : List ℕ) → map callers ps ≡ map (λ c. c ∷ []) cs → All (λ p. length (callers p) ≡ 1) ps
  of_one ps cs e = All-from_recursion (λ p. length (callers p) ≡ 1) ps (one_each ps cs e)

  -- as many passes as callers
  pub as_many_passes : (ps : List P) (n : ℕ) → map callers ps ≡ map (λ c. c ∷ []) (range_with_len 0 n) → length ps ≡ n
  as_many_passes ps n e = sym (length-map ps callers) ∙ (ap length e ∙ (length-map (range_with_len 0 n) (λ (c : ℕ). c ∷ []) ∙ length-range_with_len 0 n))

module _ {P : Type 0} (ps qs : List P) where
  pub all_left : (Q : P → Type 0) (o : Option P) → All Q ps → ps ≡ qs ++ option_to_list o → All Q qs
  all_left Q o a is = All-from_recursion Q qs (front Q qs (option_to_list o) (recursion_from_All Q (qs ++ option_to_list o) (subst (All Q) is a)))

  pub last_too : (Q : P → Type 0) (o : Option P) → All Q ps → ps ≡ qs ++ option_to_list o → IfSome o Q
  last_too Q None a is = tt
  last_too Q (Some p) a is = last Q qs p (recursion_from_All Q (qs ++ p ∷ []) (subst (All Q) is a))

  pub both_too : (Q R : P → Type 0) (o : Option P) → All Q ps → All R ps → ps ≡ qs ++ option_to_list o → IfSome o (λ p. Q p × R p)
  both_too Q R None a b is = tt
  both_too Q R (Some p) a b is = (last Q qs p (recursion_from_All Q (qs ++ p ∷ []) (subst (All Q) is a)), last R qs p (recursion_from_All R (qs ++ p ∷ []) (subst (All R) is b)))

  pub one_less : (o : Option P) → ps ≡ qs ++ option_to_list o → IfSome o (λ _. length qs + 1 ≡ length ps)
  one_less None is = tt
  one_less (Some p) is = sym (ap length is ∙ length-append qs (p ∷ []))

  pub left_of : {X : Type 0} (p : P) (xs : List X) (k : ℕ) (x : X) → ps ≡ qs ++ p ∷ [] → length ps + k ≡ length xs → length qs + (k + 1) ≡ length (set xs k x)
  left_of p xs k x is was = let more = ap length is ∙ length-append qs (p ∷ []) in let same = length-set xs k x in omega (arith, more, same, was)

-- what holds of all so far, and of one more that is set
module _ {X : Type 0} (Q : X → Type 0) (xs : List X) (k : ℕ) where
  pub all_so_far : (x : X) → k < length xs → All Q (take k xs) → Q x → All Q (take (k + 1) (set xs k x))
  all_so_far x below a q = subst (All Q) (sym (take_more_set xs k x below)) (All-push Q (take k xs) x a q)

  pub all_of_it : length xs ≤ k → All Q (take k xs) → All Q xs
  all_of_it whole a = subst (All Q) (take_all k xs whole) a

-- what a list maps to whose last item was taken
pub map_last : {P Y : Type 0} (f : P → Y) (ps qs : List P) (o : Option P) → ps ≡ qs ++ option_to_list o → IfSome o (λ p. map f ps ≡ map f qs ++ f p ∷ [])
map_last f ps qs None is = tt
map_last f ps qs (Some p) is = ap (map f) is ∙ map_push f qs p

-- Items go over from the end of one list to the end of another: the first list, and behind it what the other maps to,
-- reversed, say the same before and after.
module _ {S Y : Type 0} (g : S → Y) where
  reversed_push : (ss : List S) (s : S) → reverse (map g (ss ++ s ∷ [])) ≡ g s ∷ reverse (map g ss)
  reversed_push ss s = ap reverse (map_push g ss s) ∙ reverse-append (map g ss) (g s ∷ [])

  pub goes_over : (us vs whole : List Y) (ss ts : List S) (s : S) (x : Y) → us ≡ vs ++ x ∷ [] → ts ≡ ss ++ s ∷ [] → g s ≡ x → us ++ reverse (map g ss) ≡ whole → vs ++ reverse (map g ts) ≡ whole
  goes_over us vs whole ss ts s x was more same told =
      ap (λ (zs : List S). vs ++ reverse (map g zs)) more
      ∙ (ap (λ (ys : List Y). vs ++ ys) (reversed_push ss s)
      ∙ (ap (λ (y : Y). vs ++ y ∷ reverse (map g ss)) same
      ∙ (sym (append_assoc vs (x ∷ []) (reverse (map g ss)))
      ∙ (ap (λ (ys : List Y). ys ++ reverse (map g ss)) (sym was) ∙ told))))

  pub goes_back : (us vs whole : List Y) (ss ts : List S) (s : S) (x : Y) → vs ≡ us ++ x ∷ [] → ss ≡ ts ++ s ∷ [] → g s ≡ x → us ++ reverse (map g ss) ≡ whole → vs ++ reverse (map g ts) ≡ whole
  goes_back us vs whole ss ts s x is was same told =
      ap (λ (ys : List Y). ys ++ reverse (map g ts)) is
      ∙ (append_assoc us (x ∷ []) (reverse (map g ts))
      ∙ (ap (λ (y : Y). us ++ y ∷ reverse (map g ts)) (sym same)
      ∙ (ap (λ (ys : List Y). us ++ ys) (sym (reversed_push ts s))
      ∙ (ap (λ (zs : List S). us ++ reverse (map g zs)) (sym was) ∙ told))))

  pub none_left : (us whole : List Y) (ss : List S) → length ss ≡ 0 → us ++ reverse (map g ss) ≡ whole → us ≡ whole
  none_left us whole [] none told = sym (append-nil us) ∙ told
  none_left us whole (s ∷ ss) none told = cc none
