-- Entries whose keys strictly rise: the test that `FinMap` makes, and the fact that `BTreeMap` ensures.
use Rattle.std.proofs.Common.{◌≡◌, Bool, true, false, ◌&&◌, T, List, [], ◌∷◌, map, sym, refl, subst, Ordering, Less, Equal, Greater, is_lt, Bor}
use Rattle.std.specs.List.{AllByRecursion}
use Rattle.std.specs.List.Sorted.{IsStrictlySortedBy}
use Rattle.std.specs.FinMap.{is_sorted}
use Rattle.std.proofs.lemmas.Map.Keys.{sorted_head, sorted_tail}

both : (a b : Bool) → T a → T b → T (a && b)
both true b p q = q
both false b p q = absurd p

left : (a b : Bool) → T (a && b) → T a
left true b h = tt
left false b h = h

right : (a b : Bool) → T (a && b) → T b
right true b h = h
right false b h = absurd h

less : (r : Ordering) → T (is_lt r) → r ≡ Less
less Less h = refl
less Equal h = absurd h
less Greater h = absurd h

module _ {K X : Type 0} (R : K → K → Ordering) where
  -- the key is below each one, as `is_sorted` tests it
  abbrev below : K → List (K × X) → Bool
  below x [] = true
  below x (e ∷ es) = is_lt (R x e.0) && below x es

  below_each : (x : K) (es : List (K × X)) → AllByRecursion (λ y. R x y ≡ Less) (map (λ e. e.0) es) → T (below x es)
  below_each x [] h = tt
  below_each x (e ∷ es) h = both _ _ (subst (λ r. T (is_lt r)) (sym h.0) tt) (below_each x es h.1)

  -- the fact gives the test
  pub test_from_rising : (es : List (K × X)) → IsStrictlySortedBy R (map (λ e. e.0) es) → T (is_sorted R es)
  test_from_rising [] h = tt
  test_from_rising (e ∷ es) h =
      both _ _ (below_each e.0 es (sorted_head R e.0 _ h)) (test_from_rising es (sorted_tail R e.0 _ h))

  each_above : (x : K) (es : List (K × X)) → T (below x es) → AllByRecursion (λ y. R x y ≡ Less) (map (λ e. e.0) es)
  each_above x [] s = tt
  each_above x (e ∷ es) s =
      (less _ (left (is_lt (R x e.0)) (below x es) s), each_above x es (right (is_lt (R x e.0)) (below x es) s))

  -- the test gives the fact
  pub rising_from_test : (es : List (K × X)) → T (is_sorted R es) → IsStrictlySortedBy R (map (λ e. e.0) es)
  unfolding IsStrictlySortedBy
  rising_from_test [] s = tt
  rising_from_test (e ∷ es) s =
      (each_above e.0 es (left (below e.0 es) (is_sorted R es) s), rising_from_test es (right (below e.0 es) (is_sorted R es) s))

  -- keys that are borrowed rise as what they point to
  abbrev shown : List (Bor K × X) → List (K × X)
  shown es = map (λ e. (e.0.now, e.1)) es

  all_shown : (x : K) (es : List (Bor K × X)) → AllByRecursion (λ (y : Bor K). R x y.now ≡ Less) (map (λ e. e.0) es)
      → AllByRecursion (λ y. R x y ≡ Less) (map (λ e. e.0) (shown es))
  all_shown x [] h = tt
  all_shown x (e ∷ es) h = (h.0, all_shown x es h.1)

  pub rising_shown : (es : List (Bor K × X)) → IsStrictlySortedBy (λ x y. R x.now y.now) (map (λ e. e.0) es)
      → IsStrictlySortedBy R (map (λ e. e.0) (shown es))
  unfolding IsStrictlySortedBy
  rising_shown [] h = tt
  rising_shown (e ∷ es) h = (all_shown e.0.now es h.0, rising_shown es h.1)
