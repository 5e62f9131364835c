-- The lanes of a file.
use Rattle.std.proofs.Common.{◌≡◌, ℕ, zero, suc, ◌+◌, ◌<◌, ◌≤◌, ◌==◌, ◌||◌, Bool, true, false, cond, List, [], ◌∷◌, ◌++◌, length, filter, get_or, refl, sym, ap, subst, ◌∙◌, arith, zero-add, All, Contains, AllPairs, eq-eqb, inl, inr}
use Rattle.std.specs.List.{range_with_len, list_any, zip, AllByRecursion}
use Rattle.std.proofs.lemmas.Bool.{cases_Bool}
use Rattle.std.proofs.lemmas.List.{get_or_default, append-nil}
use Rattle.std.proofs.lemmas.List.FromFn.{length-range_with_len, get_or-range_with_len}
use Rattle.std.proofs.lemmas.List.Elements.{All-get_or, All-weaker, All-from_recursion, recursion_from_All, All-contains, All-filter, filter-append, filter_passes, Contains-append_right}
use Rattle.job_text.specs.declared.file.Unit.{Unit as JobUnit}
use Rattle.bulk_dispatcher.specs.Books.{Numbered, numbered_from, lanes_of, Climbs}

abbrev pub occurs : List JobUnit → ℕ → Bool
occurs file lane = list_any (λ unit. unit.lane == lane) file

pub range_all : (P : ℕ → Type 0) (a n : ℕ) → ((k : ℕ) → a ≤ k → k < a + n → P k) → AllByRecursion P (range_with_len a n)
range_all P a zero h = tt
range_all P a (suc n) h = (h a (omega arith) (omega arith), range_all P (a + 1) n (λ k l m. h k (omega (arith, l)) (omega (arith, m))))

Contains-passed : {X : Type 0} (p : X → Bool) (xs : List X) (i : ℕ) (x d : X) → i < length xs → get_or xs i d ≡ x → p x ≡ true → Contains (filter p xs) x
Contains-passed p [] i x d l e h = absurd (omega (arith, l))
Contains-passed p (y ∷ xs) zero x d l e h =
    let here : p y ≡ true = ap p e ∙ h in
    rw here (0, omega arith, e)
Contains-passed p (y ∷ xs) (suc i) x d l e h =
    let rest = Contains-passed p xs i x d (omega (arith, l)) e h in
    elim (cases_Bool (p y)) [
      | inl passes ↦ subst (λ b. Contains (cond b (y ∷ filter p xs) (filter p xs)) x) (sym passes) (Contains-append_right (y ∷ []) (filter p xs) x rest)
      | inr fails ↦ subst (λ b. Contains (cond b (y ∷ filter p xs) (filter p xs)) x) (sym fails) rest
    ]

pub lane_kept : (file : List JobUnit) (lane : ℕ) → lane < 16 → occurs file lane ≡ true → Contains (lanes_of file) lane
lane_kept file lane l h = Contains-passed (occurs file) (range_with_len 0 16) lane lane 0 (rw length-range_with_len l) (get_or-range_with_len 0 16 lane 0 l ∙ zero-add lane) h

pub lane_occurs : (file : List JobUnit) (lane : ℕ) → Contains (lanes_of file) lane → occurs file lane ≡ true
lane_occurs file lane c = All-contains (λ k. occurs file k ≡ true) (lanes_of file) lane (filter_passes (occurs file) (range_with_len 0 16)) c

pub lane_below : (file : List JobUnit) (lane : ℕ) → Contains (lanes_of file) lane → lane < 16
lane_below file lane c = All-contains (λ k. k < 16) (lanes_of file) lane (All-filter (occurs file) (λ k. k < 16) (range_with_len 0 16) (All-from_recursion (λ k. k < 16) (range_with_len 0 16) (range_all (λ k. k < 16) 0 16 (λ k l m. m)))) c

-- a lane without a unit
pub no_units : (u n lane : ℕ) (file : List JobUnit) → occurs file lane ≡ false → filter (λ (unit : Numbered). unit.lane == lane) (numbered_from u n file) ≡ []
no_units u n lane [] h = refl
no_units u n lane (unit ∷ units) h =
    elim (cases_Bool (unit.lane == lane)) [
      | inl passes ↦ cc (sym (ap (λ b. b || occurs units lane) passes) ∙ h)
      | inr fails ↦
          let rest : occurs units lane ≡ false = sym (ap (λ b. b || occurs units lane) fails) ∙ h in
          rw fails (no_units (u + 1) (n + length unit.jobs) lane units rest)
    ]

pub lanes_below : (u n : ℕ) (file : List JobUnit) → AllByRecursion (λ (unit : JobUnit). unit.lane < 16) file → AllByRecursion (λ (unit : Numbered). unit.lane < 16) (numbered_from u n file)
lanes_below u n [] h = tt
lanes_below u n (unit ∷ units) h = (h.0, lanes_below (u + 1) (n + length unit.jobs) units h.1)

climbs_range : (a n : ℕ) → Climbs (range_with_len a n)
climbs_range a zero = tt
climbs_range a (suc n) = (range_all (λ y. a < y) (a + 1) n (λ k l m. omega (arith, l)), climbs_range (a + 1) n)

climbs_passed : (p : ℕ → Bool) (xs : List ℕ) → Climbs xs → Climbs (filter p xs)
climbs_passed p [] h = tt
climbs_passed p (x ∷ xs) h =
    let rest = climbs_passed p xs h.1 in
    elim (cases_Bool (p x)) [
      | inl passes ↦ subst (λ b. Climbs (cond b (x ∷ filter p xs) (filter p xs))) (sym passes) (recursion_from_All (λ y. x < y) (filter p xs) (All-filter p (λ y. x < y) xs (All-from_recursion (λ y. x < y) xs h.0)), rest)
      | inr fails ↦ subst (λ b. Climbs (cond b (x ∷ filter p xs) (filter p xs))) (sym fails) rest
    ]

pub climbs : (file : List JobUnit) → Climbs (lanes_of file)
climbs file = climbs_passed (occurs file) (range_with_len 0 16) (climbs_range 0 16)

-- what stands beside a number of such a list is one thing
beside_is_above : {B : Type 0} (x : ℕ) (xs : List ℕ) (ys : List B) (i : ℕ) (p d : ℕ × B) → AllByRecursion (λ y. x < y) xs → i < length (zip xs ys) → get_or (zip xs ys) i d ≡ p → x < p.0
beside_is_above x [] ys i p d h l e = absurd (omega (arith, l))
beside_is_above x (y ∷ xs) [] i p d h l e = absurd (omega (arith, l))
beside_is_above x (y ∷ xs) (z ∷ ys) zero p d h l e = subst (λ k. x < k) (ap (λ q. q.0) e) h.0
beside_is_above x (y ∷ xs) (z ∷ ys) (suc i) p d h l e = beside_is_above x xs ys i p d h.1 (omega (arith, l)) e

pub one_beside_at : {B : Type 0} (xs : List ℕ) (ys : List B) (i j : ℕ) (p q d : ℕ × B) → Climbs xs → i < length (zip xs ys) → j < length (zip xs ys) → get_or (zip xs ys) i d ≡ p → get_or (zip xs ys) j d ≡ q → p.0 ≡ q.0 → p ≡ q
one_beside_at [] ys i j p q d h l m e f same = absurd (omega (arith, l))
one_beside_at (x ∷ xs) [] i j p q d h l m e f same = absurd (omega (arith, l))
one_beside_at (x ∷ xs) (y ∷ ys) zero zero p q d h l m e f same = sym e ∙ f
one_beside_at (x ∷ xs) (y ∷ ys) zero (suc j) p q d h l m e f same = absurd (let up = beside_is_above x xs ys j q d h.0 (omega (arith, m)) f in let at = ap (λ r. r.0) e in omega (arith, up, at, same))
one_beside_at (x ∷ xs) (y ∷ ys) (suc i) zero p q d h l m e f same = absurd (let up = beside_is_above x xs ys i p d h.0 (omega (arith, l)) e in let at = ap (λ r. r.0) f in omega (arith, up, at, same))
one_beside_at (x ∷ xs) (y ∷ ys) (suc i) (suc j) p q d h l m e f same = one_beside_at xs ys i j p q d h.1 (omega (arith, l)) (omega (arith, m)) e f same

pub one_beside : {B : Type 0} (xs : List ℕ) (ys : List B) (p q : ℕ × B) → Climbs xs → Contains (zip xs ys) p → Contains (zip xs ys) q → p.0 ≡ q.0 → p ≡ q
one_beside xs ys p q h c d same =
    one_beside_at xs ys c.0 d.0 p q p h c.1 d.1 c.2 (get_or_default (zip xs ys) d.0 p q d.1 ∙ d.2) same

pub climbs_pairs : (xs : List ℕ) → Climbs xs → AllPairs (λ x y. x < y) xs
climbs_pairs xs h i j d l m = at_both xs h i j l m
  where
    at_both : (xs : List ℕ) → Climbs xs → (i j : ℕ) → i < j → j < length xs → get_or xs i d < get_or xs j d
    at_both [] h i j l m = absurd (omega (arith, m))
    at_both (x ∷ xs) h i zero l m = absurd (omega (arith, l))
    at_both (x ∷ xs) h zero (suc j) l m = All-get_or (λ y. x < y) xs j d (omega (arith, m)) (All-from_recursion (λ y. x < y) xs h.0)
    at_both (x ∷ xs) h (suc i) (suc j) l m = at_both xs h.1 i j (omega (arith, l)) (omega (arith, m))

-- the numbers of lanes that occur, of those below n
unfoldable pub lanes_below_number : List JobUnit → ℕ → List ℕ
lanes_below_number file n = filter (occurs file) (range_with_len 0 n)

pub lanes_below_none : (file : List JobUnit) → lanes_below_number file 0 ≡ []
unfolding lanes_below_number
lanes_below_none file = refl

range_last : (a n : ℕ) → range_with_len a (suc n) ≡ range_with_len a n ++ (a + n) ∷ []
range_last a zero = ap (λ (x : ℕ). x ∷ []) (omega arith)
range_last a (suc n) = ap (λ (xs : List ℕ). a ∷ xs) (range_last (a + 1) n ∙ ap (λ (x : ℕ). range_with_len (a + 1) n ++ x ∷ []) (omega arith))

pub lanes_below_more : (file : List JobUnit) (n : ℕ) (before after : List ℕ) (wanted : Bool) → before ≡ lanes_below_number file n → wanted ≡ occurs file n → after ≡ cond wanted (before ++ n ∷ []) before → after ≡ lanes_below_number file (n + 1)
unfolding lanes_below_number
lanes_below_more file n before after wanted b w e =
    let step : range_with_len 0 (n + 1) ≡ range_with_len 0 n ++ n ∷ [] = ap (range_with_len 0) (let s : n + 1 ≡ suc n = omega arith in s) ∙ range_last 0 n ∙ ap (λ (k : ℕ). range_with_len 0 n ++ k ∷ []) (zero-add n) in
    e ∙ (λ i. cond (w i) (b i ++ n ∷ []) (b i)) ∙ pick (occurs file n) ∙ sym (filter-append (occurs file) (range_with_len 0 n) (n ∷ [])) ∙ ap (filter (occurs file)) (sym step)
  where
    pick : (c : Bool) → cond c (filter (occurs file) (range_with_len 0 n) ++ n ∷ []) (filter (occurs file) (range_with_len 0 n)) ≡ filter (occurs file) (range_with_len 0 n) ++ cond c (n ∷ []) []
    pick true = refl
    pick false = sym (append-nil (filter (occurs file) (range_with_len 0 n)))

pub lanes_below_all : (file : List JobUnit) (n : ℕ) → n ≡ 16 → lanes_below_number file n ≡ lanes_of file
unfolding lanes_below_number
lanes_below_all file n e = ap (λ (k : ℕ). filter (occurs file) (range_with_len 0 k)) e

-- numbers that are a file's lanes
pub rise_of : (file : List JobUnit) (ns : List ℕ) → ns ≡ lanes_of file → AllPairs (λ x y. x < y) ns
rise_of file ns e = subst (AllPairs (λ x y. x < y)) (sym e) (climbs_pairs (lanes_of file) (climbs file))

pub climb_of : (file : List JobUnit) (ns : List ℕ) → ns ≡ lanes_of file → Climbs ns
climb_of file ns e = subst Climbs (sym e) (climbs file)

pub low_of : (file : List JobUnit) (ns : List ℕ) → ns ≡ lanes_of file → All (λ n. n ≤ 15) ns
low_of file ns e = subst (All (λ n. n ≤ 15)) (sym e) (All-weaker (λ n. n < 16) (λ n. n ≤ 15) (λ n l. omega (arith, l)) (lanes_of file) (All-filter (occurs file) (λ k. k < 16) (range_with_len 0 16) (All-from_recursion (λ k. k < 16) (range_with_len 0 16) (range_all (λ k. k < 16) 0 16 (λ k l m. m)))))

unit_occurs : (file : List JobUnit) (k : ℕ) (d : JobUnit) → k < length file → occurs file (get_or file k d).lane ≡ true
unit_occurs [] k d l = absurd (omega (arith, l))
unit_occurs (u ∷ file) zero d l = ap (λ b. b || occurs file u.lane) (eq-eqb u.lane u.lane refl)
unit_occurs (u ∷ file) (suc k) d l = either (u.lane == (get_or file k d).lane) (occurs file (get_or file k d).lane) (unit_occurs file k d (omega (arith, l)))
  where
    either : (a b : Bool) → b ≡ true → (a || b) ≡ true
    either true b e = refl
    either false b e = e

pub known_of : (file : List JobUnit) (ns : List ℕ) → ns ≡ lanes_of file → AllByRecursion (λ (unit : JobUnit). unit.lane < 16) file → All (λ (unit : JobUnit). Contains ns unit.lane) file
known_of file ns e low k d l =
    subst (λ ms. Contains ms (get_or file k d).lane) (sym e) (lane_kept file (get_or file k d).lane (All-get_or (λ (unit : JobUnit). unit.lane < 16) file k d l (All-from_recursion (λ (unit : JobUnit). unit.lane < 16) file low)) (unit_occurs file k d l))
