-- The numbers of the jobs of a level, and the file of these jobs.
use Rattle.std.proofs.Common.{◌≡◌, ℕ, zero, suc, ◌+◌, ◌<◌, ◌≤◌, ◌-◌, Bool, true, false, List, [], ◌∷◌, ◌++◌, length, get_or, filter, Option, Some, None, append_assoc, append-nil, map, set, replicate, slice_index_or, slice_set, length-set, get_or-set_same, get_or-set_other, ◌≢◌, refl, sym, ap, ap₂, subst, ◌∙◌, arith, All, Contains, ◌==◌, cond, if◌then◌else◌, slice_get, slice_index, eqb-true, eq-eqb, ⊎_elim}
use Rattle.std.specs.List.{flat_map, range_with_len}
use Rattle.std.proofs.lemmas.Bool.{cases_eq, false_from_ne_true}
use Rattle.std.proofs.lemmas.List.Elements.{All-nil, All-cons, All-head, All-tail, All-weaker, All-filter, filter_passes, Contains-append_left, Contains-append_right, Contains-push, filter-append}
use Rattle.std.proofs.lemmas.List.FromFn.{length-range_with_len, length-map-range_with_len, get_or-map-range_with_len, fill_by_all}
use Rattle.std.proofs.lemmas.List.{length-replicate, get_or-replicate}
use Rattle.std.proofs.lemmas.Option.{slice_get-get_or}
use Rattle.dep_text.specs.declared.job.DepJob.{DepJob}
use Rattle.dep_text.specs.Levels.{levels_of}
use Rattle.dep_jobs.specs.LevelFile.{numbers_on, unit_for, units_for}
use Rattle.bulk_dispatcher.proofs.Numbers.{range-append}

-- ---- the numbers of a level

range_below : (a n bound : ℕ) → a + n ≤ bound → All (λ k. k < bound) (range_with_len a n)
range_below a zero bound low = All-nil (λ k. k < bound)
range_below a (suc n) bound low = All-cons (λ k. k < bound) a (range_with_len (a + 1) n) (omega arith) (range_below (a + 1) n bound (omega arith))

-- whether a number is that of a job of this level
abbrev pub IsOn : List ℕ → ℕ → ℕ → Type 0
IsOn levels level k = (k < length levels) × (slice_index levels k ≡ level)

both_hold : (levels : List ℕ) (level : ℕ) (numbers : List ℕ) → All (λ k. k < length levels) numbers → All (λ k. (slice_index levels k == level) ≡ true) numbers → All (IsOn levels level) numbers
both_hold levels level [] low on = All-nil (IsOn levels level)
both_hold levels level (k ∷ numbers) low on =
    All-cons (IsOn levels level) k numbers
    (All-head (λ j. j < length levels) k numbers low, eqb-true (slice_index levels k) level (All-head (λ j. (slice_index levels j == level) ≡ true) k numbers on))
    (both_hold levels level numbers (All-tail (λ j. j < length levels) k numbers low) (All-tail (λ j. (slice_index levels j == level) ≡ true) k numbers on))

pub numbers_on-are : (levels : List ℕ) (level : ℕ) → All (IsOn levels level) (numbers_on levels level)
numbers_on-are levels level =
    let all = range_with_len 0 (length levels) in
    let test : ℕ → Bool = λ k. slice_index levels k == level in
    both_hold levels level (filter test all) (All-filter test (λ k. k < length levels) all (range_below 0 (length levels) (length levels) (omega arith))) (filter_passes test all)

-- the numbers up to n, at k
range_parts : (k n : ℕ) → k < n → range_with_len 0 n ≡ (range_with_len 0 k ++ k ∷ []) ++ range_with_len (k + 1) (n - (k + 1))
range_parts k n within =
    let rest = range_with_len (k + 1) (n - (k + 1)) in
    let count : k + suc (n - (k + 1)) ≡ n = omega arith in
    let place : 0 + k ≡ k = omega arith in
    sym (ap (range_with_len 0) count)
    ∙ (sym (range-append 0 k (suc (n - (k + 1)))) ∙ (ap (λ j. range_with_len 0 k ++ range_with_len j (suc (n - (k + 1)))) place ∙ sym (append_assoc (range_with_len 0 k) (k ∷ []) rest)))

-- the number of each job of a level is among them
pub numbers_on-has : (levels : List ℕ) (level k : ℕ) → k < length levels → slice_index levels k ≡ level → Contains (numbers_on levels level) k
numbers_on-has levels level k within on =
    let test : ℕ → Bool = λ j. slice_index levels j == level in
    let passes : test k ≡ true = eq-eqb (slice_index levels k) level on in
    let rest = range_with_len (k + 1) (length levels - (k + 1)) in
    let parts = range_parts k (length levels) within in
    let kept : filter test (range_with_len 0 k ++ k ∷ []) ≡ filter test (range_with_len 0 k) ++ k ∷ [] =
    filter-append test (range_with_len 0 k) (k ∷ []) ∙ ap (λ (b : Bool). filter test (range_with_len 0 k) ++ cond b (k ∷ []) []) passes in
    let all_kept = ap (filter test) parts ∙ filter-append test (range_with_len 0 k ++ k ∷ []) rest in
    subst (λ (numbers : List ℕ). Contains numbers k) (sym all_kept)
    (Contains-append_left (filter test (range_with_len 0 k ++ k ∷ [])) (filter test rest) k (subst (λ (numbers : List ℕ). Contains numbers k) (sym kept) (Contains-push (filter test (range_with_len 0 k)) k)))

-- the numbers of the first n jobs that are on a level
abbrev pub numbers_among : List ℕ → ℕ → ℕ → List ℕ
numbers_among levels n level = filter (λ k. slice_index levels k == level) (range_with_len 0 n)

-- one number more
numbers-more : (levels : List ℕ) (level n : ℕ) → numbers_among levels (n + 1) level ≡ numbers_among levels n level ++ (if slice_index levels n == level then n ∷ [] else [])
numbers-more levels level n =
    let test : ℕ → Bool = λ k. slice_index levels k == level in
    let place : 0 + n ≡ n = omega arith in
    ap (filter test) (sym (range-append 0 n 1) ∙ ap (λ j. range_with_len 0 n ++ range_with_len j 1) place) ∙ filter-append test (range_with_len 0 n) (n ∷ [])

length-filter-le : (test : ℕ → Bool) (xs : List ℕ) → length (filter test xs) ≤ length xs
length-filter-le test [] = omega arith
length-filter-le test (x ∷ xs) =
    let rest = length-filter-le test xs in
    elim (test x) as (λ b. length (cond b (x ∷ filter test xs) (filter test xs)) ≤ length (x ∷ xs)) [
      | true ↦ omega arith
      | false ↦ omega arith
    ]

pub length-numbers_on : (levels : List ℕ) (level : ℕ) → length (numbers_on levels level) ≤ length levels
length-numbers_on levels level =
    let all = length-range_with_len 0 (length levels) in
    let some = length-filter-le (λ k. slice_index levels k == level) (range_with_len 0 (length levels)) in
    omega arith

-- no number on each level
pub numbers_among-none : (levels : List ℕ) (depth : ℕ) → replicate depth [] ≡ map (numbers_among levels 0) (range_with_len 0 depth)
numbers_among-none levels depth =
    fill_by_all (numbers_among levels 0) (replicate depth []) depth [] (length-replicate depth []) (λ level low. get_or-replicate depth level [] [] low)

-- one number more on its level
pub numbers_among-push : (levels : List ℕ) (depth n level : ℕ) (some more : List (List ℕ)) → level < depth → slice_index levels n ≡ level
    → some ≡ map (numbers_among levels n) (range_with_len 0 depth) → more ≡ slice_set some level (slice_index_or some level [] ++ n ∷ []) → more ≡ map (numbers_among levels (n + 1)) (range_with_len 0 depth)
numbers_among-push levels depth n level some more low level_is some_are more_are =
    let before = map (numbers_among levels n) (range_with_len 0 depth) in
    let at_before : (q : ℕ) → q < depth → get_or some q [] ≡ numbers_among levels n q =
    λ q within. ap (λ (all : List (List ℕ)). get_or all q []) some_are ∙ get_or-map-range_with_len (numbers_among levels n) 0 depth q q [] within (omega arith) in
    let count : length some ≡ depth = ap (λ (all : List (List ℕ)). length all) some_are ∙ length-map-range_with_len (numbers_among levels n) 0 depth in
    let longer = length-set some level (get_or some level [] ++ n ∷ []) in
    fill_by_all (numbers_among levels (n + 1)) more depth [] (ap (λ (all : List (List ℕ)). length all) more_are ∙ (longer ∙ count))
    (λ q within.
    ap (λ (all : List (List ℕ)). get_or all q []) more_are
    ∙ ⊎_elim
    (λ (same : q ≡ level).
    let on : (slice_index levels n == q) ≡ true = eq-eqb (slice_index levels n) q (level_is ∙ sym same) in
    let here : get_or (set some level (get_or some level [] ++ n ∷ [])) q [] ≡ get_or some q [] ++ n ∷ [] =
    subst (λ j. get_or (set some level (get_or some level [] ++ n ∷ [])) j [] ≡ get_or some j [] ++ n ∷ []) (sym same) (get_or-set_same some level (get_or some level [] ++ n ∷ []) [] (omega arith)) in
    here ∙ (ap (λ (ns : List ℕ). ns ++ n ∷ []) (at_before q within) ∙ sym (numbers-more levels q n ∙ ap (λ (b : Bool). numbers_among levels n q ++ (if b then n ∷ [] else [])) on)))
    (λ (other : q ≢ level).
    let off : (slice_index levels n == q) ≡ false = false_from_ne_true _ (λ yes_is. other (sym (eqb-true (slice_index levels n) q yes_is) ∙ level_is)) in
    let end = numbers-more levels q n ∙ (ap (λ (b : Bool). numbers_among levels n q ++ (if b then n ∷ [] else [])) off ∙ append-nil (numbers_among levels n q)) in
    get_or-set_other some level q (get_or some level [] ++ n ∷ []) [] other ∙ (at_before q within ∙ sym end))
    (cases_eq q level))

-- there is a list for each level
pub length-numbers_among : (levels : List ℕ) (n depth : ℕ) (all : List (List ℕ)) → all ≡ map (numbers_among levels n) (range_with_len 0 depth) → length all ≡ depth
length-numbers_among levels n depth all all_are = ap (λ (some : List (List ℕ)). length some) all_are ∙ length-map-range_with_len (numbers_among levels n) 0 depth
