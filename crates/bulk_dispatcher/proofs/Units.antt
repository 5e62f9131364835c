-- A hand's units, one unit of the file after another.
use Rattle.std.proofs.Common.{◌≡◌, ℕ, suc, ◌+◌, ◌≤◌, ◌%◌, ◌==◌, Bool, true, false, cond, List, [], ◌∷◌, ◌++◌, length, filter, refl, sym, ap, ◌∙◌, arith, add-zero, zero-add}
use Rattle.std.specs.List.{range_with_len}
use Rattle.std.proofs.lemmas.List.Elements.{filter-append}
use Rattle.std.proofs.lemmas.List.Sums.{sum_by-cons}
use Rattle.job_text.specs.declared.file.Unit.{Unit as JobUnit}
use Rattle.job_text.specs.JobFile.{job_count}
use Rattle.bulk_dispatcher.specs.Books.{Numbered, numbered_from}
use Rattle.bulk_dispatcher.specs.Hands.{units_of}

pub numbered-append : (u n : ℕ) (xs ys : List JobUnit) → numbered_from u n (xs ++ ys) ≡ numbered_from u n xs ++ numbered_from (u + length xs) (n + job_count xs) ys
numbered-append u n [] ys = ap (λ v. numbered_from v n ys) (sym (add-zero u)) ∙ ap (λ m. numbered_from (u + 0) m ys) (sym (add-zero n))
numbered-append u n (x ∷ xs) ys =
    let here : Numbered = record { place = u; lane = x.lane; numbers = range_with_len n (length x.jobs) } in
    let rest : List Numbered = numbered_from (u + 1) (n + length x.jobs) xs in
    ap (λ units. here ∷ units) (numbered-append (u + 1) (n + length x.jobs) xs ys)
    ∙ ap (λ v. here ∷ (rest ++ numbered_from v (n + length x.jobs + job_count xs) ys)) (omega arith)
    ∙ ap (λ m. here ∷ (rest ++ numbered_from (u + suc (length xs)) m ys)) (let e = sum_by-cons (λ (y : JobUnit). length y.jobs) x xs in omega (arith, e))

-- the unit at place u
abbrev pub numbered_at : List JobUnit → JobUnit → Numbered
numbered_at before unit = record { place = length before; lane = unit.lane; numbers = range_with_len (job_count before) (length unit.jobs) }

-- One unit more: it is of one hand and on one lane.
pub units_of-push : (before : List JobUnit) (unit : JobUnit) (hands lane hand : ℕ)
    → units_of (before ++ unit ∷ []) hands lane hand ≡ units_of before hands lane hand ++ cond (unit.lane == lane) (cond (length before % hands == hand) (numbered_at before unit ∷ []) []) []
units_of-push before unit hands lane hand =
    let more : List Numbered = numbered_from (0 + length before) (0 + job_count before) (unit ∷ []) in
    let p : Numbered → Bool = λ x. x.lane == lane in
    let q : Numbered → Bool = λ x. x.place % hands == hand in
    ap (λ units. filter q (filter p units)) (numbered-append 0 0 before (unit ∷ []))
    ∙ ap (filter q) (filter-append p (numbered_from 0 0 before) more)
    ∙ filter-append q (filter p (numbered_from 0 0 before)) (filter p more)
    ∙ ap (λ units. units_of before hands lane hand ++ units) (ap (λ v. filter q (filter p (numbered_from v (0 + job_count before) (unit ∷ [])))) (zero-add (length before)) ∙ ap (λ m. filter q (filter p (numbered_from (length before) m (unit ∷ [])))) (zero-add (job_count before)) ∙ one (unit.lane == lane))
  where
    one : (b : Bool) → filter (λ (x : Numbered). x.place % hands == hand) (cond b (numbered_at before unit ∷ []) []) ≡ cond b (cond (length before % hands == hand) (numbered_at before unit ∷ []) []) []
    one true = refl
    one false = refl

-- More units: the first ones are numbered as before.
pub units_of-append : (before more : List JobUnit) (hands lane hand : ℕ) → (rest : List Numbered) × (units_of (before ++ more) hands lane hand ≡ units_of before hands lane hand ++ rest)
units_of-append before more hands lane hand =
    let p : Numbered → Bool = λ x. x.lane == lane in
    let q : Numbered → Bool = λ x. x.place % hands == hand in
    let later : List Numbered = numbered_from (0 + length before) (0 + job_count before) more in (
      filter q (filter p later),
      ap (λ units. filter q (filter p units)) (numbered-append 0 0 before more) ∙ ap (filter q) (filter-append p (numbered_from 0 0 before) later) ∙ filter-append q (filter p (numbered_from 0 0 before)) (filter p later),
    )

length-numbered : (u n : ℕ) (file : List JobUnit) → length (numbered_from u n file) ≡ length file
length-numbered u n [] = refl
length-numbered u n (x ∷ file) = ap suc (length-numbered (u + 1) (n + length x.jobs) file)

fewer : {X : Type 0} (p : X → Bool) (xs : List X) → length (filter p xs) ≤ length xs
fewer p [] = omega arith
fewer p (x ∷ xs) = let rest = fewer p xs in pick (p x) rest
  where
    pick : (b : Bool) → length (filter p xs) ≤ length xs → length (cond b (x ∷ filter p xs) (filter p xs)) ≤ suc (length xs)
    pick true l = omega (arith, l)
    pick false l = omega (arith, l)

-- a hand has no more units on a lane than the file
pub units_at_most : (file : List JobUnit) (hands lane hand : ℕ) → length (units_of file hands lane hand) ≤ length file
units_at_most file hands lane hand =
    let all = length-numbered 0 0 file in
    let on_lane = fewer (λ (x : Numbered). x.lane == lane) (numbered_from 0 0 file) in
    let own = fewer (λ (x : Numbered). x.place % hands == hand) (filter (λ (x : Numbered). x.lane == lane) (numbered_from 0 0 file)) in
    omega (arith, all, on_lane, own)
