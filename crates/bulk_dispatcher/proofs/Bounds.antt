-- A lane's operations are few, wherever its hands stopped.
use Rattle.std.proofs.Common.{◌≡◌, ℕ, zero, suc, ◌+◌, ◌<◌, ◌≤◌, ◌==◌, Bool, cond, List, [], ◌∷◌, ◌++◌, length, filter, take, drop, sym, ap, subst, ◌∙◌, arith, length-append, All, inl, inr}
use Rattle.std.specs.List.{flat_map, range_with_len}
use Rattle.std.proofs.lemmas.Bool.{cases_Bool}
use Rattle.std.proofs.lemmas.List.{take-append-drop}
use Rattle.std.proofs.lemmas.Grind.{flat_map-append}
use Rattle.std.proofs.lemmas.List.FromFn.{length-range_with_len}
use Rattle.std.proofs.lemmas.List.Elements.{recursion_from_All}
use Rattle.std.proofs.lemmas.List.Sorted.{length_permutation}
use Rattle.bq_model.specs.declared.group.Group.{Group}
use Rattle.bq_model.specs.History.{operations}
use Rattle.bq_model.specs.NoShut.{NeverShut}
use Rattle.bq_model.specs.Own.{mine}
use Rattle.job_text.specs.declared.file.Unit.{Unit as JobUnit}
use Rattle.job_text.specs.JobFile.{job_count}
use Rattle.bq_model.specs.Values.{enqueued}
use Rattle.bulk_dispatcher.specs.Hands.{empties}
use Rattle.bulk_dispatcher.specs.Books.{Numbered, numbered_from, units_on}
use Rattle.bulk_dispatcher.specs.Hands.{units_of, answers_to}
use Rattle.bulk_dispatcher.proofs.Parts.{part, IsPermutation-parts}
use Rattle.bulk_dispatcher.proofs.EachOnce.{values_by_group, of_hands, hand_of, all_dealt}
use Rattle.bulk_dispatcher.proofs.Numbers.{numbers_in_order}
use Rattle.bulk_dispatcher.proofs.Counts.{made_at_most}
use Rattle.bulk_dispatcher.proofs.Units.{units_of-append}

-- Caller c enqueued the jobs of those of its units that are among the first n of the file.
abbrev pub PutSome : List JobUnit → ℕ → ℕ → List Group → ℕ → Type 0
PutSome file hands lane h c = (n : ℕ) × (enqueued (operations (mine h c)) ≡ flat_map (λ unit. unit.numbers) (units_of (take n file) hands lane c))

first_units : (n : ℕ) (file : List JobUnit) (hands lane c : ℕ) → length (flat_map (λ (unit : Numbered). unit.numbers) (units_of (take n file) hands lane c)) ≤ length (flat_map (λ (unit : Numbered). unit.numbers) (units_of file hands lane c))
first_units n file hands lane c =
    let more = units_of-append (take n file) (drop n file) hands lane c in
    let whole : flat_map (λ (unit : Numbered). unit.numbers) (units_of file hands lane c) ≡ flat_map (λ (unit : Numbered). unit.numbers) (units_of (take n file) hands lane c) ++ flat_map (λ (unit : Numbered). unit.numbers) more.0 =
    ap (λ us. flat_map (λ (unit : Numbered). unit.numbers) (units_of us hands lane c)) (sym (take-append-drop n file)) ∙ ap (flat_map (λ (unit : Numbered). unit.numbers)) more.1 ∙ flat_map-append (λ (unit : Numbered). unit.numbers) (units_of (take n file) hands lane c) more.0 in
    let all = ap length whole ∙ length-append (flat_map (λ (unit : Numbered). unit.numbers) (units_of (take n file) hands lane c)) (flat_map (λ (unit : Numbered). unit.numbers) more.0) in
    omega (arith, all)

passed_pieces : {X Y : Type 0} (f : X → List Y) (p : X → Bool) (xs : List X) → length (flat_map f (filter p xs)) ≤ length (flat_map f xs)
passed_pieces f p [] = omega arith
passed_pieces f p (x ∷ xs) =
    let rest = passed_pieces f p xs in
    let all = length-append (f x) (flat_map f xs) in
    elim (cases_Bool (p x)) [
      | inl passes ↦
          let here = length-append (f x) (flat_map f (filter p xs)) in
          let most : length (f x ++ flat_map f (filter p xs)) ≤ length (f x ++ flat_map f xs) = omega (arith, rest, all, here) in
          subst (λ b. length (flat_map f (cond b (x ∷ filter p xs) (filter p xs))) ≤ length (f x ++ flat_map f xs)) (sym passes) most
      | inr fails ↦
          let most : length (flat_map f (filter p xs)) ≤ length (f x ++ flat_map f xs) = omega (arith, rest, all) in
          subst (λ b. length (flat_map f (cond b (x ∷ filter p xs) (filter p xs))) ≤ length (f x ++ flat_map f xs)) (sym fails) most
    ]

range_pieces : {Y : Type 0} (f g : ℕ → List Y) (a n : ℕ) → ((k : ℕ) → a ≤ k → k < a + n → length (f k) ≤ length (g k)) → length (flat_map f (range_with_len a n)) ≤ length (flat_map g (range_with_len a n))
range_pieces f g a zero h = omega arith
range_pieces f g a (suc n) h =
    let here = h a (omega arith) (omega arith) in
    let rest = range_pieces f g (a + 1) n (λ k l m. h k (omega (arith, l)) (omega (arith, m))) in
    let left = length-append (f a) (flat_map f (range_with_len (a + 1) n)) in
    let right = length-append (g a) (flat_map g (range_with_len (a + 1) n)) in
    omega (arith, here, rest, left, right)

-- No more is enqueued on a lane than the file has jobs, also where a hand stopped early.
pub put_at_most : (file : List JobUnit) (hands lane : ℕ) (h : List Group) → 0 < hands → All (λ g. g.caller < hands + 1) h → mine h hands ≡ [] → ((c : ℕ) → c < hands → PutSome file hands lane h c)
    → length (enqueued (operations h)) ≤ job_count file
put_at_most file hands lane h pos known idle put =
    let groups = length_permutation _ _ (IsPermutation-parts (λ (g : Group). g.caller) (λ (g : Group). enqueued g.ops) hands h (of_hands hands h (recursion_from_All _ h known) idle)) in
    let units = length_permutation _ _ (IsPermutation-parts (hand_of hands) (λ (unit : Numbered). unit.numbers) hands (units_on file lane) (all_dealt hands (units_on file lane) pos)) in
    let most = range_pieces (λ c. flat_map (λ (g : Group). enqueued g.ops) (part (λ (g : Group). g.caller) h c)) (λ c. flat_map (λ (unit : Numbered). unit.numbers) (part (hand_of hands) (units_on file lane) c)) 0 hands
    (λ c _ l.
    let some = put c (omega (arith, l)) in
    let same = ap length (sym (values_by_group (mine h c)) ∙ some.1) in
    let less = first_units some.0 file hands lane c in
    omega (arith, same, less)) in
    let lane_jobs = passed_pieces (λ (unit : Numbered). unit.numbers) (λ unit. unit.lane == lane) (numbered_from 0 0 file) in
    let all = ap length (numbers_in_order 0 0 file) ∙ length-range_with_len 0 (job_count file) in
    let whole = ap length (values_by_group h) in
    omega (arith, groups, units, most, lane_jobs, all, whole)

-- So a hand makes no more operations than twice the file's jobs and its dequeues that found nothing.
pub operations_at_most : (file : List JobUnit) (hands lane c : ℕ) (h : List Group) → 0 < hands → All (λ g. g.caller < hands + 1) h → NeverShut h → mine h hands ≡ [] → ((d : ℕ) → d < hands → PutSome file hands lane h d) → c < hands
    → length (operations (mine h c)) ≤ job_count file + job_count file + empties (answers_to h c)
operations_at_most file hands lane c h pos known never idle put l =
    let most = put_at_most file hands lane h pos known idle put in
    let made = made_at_most h c never in
    let some = put c l in
    let same = ap length some.1 in
    let less = first_units some.0 file hands lane c in
    let hand = passed_pieces (λ (unit : Numbered). unit.numbers) (λ unit. hand_of hands unit == c) (units_on file lane) in
    let lane_jobs = passed_pieces (λ (unit : Numbered). unit.numbers) (λ unit. unit.lane == lane) (numbered_from 0 0 file) in
    let all = ap length (numbers_in_order 0 0 file) ∙ length-range_with_len 0 (job_count file) in
    omega (arith, most, made, same, less, hand, lane_jobs, all)
