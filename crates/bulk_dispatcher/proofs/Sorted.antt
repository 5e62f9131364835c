-- The replies of all hands, by rising number, are one to each job.
use Rattle.std.proofs.Common.{◌≡◌, ℕ, ◌<◌, Some, List, [], ◌∷◌, length, map, get_or, sym, ap, subst, ◌∙◌, arith, All, Contains, inl, inr}
use Rattle.std.specs.List.{flat_map, range_with_len, zip, AllByRecursion, AllPairs}
use Rattle.std.specs.List.Sorted.{IsPermutation, IsNonDecreasing, IsNonDecreasingBy}
use Rattle.std.proofs.lemmas.Bool.{cases_Bool}
use Rattle.std.proofs.lemmas.List.{get_or-map, length-map}
use Rattle.std.proofs.lemmas.List.FromFn.{length-range_with_len, get_or-range_with_len}
use Rattle.std.proofs.lemmas.List.Concat.{flat_map_single}
use Rattle.std.proofs.lemmas.List.Elements.{All-from_recursion, All-weaker}
use Rattle.std.proofs.lemmas.List.Sorted.{IsPermutation-refl, IsPermutation-sym, IsPermutation-trans, IsPermutation-map, All-permutation}
use Rattle.bq_model.specs.declared.op.Answer.TheVariants.{Got}
use Rattle.bq_model.specs.declared.group.Group.{Group}
use Rattle.bq_model.specs.Own.{GotAnswer}
use Rattle.job_text.specs.declared.file.Unit.{Unit as JobUnit}
use Rattle.job_text.specs.JobFile.{job_count}
use Rattle.bulk_dispatcher.specs.declared.reply.Reply.{Reply}
use Rattle.bulk_dispatcher.specs.Books.{Numbered, numbered_from, lanes_of, jobs_on}
use Rattle.bulk_dispatcher.specs.Replies.{IsAnswer, NamesItsDequeue, NameTheSame, RepliesFit}
use Rattle.bulk_dispatcher.specs.Hands.{AllDone}
use Rattle.bulk_dispatcher.proofs.Zips.{beside}
use Rattle.bulk_dispatcher.proofs.Parts.{IsPermutation-parts}
use Rattle.bulk_dispatcher.proofs.Catches.{same_answer, map_all}
use Rattle.bulk_dispatcher.proofs.Numbers.{numbers_in_order}
use Rattle.bulk_dispatcher.proofs.InOrder.{range_from_sort, pieces_moved}
use Rattle.bulk_dispatcher.specs.Books.{Climbs}
use Rattle.bulk_dispatcher.proofs.Lanes.{occurs, lane_kept, lane_below, no_units, lanes_below, climbs, one_beside}
use Rattle.bulk_dispatcher.proofs.AllReplied.{of_all, on, LaneReplied, lanes_replied, lane_once, Names, all_named, on_lanes, none_on}

-- on any lane number, the replies are to the jobs
once_on : (file : List JobUnit) (hands batch : ℕ) (books : List (List Group)) (by_hand : ℕ → List Reply) → 0 < hands → AllDone file hands batch books by_hand → (lane : ℕ) → lane < 16
    → IsPermutation (jobs_on file lane) (map (λ (r : Reply). r.job) (on (of_all by_hand hands) lane))
once_on file hands batch books by_hand pos all lane l =
    elim (cases_Bool (occurs file lane)) [
      | inl there ↦
          let here = beside (LaneReplied file hands batch by_hand) (lanes_of file) books lane (lane_kept file lane l there) (lanes_replied file hands batch books by_hand all) in
          lane_once file hands batch by_hand lane here.other pos here.holds
      | inr absent ↦
          subst (λ units. IsPermutation (flat_map (λ (unit : Numbered). unit.numbers) units) (map (λ (r : Reply). r.job) (on (of_all by_hand hands) lane))) (sym (no_units 0 0 lane file absent))
          (subst (λ rs. IsPermutation [] (map (λ (r : Reply). r.job) rs)) (sym (none_on (of_all by_hand hands) file lane (on_lanes file hands batch books by_hand all) absent)) (IsPermutation-refl []))
    ]

-- the jobs of all replies are the jobs of the file
pub once : (file : List JobUnit) (hands batch : ℕ) (books : List (List Group)) (by_hand : ℕ → List Reply) → 0 < hands → AllByRecursion (λ (unit : JobUnit). unit.lane < 16) file → AllDone file hands batch books by_hand
    → IsPermutation (range_with_len 0 (job_count file)) (map (λ (r : Reply). r.job) (of_all by_hand hands))
once file hands batch books by_hand pos lanes all =
    let replies = of_all by_hand hands in
    let number : Reply → List ℕ = λ r. r.job ∷ [] in
    let units = IsPermutation-parts (λ (unit : Numbered). unit.lane) (λ (unit : Numbered). unit.numbers) 16 (numbered_from 0 0 file) (lanes_below 0 0 file lanes) in
    let parts = IsPermutation-parts (λ (r : Reply). r.lane) number 16 replies (map_all _ (λ (r : Reply). r.lane < 16) (λ r c. lane_below file r.lane c) replies (on_lanes file hands batch books by_hand all)) in
    let moved = pieces_moved (jobs_on file) (λ lane. flat_map number (on replies lane)) 0 16 (λ lane _ l.
    subst (IsPermutation (jobs_on file lane)) (sym (flat_map_single (λ (r : Reply). r.job) (on replies lane))) (once_on file hands batch books by_hand pos all lane l)) in
    subst (λ ns. IsPermutation ns (map (λ (r : Reply). r.job) replies)) (numbers_in_order 0 0 file)
    (subst (λ ns. IsPermutation (flat_map (λ (unit : Numbered). unit.numbers) (numbered_from 0 0 file)) ns) (flat_map_single (λ (r : Reply). r.job) replies)
    (IsPermutation-trans _ _ _ (IsPermutation-sym _ _ units) (IsPermutation-trans _ _ _ moved parts)))

-- the order that a sort by a number gives
numbers_rise : {X : Type 0} (f : X → ℕ) (xs : List X) → IsNonDecreasingBy f xs → IsNonDecreasing (map f xs)
numbers_rise f [] h = λ i j d l m. absurd (omega (arith, m))
numbers_rise f (x ∷ xs) h = λ i j d l m.
    let within : j < length (x ∷ xs) = subst (λ k. j < k) (length-map (x ∷ xs) f) m in
    let left = get_or-map f (x ∷ xs) i x d (omega (arith, l, within)) in
    let right = get_or-map f (x ∷ xs) j x d within in
    let rise = h i j x l within in
    omega (arith, left, right, rise)

pub in_order : (file : List JobUnit) (all sorted : List Reply) → IsPermutation (range_with_len 0 (job_count file)) (map (λ (r : Reply). r.job) all) → IsPermutation all sorted → IsNonDecreasingBy (λ (r : Reply). r.job) sorted
    → map (λ (r : Reply). r.job) sorted ≡ range_with_len 0 (job_count file)
in_order file all sorted jobs moved rises =
    range_from_sort (job_count file) (map (λ (r : Reply). r.job) sorted)
    (IsPermutation-trans _ _ _ jobs (IsPermutation-map (λ (r : Reply). r.job) all sorted moved)) (numbers_rise (λ (r : Reply). r.job) sorted rises)

job_is : (n : ℕ) (sorted : List Reply) → map (λ (r : Reply). r.job) sorted ≡ range_with_len 0 n → (i : ℕ) (d : Reply) → i < length sorted → (get_or sorted i d).job ≡ i
job_is n sorted e i d l =
    let len : length sorted ≡ n = sym (length-map sorted (λ (r : Reply). r.job)) ∙ ap length e ∙ length-range_with_len 0 n in
    sym (get_or-map (λ (r : Reply). r.job) sorted i d 0 l) ∙ ap (λ xs. get_or xs i 0) e ∙ get_or-range_with_len 0 n i 0 (omega (arith, l, len)) ∙ omega arith

-- Two replies that name one operation have one number.
same_got : (v w : ℕ) → Some (Got v) ≡ Some (Got w) → v ≡ w
same_got v w e = cc e

one_number : (lanes : List ℕ) (books : List (List Group)) (one other : Reply) → Climbs lanes → (b c : List Group) → Contains (zip lanes books) (one.lane, b) → Contains (zip lanes books) (other.lane, c)
    → GotAnswer b one.caller one.serial (Got one.job) → GotAnswer c other.caller other.serial (Got other.job) → NameTheSame one other → one.job ≡ other.job
one_number lanes books one other climb b c kept_b kept_c got_b got_c same =
    let pair : (one.lane, b) ≡ (other.lane, c) = one_beside lanes books (one.lane, b) (other.lane, c) climb kept_b kept_c same.lane_is in
    let book : b ≡ c = ap (λ p. p.1) pair in
    let moved : GotAnswer b one.caller one.serial (Got other.job) =
    subst (λ x. GotAnswer x one.caller one.serial (Got other.job)) (sym book)
    (subst (λ x. GotAnswer c x one.serial (Got other.job)) (sym same.caller_is)
    (subst (λ x. GotAnswer c other.caller x (Got other.job)) (sym same.serial_is) got_c)) in
    same_got one.job other.job (same_answer b one.caller one.serial (Got one.job) (Got other.job) got_b moved)

apart : (file : List JobUnit) (books : List (List Group)) (n : ℕ) (sorted : List Reply) → map (λ (r : Reply). r.job) sorted ≡ range_with_len 0 n → All (NamesItsDequeue file books) sorted → AllPairs (λ one other. ¬ NameTheSame one other) sorted
apart file books n sorted e named i j d less within = λ same.
    let left = named i d (omega (arith, less, within)) in
    let right = named j d within in
    let one = one_number (lanes_of file) books (get_or sorted i d) (get_or sorted j d) (climbs file) left.book right.book left.kept right.kept left.got right.got same in
    let here = job_is n sorted e i d (omega (arith, less, within)) in
    let there = job_is n sorted e j d within in
    omega (arith, less, one, here, there)

pub RepliesFit-done : (file : List JobUnit) (hands batch : ℕ) (books : List (List Group)) (by_hand : ℕ → List Reply) (sorted : List Reply) → 0 < hands → AllByRecursion (λ (unit : JobUnit). unit.lane < 16) file
    → AllDone file hands batch books by_hand → IsPermutation (of_all by_hand hands) sorted → IsNonDecreasingBy (λ (r : Reply). r.job) sorted → RepliesFit file books sorted
RepliesFit-done file hands batch books by_hand sorted pos lanes all moved rises =
    let replies = of_all by_hand hands in
    let order = in_order file replies sorted (once file hands batch books by_hand pos lanes all) moved rises in
    let named = All-permutation (Names file books) replies sorted moved (All-from_recursion (Names file books) replies (all_named file hands batch books by_hand pos all)) in
    record {
      one_each = order;
      answered = All-weaker (Names file books) (IsAnswer file) (λ r h. h.0) sorted named;
      named = All-weaker (Names file books) (NamesItsDequeue file books) (λ r h. h.1) sorted named;
      apart = apart file books (job_count file) sorted order (All-weaker (Names file books) (NamesItsDequeue file books) (λ r h. h.1) sorted named);
    }
