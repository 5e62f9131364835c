-- On one lane: the replies of all hands are to the lane's jobs, one to each.
use Rattle.std.proofs.Common.{◌≡◌, ℕ, zero, suc, ◌+◌, ◌<◌, ◌≤◌, Bool, Option, Some, List, [], ◌∷◌, ◌++◌, map, filter, refl, sym, ap, subst, ◌∙◌, arith, inl, inr}
use Rattle.std.specs.List.{flat_map, filter_map, range_with_len, AllByRecursion}
use Rattle.std.specs.List.Sorted.{IsPermutation}
use Rattle.std.proofs.lemmas.Bool.{cases_eq}
use Rattle.std.proofs.lemmas.List.{map-append}
use Rattle.std.proofs.lemmas.List.Elements.{filter-append, All-from_recursion, recursion_from_All}
use Rattle.std.proofs.lemmas.List.Sorted.{IsPermutation-sym, IsPermutation-trans, All-permutation}
use Rattle.bq_model.specs.declared.group.Group.{Group}
use Rattle.job_text.specs.declared.file.Unit.{Unit as JobUnit}
use Rattle.job_text.specs.JobFile.{lane_jobs}
use Rattle.bulk_dispatcher.specs.Books.{jobs_on}
use Rattle.bulk_dispatcher.specs.Hands.{Catch, caught}
use Rattle.bulk_dispatcher.proofs.Fifo.{got_is_enqueued}
use Rattle.bulk_dispatcher.proofs.Emptied.{nothing_left}
use Rattle.bulk_dispatcher.proofs.EachOnce.{of_hands, each_once}
use Rattle.bulk_dispatcher.proofs.Gots.{got_by_all}
use Rattle.bulk_dispatcher.proofs.Numbers.{IsJobOn, jobs_on-are}
use Rattle.bulk_dispatcher.proofs.Fit.{LaneDone}

-- of a list that keeps what a function makes of each element
pub made_all : {X Y : Type 0} (f : X → Option Y) (Q : X → Type 0) (P : Y → Type 0) → ((x : X) → Q x → (y : Y) × (f x ≡ Some y) × P y) → (xs : List X) → AllByRecursion Q xs → AllByRecursion P (filter_map f xs)
made_all f Q P make [] h = tt
made_all f Q P make (x ∷ xs) h =
    let here = make x h.0 in
    rw here.1 (here.2, made_all f Q P make xs h.1)

pub made_keys : {X Y : Type 0} (f : X → Option Y) (Q : X → Type 0) (key : Y → ℕ) (value : X → ℕ) → ((x : X) → Q x → (y : Y) × (f x ≡ Some y) × (key y ≡ value x)) → (xs : List X) → AllByRecursion Q xs → map key (filter_map f xs) ≡ map value xs
made_keys f Q key value make [] h = refl
made_keys f Q key value make (x ∷ xs) h =
    let here = make x h.0 in
    rw here.1 (ap (λ k. k ∷ map key (filter_map f xs)) here.2 ∙ ap (λ ks. value x ∷ ks) (made_keys f Q key value make xs h.1))

first_part : {X : Type 0} (P : X → Type 0) (xs ys : List X) → AllByRecursion P (xs ++ ys) → AllByRecursion P xs × AllByRecursion P ys
first_part P [] ys h = (tt, h)
first_part P (x ∷ xs) ys h = let rest = first_part P xs ys h.1 in ((h.0, rest.0), rest.1)

each_piece : {Y : Type 0} (P : Y → Type 0) (f : ℕ → List Y) (a n : ℕ) → AllByRecursion P (flat_map f (range_with_len a n)) → (k : ℕ) → a ≤ k → k < a + n → AllByRecursion P (f k)
each_piece P f a zero h k l m = absurd (omega (arith, l, m))
each_piece P f a (suc n) h k l m =
    let both = first_part P (f a) (flat_map f (range_with_len (a + 1) n)) h in
    elim (cases_eq a k) [
      | inl here ↦ subst (λ i. AllByRecursion P (f i)) here both.0
      | inr other ↦ each_piece P f (a + 1) n both.1 k (omega (arith, l, other)) (omega (arith, m))
    ]

of_map : {X Y : Type 0} (P : Y → Type 0) (f : X → Y) (xs : List X) → AllByRecursion P (map f xs) → AllByRecursion (λ x. P (f x)) xs
of_map P f [] h = tt
of_map P f (x ∷ xs) h = (h.0, of_map P f xs h.1)

pub filter-pieces : {X Y : Type 0} (p : Y → Bool) (f : X → List Y) (xs : List X) → filter p (flat_map f xs) ≡ flat_map (λ x. filter p (f x)) xs
filter-pieces p f [] = refl
filter-pieces p f (x ∷ xs) = filter-append p (f x) (flat_map f xs) ∙ ap (λ ys. filter p (f x) ++ ys) (filter-pieces p f xs)

pub map-pieces : {X Y Z : Type 0} (g : Y → Z) (f : X → List Y) (xs : List X) → map g (flat_map f xs) ≡ flat_map (λ x. map g (f x)) xs
map-pieces g f [] = refl
map-pieces g f (x ∷ xs) = map-append g (f x) (flat_map f xs) ∙ ap (λ ys. map g (f x) ++ ys) (map-pieces g f xs)

abbrev pub values_of : List Group → ℕ → List ℕ
values_of h c = map (λ (x : Catch). x.value) (caught h c)

-- What the hands caught on a lane are the numbers of its jobs, each once.
pub caught_once : (file : List JobUnit) (hands batch lane : ℕ) (book : List Group) → 0 < hands → LaneDone file hands batch lane book → IsPermutation (jobs_on file lane) (flat_map (values_of book) (range_with_len 0 hands))
caught_once file hands batch lane book pos d =
    let empty = nothing_left hands batch book d.proper.known d.never_shut d.idle (λ c l. (d.did c l).ended) in
    let once = each_once file hands lane batch book pos d.proper.known d.idle d.did in
    let got = got_by_all hands book (of_hands hands book (recursion_from_All _ book d.proper.known) d.idle) in
    IsPermutation-trans _ _ _ (subst (λ vs. IsPermutation (jobs_on file lane) vs) (sym (got_is_enqueued book empty)) once) (IsPermutation-sym _ _ got)

-- So each of them is the number of a job of the lane.
pub caught_are_jobs : (file : List JobUnit) (hands batch lane : ℕ) (book : List Group) → 0 < hands → LaneDone file hands batch lane book → (c : ℕ) → c < hands
    → AllByRecursion (λ (x : Catch). IsJobOn (lane_jobs file) lane x.value) (caught book c)
caught_are_jobs file hands batch lane book pos d c l =
    let P : ℕ → Type 0 = IsJobOn (lane_jobs file) lane in
    let all = recursion_from_All P _ (All-permutation P _ _ (caught_once file hands batch lane book pos d) (All-from_recursion P _ (jobs_on-are file lane))) in
    of_map P (λ (x : Catch). x.value) (caught book c) (each_piece P (values_of book) 0 hands all c (omega arith) (omega (arith, l)))
