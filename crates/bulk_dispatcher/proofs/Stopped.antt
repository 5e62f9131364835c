-- No hand stops: by the books each makes too few operations on a lane to spend its allowance there.
use Rattle.std.proofs.Common.{◌≡◌, ℕ, ◌+◌, ◌*◌, ◌^◌, ◌<◌, ◌≤◌, ◌||◌, false, List, [], ◌∷◌, ◌++◌, length, map, take, get_or, All, refl, sym, ap, subst, ◌∙◌, arith, zero-add}
use Rattle.std.specs.List.{flat_map, range_with_len, AllZip, AllByRecursion, list_any}
use Rattle.std.proofs.lemmas.List.{length-map, take_all}
use Rattle.std.proofs.lemmas.List.FromFn.{length-range_with_len, get_or-range_with_len}
use Rattle.std.proofs.lemmas.List.Elements.{recursion_from_All, All-get_or}
use Rattle.std.proofs.lemmas.List.Folds.{list_any_none}
use Rattle.std.proofs.lemmas.List.Sums.{sum_by-cons}
use Rattle.bq_model.specs.declared.group.Group.{Group}
use Rattle.bq_model.specs.History.{operations}
use Rattle.bq_model.specs.Own.{mine}
use Rattle.bq_model.specs.Values.{enqueued}
use Rattle.bq_model.specs.NoShut.{NeverShut}
use Rattle.bq_model.specs.Proper.{IsProper}
use Rattle.bq_model.specs.Grows.{SawMore}
use Rattle.bq_session.specs.Outcome.{made_by}
use Rattle.job_text.specs.declared.file.Unit.{Unit as JobUnit}
use Rattle.job_text.specs.JobFile.{job_count, IsJobFile, IsUnit}
use Rattle.bulk_dispatcher.specs.declared.reply.Reply.{Reply}
use Rattle.bulk_dispatcher.specs.declared.work.Work.{Work}
use Rattle.bulk_dispatcher.specs.declared.work.Work.TheVariants.{Done, Spent}
use Rattle.bulk_dispatcher.specs.Books.{Numbered}
use Rattle.bulk_dispatcher.specs.Hands.{units_of, HandPut, HandDid, HandRan, found_nothing_by}
use Rattle.bulk_dispatcher.specs.Stops.{HandStopped, AtWork, has_stopped}
use Rattle.bulk_dispatcher.proofs.Bounds.{PutSome, operations_at_most}
use Rattle.bulk_dispatcher.proofs.Few.{found-saw_more, made-saw_more}
use Rattle.bulk_dispatcher.proofs.Finish.{unseen}
use Rattle.bulk_dispatcher.proofs.Ranks.{all_but_one}
use Rattle.bulk_dispatcher.proofs.Zips.{zip_at, zip_length}

pub map_twice : {A B C : Type 0} (F : B → C) (h : A → B) (xs : List A) → map F (map h xs) ≡ map (λ x. F (h x)) xs
map_twice F h [] = refl
map_twice F h (x ∷ xs) = ap (λ cs. F (h x) ∷ cs) (map_twice F h xs)

-- a file has no more units than jobs
few_units : (file : List JobUnit) → AllByRecursion IsUnit file → length file ≤ job_count file
few_units [] h = omega arith
few_units (unit ∷ file) h =
    let rest = few_units file h.1 in
    let some = h.0.some in
    let all = sum_by-cons (λ (u : JobUnit). length u.jobs) unit file in
    omega (arith, rest, some, all)

-- a hand that stopped, or was done, enqueued on a lane the jobs of those of its units that are among the first of the file
put_some : (numbers : List ℕ) (file : List JobUnit) (hands batch c at : ℕ) (seen : List (List Group)) (replies : List Reply) (work : Work) → at < length numbers → AtWork work (HandRan numbers file hands batch c seen replies) (HandStopped numbers file hands c seen)
    → PutSome file hands (get_or numbers at 0) (get_or seen at []) c
put_some numbers file hands batch c at seen replies Done l h =
    (length file, (zip_at (λ n x. HandDid (units_of file hands n c) batch c x) numbers seen at 0 [] h.did l).put ∙ ap (λ us. flat_map (λ (unit : Numbered). unit.numbers) (units_of us hands (get_or numbers at 0) c)) (sym (take_all (length file) file (omega arith))))
put_some numbers file hands batch c at seen replies Spent l h =
    (h.place, (zip_at (λ n x. HandPut (units_of (take h.place file) hands n c) c x) numbers seen at 0 [] h.put l).put)

put_later : (file : List JobUnit) (hands lane c : ℕ) (old new : List Group) → SawMore c old new → PutSome file hands lane old c → PutSome file hands lane new c
put_later file hands lane c old new s h = (h.0, ap (λ gs. enqueued (operations gs)) s.own ∙ h.1)

-- an allowance of 2^38 takes more than a hand makes
too_few : (made jobs units found : ℕ) → 2 ^ 38 < made + 256 → made ≤ jobs + jobs + found → found ≤ 256 * units + 256 → units ≤ jobs → jobs ≤ 1000000 → ⊥
too_few made jobs units found spent most some few all =
    let allowance : 2 ^ 38 ≡ 274877906944 = refl in
    absurd (omega (arith, spent, most, some, few, all, allowance))

at_rank : {X : Type 0} (R : ℕ → X → Type 0) (xs : List X) (d : X) (c : ℕ) → c < length xs → AllZip R (range_with_len 0 (length xs)) xs → R c (get_or xs c d)
at_rank R xs d c l h =
    subst (λ k. R k (get_or xs c d)) (get_or-range_with_len 0 (length xs) c 0 l ∙ zero-add c)
    (zip_at R (range_with_len 0 (length xs)) xs c 0 d h (rw length-range_with_len l))

-- where no hand stopped, each one did all that was its
pub ran_of : {X : Type 0} (A B : ℕ → X → Type 0) (work : X → Work) (from : ℕ) (runs : List X) → AllZip (λ c run. AtWork (work run) (A c run) (B c run)) (range_with_len from (length runs)) runs → list_any (λ run. has_stopped (work run)) runs ≡ false → AllZip A (range_with_len from (length runs)) runs
ran_of A B work from [] h none = tt
ran_of A B work from (x ∷ runs) h none = pick (ran_of A B work (from + 1) runs h.1) (work x) h.0 none
  where
    pick : (list_any (λ run. has_stopped (work run)) runs ≡ false → AllZip A (range_with_len (from + 1) (length runs)) runs) → (w : Work) → AtWork w (A from x) (B from x) → (has_stopped w || list_any (λ run. has_stopped (work run)) runs) ≡ false → A from x × AllZip A (range_with_len (from + 1) (length runs)) runs
    pick rest Done h e = (h, rest e)
    pick rest Spent h e = absurd (cc e)

module _ {X : Type 0} (seen : X → List (List Group)) (replies : X → List Reply) (work : X → Work) (numbers : List ℕ) (file : List JobUnit) (hands batch : ℕ) (runs : List X) (own books : List (List Group)) where
  abbrev Ran : ℕ → X → Type 0
  Ran c run = AtWork (work run) (HandRan numbers file hands batch c (seen run) (replies run)) (HandStopped numbers file hands c (seen run))

  -- what all hands did, and how the books go on from it
  pub record AllRan : Type 0 where
    pub some : 0 < hands
    pub file_is : IsJobFile file
    pub many : length runs ≡ hands
    pub ran : AllZip Ran (range_with_len 0 (length runs)) runs
    pub rows : List (List (List Group))
    pub rows_are : rows ≡ map seen runs ++ own ∷ []
    pub own_unseen : All (λ h. h ≡ []) own
    pub as_many : length books ≡ length numbers
    pub proper : All (λ book. IsProper (hands + 1) book) books
    pub never_shut : All NeverShut books
    pub begun : AllZip (λ c row. AllZip (SawMore c) row books) (range_with_len 0 (length rows)) rows

  stopped_not : (a : AllRan) (d : X) (c : ℕ) → c < hands → HandStopped numbers file hands c (seen (get_or runs c d)) → ⊥
  stopped_not a d c l s =
      let n = a.many in
      let rows : List (List (List Group)) = map seen runs in
      let count : length rows ≡ hands = length-map runs seen ∙ n in
      let both = all_but_one (λ k row. AllZip (SawMore k) row books) a.rows rows own a.rows_are a.begun in
      let saw : (k : ℕ) → k < hands → AllZip (SawMore k) (seen (get_or runs k d)) books =
      λ k m. at_rank (λ j run. AllZip (SawMore j) (seen run) books) runs d k (omega (arith, n, m)) (zip_unrow runs both.0) in
      let last : AllZip (SawMore hands) own books = subst (λ k. AllZip (SawMore k) own books) count both.1 in
      let here : s.at < length books = let w = s.within in let m = a.as_many in omega (arith, w, m) in
      let book : List Group = get_or books s.at [] in
      let lane : ℕ = get_or numbers s.at 0 in
      let seen_here : (k : ℕ) → k < hands → SawMore k (get_or (seen (get_or runs k d)) s.at []) book =
      λ k m. let z = saw k m in zip_at (SawMore k) (seen (get_or runs k d)) books s.at [] [] z (let e = zip_length (SawMore k) (seen (get_or runs k d)) books z in omega (arith, e, here)) in
      let put : (k : ℕ) → k < hands → PutSome file hands lane book k =
      λ k m. put_later file hands lane k (get_or (seen (get_or runs k d)) s.at []) book (seen_here k m)
      (put_some numbers file hands batch k s.at (seen (get_or runs k d)) (replies (get_or runs k d)) (work (get_or runs k d)) s.within (at_rank Ran runs d k (omega (arith, n, m)) a.ran)) in
      let known = (All-get_or (λ b. IsProper (hands + 1) b) books s.at [] here a.proper).known in
      let never = All-get_or NeverShut books s.at [] here a.never_shut in
      let idle : mine book hands ≡ [] = zip_at (λ m b. mine b hands ≡ []) numbers books s.at 0 [] (unseen hands numbers own books (sym a.as_many) a.own_unseen last) s.within in
      let most = operations_at_most file hands lane c book a.some known never idle put l in
      let found = found-saw_more c (get_or (seen (get_or runs c d)) s.at []) book (seen_here c l) in
      let made = made-saw_more c (get_or (seen (get_or runs c d)) s.at []) book (seen_here c l) in
      let few = s.few in
      let spent = s.spent in
      too_few (made_by book c) (job_count file) (length file) (found_nothing_by book c) (omega (arith, spent, made)) most (omega (arith, few, found)) (few_units file (recursion_from_All IsUnit file a.file_is.units_are)) a.file_is.count
    where
      zip_unrow : (xs : List X) → AllZip (λ c row. AllZip (SawMore c) row books) (range_with_len 0 (length (map seen xs))) (map seen xs) → AllZip (λ c run. AllZip (SawMore c) (seen run) books) (range_with_len 0 (length xs)) xs
      zip_unrow xs h = go xs 0 h
        where
          go : (ys : List X) (from : ℕ) → AllZip (λ c row. AllZip (SawMore c) row books) (range_with_len from (length (map seen ys))) (map seen ys) → AllZip (λ c run. AllZip (SawMore c) (seen run) books) (range_with_len from (length ys)) ys
          go [] from h = tt
          go (y ∷ ys) from h = (h.0, go ys (from + 1) h.1)

  -- each of them was done
  pub none_stopped : AllRan → list_any (λ run. has_stopped (work run)) runs ≡ false
  none_stopped a = list_any_none (λ run. has_stopped (work run)) runs (λ c d l. done (work (get_or runs c d)) (seen (get_or runs c d)) (replies (get_or runs c d)) c (at_rank Ran runs d c l a.ran) (stopped_not a d c (let n = a.many in omega (arith, n, l))))
    where
      done : (w : Work) (hs : List (List Group)) (rs : List Reply) (c : ℕ) → AtWork w (HandRan numbers file hands batch c hs rs) (HandStopped numbers file hands c hs) → (HandStopped numbers file hands c hs → ⊥) → has_stopped w ≡ false
      done Done hs rs c h not = refl
      done Spent hs rs c h not = absurd (not h)
