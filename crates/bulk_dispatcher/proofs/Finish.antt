-- From what the hands and the closed lanes are known to be, to all that a run promises.
use Rattle.std.proofs.Common.{◌≡◌, ℕ, ◌+◌, ◌<◌, ◌%◌, List, [], ◌∷◌, ◌++◌, length, map, All, refl, sym, ap, subst, ◌∙◌, arith}
use Rattle.std.specs.List.{flat_map, range_with_len, AllZip, AllByRecursion}
use Rattle.std.specs.List.Sorted.{IsPermutation, IsNonDecreasingBy}
use Rattle.std.proofs.lemmas.List.{length-map}
use Rattle.std.proofs.lemmas.List.Elements.{All-head, All-tail, recursion_from_All}
use Rattle.bq_model.specs.declared.group.Group.{Group}
use Rattle.bq_model.specs.Own.{mine}
use Rattle.bq_model.specs.NoShut.{NeverShut}
use Rattle.bq_model.specs.Proper.{IsProper}
use Rattle.bq_model.specs.Grows.{SawMore}
use Rattle.job_text.specs.declared.file.Unit.{Unit as JobUnit}
use Rattle.job_text.specs.JobFile.{IsJobFile, IsUnit}
use Rattle.job_text.specs.Replies.{reply_line, replies_of}
use Rattle.bulk_dispatcher.specs.declared.reply.Reply.{Reply}
use Rattle.bulk_dispatcher.specs.Books.{BooksFit, StandTogether, lanes_of, units_on}
use Rattle.bulk_dispatcher.specs.Replies.{RepliesFit}
use Rattle.bulk_dispatcher.specs.Hands.{EndedEmpty, HandDone, HandRan, Run, HandsRan, LanesClosed}
use Rattle.bulk_dispatcher.proofs.Ends.{fit, all_done, by_hand}
use Rattle.bulk_dispatcher.proofs.Fit.{LaneDone, lanes_done}
use Rattle.bulk_dispatcher.proofs.EachOnce.{stand_with_hand}
use Rattle.bulk_dispatcher.proofs.Zips.{zip_weaker}
use Rattle.bulk_dispatcher.proofs.Ranks.{all_but_one}
use Rattle.bulk_dispatcher.proofs.Lines.{lines}

pub units_low : (file : List JobUnit) → IsJobFile file → AllByRecursion (λ (unit : JobUnit). unit.lane < 16) file
units_low file h = low file (recursion_from_All IsUnit file h.units_are)
  where
    low : (us : List JobUnit) → AllByRecursion IsUnit us → AllByRecursion (λ (unit : JobUnit). unit.lane < 16) us
    low [] k = tt
    low (u ∷ us) k = let l = k.0.lane in (omega (arith, l), low us k.1)

ran_done : (numbers : List ℕ) (file : List JobUnit) (hands batch c : ℕ) (seen : List (List Group)) (replies : List Reply) → numbers ≡ lanes_of file → HandRan numbers file hands batch c seen replies → HandDone file hands batch c seen replies
ran_done numbers file hands batch c seen replies e h =
    let k = subst (λ ns. HandRan ns file hands batch c seen replies) e h in
    record { did = k.did; replied = k.replied.replied; lanes = k.replied.on_lanes }

beside : {B : Type 0} (P : B → Type 0) (ns : List ℕ) (bs : List B) → length ns ≡ length bs → All P bs → AllZip (λ n b. P b) ns bs
beside P [] [] e h = tt
beside P [] (b ∷ bs) e h = absurd (omega (arith, e))
beside P (n ∷ ns) [] e h = absurd (omega (arith, e))
beside P (n ∷ ns) (b ∷ bs) e h = (All-head P b bs h, beside P ns bs (omega (arith, e)) (All-tail P b bs h))

pub unseen : (c : ℕ) (ns : List ℕ) (row books : List (List Group)) → length ns ≡ length books → All (λ h. h ≡ []) row → AllZip (SawMore c) row books → AllZip (λ n book. mine book c ≡ []) ns books
unseen c [] [] [] e none h = tt
unseen c [] row (b ∷ books) e none h = absurd (omega (arith, e))
unseen c [] (x ∷ row) [] e none h = absurd h
unseen c (n ∷ ns) row [] e none h = absurd (omega (arith, e))
unseen c (n ∷ ns) [] (b ∷ books) e none h = absurd h
unseen c (n ∷ ns) (x ∷ row) (b ∷ books) e none h =
    (h.0.own ∙ ap (λ g. mine g c) (All-head (λ g. g ≡ []) x row none), unseen c ns row books (omega (arith, e)) (All-tail (λ g. g ≡ []) x row none) h.1)

zip_rows : {A B : Type 0} (R : ℕ → B → Type 0) (f : A → B) (ns : List ℕ) (xs : List A) → AllZip (λ n x. R n (f x)) ns xs → AllZip R ns (map f xs)
zip_rows R f [] [] h = tt
zip_rows R f [] (x ∷ xs) h = absurd h
zip_rows R f (n ∷ ns) [] h = absurd h
zip_rows R f (n ∷ ns) (x ∷ xs) h = (h.0, zip_rows R f ns xs h.1)

zip_unrow : {A B : Type 0} (R : ℕ → B → Type 0) (f : A → B) (ns : List ℕ) (xs : List A) → AllZip R ns (map f xs) → AllZip (λ n x. R n (f x)) ns xs
zip_unrow R f [] [] h = tt
zip_unrow R f [] (x ∷ xs) h = absurd h
zip_unrow R f (n ∷ ns) [] h = absurd h
zip_unrow R f (n ∷ ns) (x ∷ xs) h = (h.0, zip_unrow R f ns xs h.1)

-- what a run promises
pub record IsFinished (file : List JobUnit) (hands batch : ℕ) (books : List (List Group)) (replies : List Reply) : Type 0 where
  pub books_fit : BooksFit file (hands + 1) books
  pub replies_fit : RepliesFit file books replies
  pub dealt_in_turn : AllZip (λ lane book. All (λ unit. StandTogether (mine book (unit.place % hands)) unit.numbers) (units_on file lane)) (lanes_of file) books
  pub ended : AllZip (λ lane book. (c : ℕ) → c < hands → EndedEmpty batch c book) (lanes_of file) books
  pub lines : flat_map (λ (r : Reply). reply_line r.job r.text) replies ≡ replies_of file

pub finished : (numbers : List ℕ) (file : List JobUnit) (hands batch : ℕ) (runs : List Run) (rows : List (List (List Group))) (own books : List (List Group)) (sorted : List Reply) → 0 < hands → IsJobFile file → numbers ≡ lanes_of file → length runs ≡ hands
    → AllZip (λ c run. HandRan numbers file hands batch c run.seen run.replies) (range_with_len 0 (length runs)) runs → rows ≡ map (λ (run : Run). run.seen) runs ++ own ∷ [] → All (λ h. h ≡ []) own
    → length books ≡ length numbers → All (λ book. IsProper (hands + 1) book) books → All NeverShut books → AllZip (λ c row. AllZip (SawMore c) row books) (range_with_len 0 (length rows)) rows
    → IsPermutation (flat_map (λ (run : Run). run.replies) runs) sorted → IsNonDecreasingBy (λ (r : Reply). r.job) sorted → IsFinished file hands batch books sorted
finished numbers file hands batch runs rows own books sorted pos ranges lanes many ran rows_are none as_many proper never begun moved rises =
    let seen : List (List (List Group)) = map (λ (run : Run). run.seen) runs in
    let count : length seen ≡ length runs = length-map runs (λ (run : Run). run.seen) in
    let both = all_but_one (λ c row. AllZip (SawMore c) row books) rows seen own rows_are begun in
    let lane_count : length (lanes_of file) ≡ length books = ap length (sym lanes) ∙ sym as_many in
    let last : AllZip (SawMore hands) own books = subst (λ n. AllZip (SawMore n) own books) (count ∙ many) both.1 in
    let done : HandsRan file hands batch 0 runs = zip_weaker (λ c (run : Run). HandRan numbers file hands batch c run.seen run.replies) (λ c run. HandDone file hands batch c run.seen run.replies) (λ c run h. ran_done numbers file hands batch c run.seen run.replies lanes h) (range_with_len 0 (length runs)) runs ran in
    let closed : LanesClosed file hands runs books = record {
      proper = beside (λ book. IsProper (hands + 1) book) (lanes_of file) books lane_count proper;
      never_shut = beside NeverShut (lanes_of file) books lane_count never;
      idle = unseen hands (lanes_of file) own books lane_count none last;
      kept = subst (λ n. AllZip (λ c (run : Run). AllZip (SawMore c) run.seen books) (range_with_len 0 n) runs) count (zip_unrow (λ c row. AllZip (SawMore c) row books) (λ (run : Run). run.seen) (range_with_len 0 (length seen)) runs both.0);
    } in
    let fits = fit file hands batch runs books sorted pos (units_low file ranges) many done closed moved rises in
    let lanes_are = lanes_done file hands batch books (by_hand runs) (all_done file hands batch runs books many done closed) in
    record {
      books_fit = fits.0;
      replies_fit = fits.1;
      dealt_in_turn = zip_weaker (LaneDone file hands batch) (λ lane book. All (λ unit. StandTogether (mine book (unit.place % hands)) unit.numbers) (units_on file lane)) (λ lane book h. stand_with_hand file hands lane batch book pos h.did) (lanes_of file) books lanes_are;
      ended = zip_weaker (LaneDone file hands batch) (λ lane book. (c : ℕ) → c < hands → EndedEmpty batch c book) (λ lane book h c l. (h.did c l).ended) (lanes_of file) books lanes_are;
      lines = lines file sorted fits.1.one_each fits.1.answered;
    }

-- premises, from lists of other things
pub rows_of : {S B : Type 0} (R : ℕ → List Group → List Group → Type 0) (f : S → List Group) (h : B → List Group) (c : ℕ) (xs : List S) (bs : List B) → AllZip (λ s b. R c (f s) (h b)) xs bs → AllZip (R c) (map f xs) (map h bs)
rows_of R f h c [] [] z = tt
rows_of R f h c [] (b ∷ bs) z = absurd z
rows_of R f h c (x ∷ xs) [] z = absurd z
rows_of R f h c (x ∷ xs) (b ∷ bs) z = (z.0, rows_of R f h c xs bs z.1)

pub begun_rows : {D S B : Type 0} (sessions : D → List S) (f : S → List Group) (h : B → List Group) (ns : List ℕ) (desks : List D) (bs : List B) → AllZip (λ c desk. AllZip (λ s b. SawMore c (f s) (h b)) (sessions desk) bs) ns desks
    → AllZip (λ c row. AllZip (SawMore c) row (map h bs)) ns (map (λ desk. map f (sessions desk)) desks)
begun_rows sessions f h [] [] bs z = tt
begun_rows sessions f h [] (d ∷ ds) bs z = absurd z
begun_rows sessions f h (n ∷ ns) [] bs z = absurd z
begun_rows sessions f h (n ∷ ns) (d ∷ ds) bs z = (rows_of SawMore f h n (sessions d) bs z.0, begun_rows sessions f h ns ds bs z.1)

pub all_mapped : {A B : Type 0} (P : B → Type 0) (f : A → B) (xs : List A) → AllByRecursion (λ x. P (f x)) xs → AllByRecursion P (map f xs)
all_mapped P f [] h = tt
all_mapped P f (x ∷ xs) h = (h.0, all_mapped P f xs h.1)

pub zip_three : {X : Type 0} (A B : ℕ → X → Type 0) (C : X → Type 0) (ns : List ℕ) (xs : List X) → AllZip A ns xs → AllZip B ns xs → All C xs → AllZip (λ n x. A n x × B n x × C x) ns xs
zip_three A B C [] [] a b c = tt
zip_three A B C [] (x ∷ xs) a b c = absurd a
zip_three A B C (n ∷ ns) [] a b c = absurd a
zip_three A B C (n ∷ ns) (x ∷ xs) a b c = ((a.0, b.0, All-head C x xs c), zip_three A B C ns xs a.1 b.1 (All-tail C x xs c))

pub zip_mapped : {A B : Type 0} (R : ℕ → B → Type 0) (f : A → B) (ns : List ℕ) (xs : List A) → AllZip (λ n x. R n (f x)) ns xs → AllZip R ns (map f xs)
zip_mapped R f ns xs h = zip_rows R f ns xs h

pub pieces_mapped : {A B C : Type 0} (f : A → B) (p : B → List C) (xs : List A) → flat_map p (map f xs) ≡ flat_map (λ x. p (f x)) xs
pieces_mapped f p [] = refl
pieces_mapped f p (x ∷ xs) = ap (λ cs. p (f x) ++ cs) (pieces_mapped f p xs)

pub zip_told : {X : Type 0} (P : ℕ → X → Type 0) (Q : X → Type 0) (ns : List ℕ) (xs : List X) → ((k : ℕ) (x : X) → P k x → Q x) → AllZip P ns xs → AllByRecursion Q xs
zip_told P Q [] [] f h = tt
zip_told P Q [] (x ∷ xs) f h = absurd h
zip_told P Q (n ∷ ns) [] f h = absurd h
zip_told P Q (n ∷ ns) (x ∷ xs) f h = (f n x h.0, zip_told P Q ns xs f h.1)

pub maps_same : {A B C D : Type 0} (h : A → B) (F : B → C) (f : A → D) (k : D → C) (xs : List A) → ((x : A) → F (h x) ≡ k (f x)) → map F (map h xs) ≡ map k (map f xs)
maps_same h F f k [] e = refl
maps_same h F f k (x ∷ xs) e = (λ i. e x i ∷ maps_same h F f k xs e i)

pub as_shown : {B : Type 0} (file : List JobUnit) (hands batch : ℕ) (history : B → List Group) (made books : List B) (sorted replies : List Reply) → books ≡ made → replies ≡ sorted → IsFinished file hands batch (map history made) sorted → IsFinished file hands batch (map history books) replies
as_shown file hands batch history made books sorted replies e f h =
    subst (λ bs. IsFinished file hands batch (map history bs) replies) (sym e) (subst (IsFinished file hands batch (map history made)) (sym f) h)
