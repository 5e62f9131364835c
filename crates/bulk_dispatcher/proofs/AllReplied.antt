-- What all hands did makes the replies fit the file, once they stand in order.
use Rattle.std.proofs.Common.{◌≡◌, ℕ, ◌<◌, ◌==◌, false, List, [], ◌∷◌, map, filter, refl, sym, ap, subst, ◌∙◌, arith, ne_eqb, Contains, inl, inr}
use Rattle.std.specs.List.{flat_map, range_with_len, zip, AllZip, AllByRecursion}
use Rattle.std.specs.List.Sorted.{IsPermutation}
use Rattle.std.proofs.lemmas.Bool.{cases_eq}
use Rattle.std.proofs.lemmas.List.Elements.{recursion_from_All}
use Rattle.bq_model.specs.declared.op.Answer.TheVariants.{Got}
use Rattle.bq_model.specs.declared.group.Group.{Group}
use Rattle.bq_model.specs.Own.{GotAnswer}
use Rattle.job_work.specs.Answer.{answer_of}
use Rattle.job_text.specs.declared.file.Unit.{Unit as JobUnit}
use Rattle.job_text.specs.JobFile.{job_at, lane_jobs}
use Rattle.bulk_dispatcher.specs.declared.reply.Reply.{Reply}
use Rattle.bulk_dispatcher.specs.Books.{lanes_of, jobs_on}
use Rattle.bulk_dispatcher.specs.Replies.{IsAnswer, NamesItsDequeue}
use Rattle.bulk_dispatcher.specs.Hands.{AllDone, Catch, caught, reply_for, replies_on}
use Rattle.bulk_dispatcher.proofs.Zips.{zip_weaker, zip_both, zip_each, beside}
use Rattle.bulk_dispatcher.proofs.Parts.{flat_map-agree_within, AllByRecursion-parts}
use Rattle.bulk_dispatcher.proofs.Catches.{GotAnswer-caught}
use Rattle.bulk_dispatcher.proofs.Numbers.{IsJobOn, all_pieces}
use Rattle.bulk_dispatcher.proofs.Fit.{LaneDone, lanes_done}
use Rattle.bulk_dispatcher.proofs.Replied.{made_all, made_keys, filter-pieces, map-pieces, values_of, caught_once, caught_are_jobs}
use Rattle.bulk_dispatcher.proofs.Lanes.{occurs, range_all, lane_occurs}

-- the replies of all hands
abbrev pub of_all : (ℕ → List Reply) → ℕ → List Reply
of_all by_hand hands = flat_map by_hand (range_with_len 0 hands)

-- those on a lane
abbrev pub on : List Reply → ℕ → List Reply
on replies lane = filter (λ reply. reply.lane == lane) replies

pub record LaneReplied (file : List JobUnit) (hands batch : ℕ) (by_hand : ℕ → List Reply) (lane : ℕ) (book : List Group) : Type 0 where
  pub done : LaneDone file hands batch lane book
  pub replied : (c : ℕ) → c < hands → on (by_hand c) lane ≡ replies_on file lane c book

pub lanes_replied : (file : List JobUnit) (hands batch : ℕ) (books : List (List Group)) (by_hand : ℕ → List Reply) → AllDone file hands batch books by_hand → AllZip (LaneReplied file hands batch by_hand) (lanes_of file) books
lanes_replied file hands batch books by_hand all =
    let ls = lanes_of file in
    zip_weaker _ (LaneReplied file hands batch by_hand) (λ lane book h. record { done = h.0; replied = h.1 }) ls books
    (zip_both (LaneDone file hands batch) _ ls books (lanes_done file hands batch books by_hand all)
    (zip_each (LaneDone file hands batch) (λ c lane book. on (by_hand c) lane ≡ replies_on file lane c book) hands ls books (lanes_done file hands batch books by_hand all) (λ c l. (all.done c l).replied)))

-- One reply for each job of a lane.
pub lane_once : (file : List JobUnit) (hands batch : ℕ) (by_hand : ℕ → List Reply) (lane : ℕ) (book : List Group) → 0 < hands → LaneReplied file hands batch by_hand lane book
    → IsPermutation (jobs_on file lane) (map (λ (r : Reply). r.job) (on (of_all by_hand hands) lane))
lane_once file hands batch by_hand lane book pos h =
    let whole : on (of_all by_hand hands) lane ≡ flat_map (λ c. replies_on file lane c book) (range_with_len 0 hands) =
    filter-pieces (λ (r : Reply). r.lane == lane) by_hand (range_with_len 0 hands)
    ∙ flat_map-agree_within (λ c. on (by_hand c) lane) (λ c. replies_on file lane c book) 0 hands (λ c _ l. h.replied c (omega (arith, l))) in
    let numbers : map (λ (r : Reply). r.job) (on (of_all by_hand hands) lane) ≡ flat_map (values_of book) (range_with_len 0 hands) =
    ap (map (λ (r : Reply). r.job)) whole ∙ map-pieces (λ (r : Reply). r.job) (λ c. replies_on file lane c book) (range_with_len 0 hands)
    ∙ flat_map-agree_within (λ c. map (λ (r : Reply). r.job) (replies_on file lane c book)) (values_of book) 0 hands (λ c _ l.
    made_keys (λ (x : Catch). reply_for lane c x (job_at file x.value)) (λ (x : Catch). IsJobOn (lane_jobs file) lane x.value) (λ (r : Reply). r.job) (λ (x : Catch). x.value)
    (λ x j. (record { job = x.value; lane = lane; caller = c; serial = x.serial; text = answer_of j.0 }, ap (reply_for lane c x) j.1, refl))
    (caught book c) (caught_are_jobs file hands batch lane book pos h.done c (omega (arith, l)))) in
    subst (IsPermutation (jobs_on file lane)) (sym numbers) (caught_once file hands batch lane book pos h.done)

-- What a reply is to be.
abbrev pub Names : List JobUnit → List (List Group) → Reply → Type 0
Names file books reply = IsAnswer file reply × NamesItsDequeue file books reply

both_all : {X : Type 0} (P Q : X → Type 0) (xs : List X) → AllByRecursion P xs → AllByRecursion Q xs → AllByRecursion (λ x. P x × Q x) xs
both_all P Q [] h k = tt
both_all P Q (x ∷ xs) h k = ((h.0, k.0), both_all P Q xs h.1 k.1)

-- Each reply to what was caught on a lane names the dequeue that caught it.
named_on : (file : List JobUnit) (hands batch lane : ℕ) (books : List (List Group)) (book : List Group) → 0 < hands → Contains (zip (lanes_of file) books) (lane, book) → LaneDone file hands batch lane book
    → (c : ℕ) → c < hands → AllByRecursion (Names file books) (replies_on file lane c book)
named_on file hands batch lane books book pos kept h c l =
    made_all (λ (x : Catch). reply_for lane c x (job_at file x.value)) (λ (x : Catch). GotAnswer book c x.serial (Got x.value) × IsJobOn (lane_jobs file) lane x.value) (Names file books)
    (λ x j. (
      record { job = x.value; lane = lane; caller = c; serial = x.serial; text = answer_of j.1.0 },
      ap (reply_for lane c x) j.1.1,
      (record { job = j.1.0; numbered = j.1.1; text_is = refl }, record { book = book; kept = kept; got = j.0 }),
    ))
    (caught book c)
    (both_all (λ (x : Catch). GotAnswer book c x.serial (Got x.value)) (λ (x : Catch). IsJobOn (lane_jobs file) lane x.value) (caught book c) (GotAnswer-caught book c) (caught_are_jobs file hands batch lane book pos h c l))

named_by : (file : List JobUnit) (hands batch : ℕ) (books : List (List Group)) (by_hand : ℕ → List Reply) → 0 < hands → AllDone file hands batch books by_hand → (c : ℕ) → c < hands → AllByRecursion (Names file books) (by_hand c)
named_by file hands batch books by_hand pos all c l =
    AllByRecursion-parts (λ (r : Reply). r.lane) (Names file books) (Contains (lanes_of file)) (by_hand c) (recursion_from_All _ (by_hand c) (all.done c l).lanes)
    (λ lane k.
    let here = beside (LaneReplied file hands batch by_hand) (lanes_of file) books lane k (lanes_replied file hands batch books by_hand all) in
    subst (AllByRecursion (Names file books)) (sym (here.holds.replied c l)) (named_on file hands batch lane books here.other pos here.kept here.holds.done c l))

pub all_named : (file : List JobUnit) (hands batch : ℕ) (books : List (List Group)) (by_hand : ℕ → List Reply) → 0 < hands → AllDone file hands batch books by_hand → AllByRecursion (Names file books) (of_all by_hand hands)
all_named file hands batch books by_hand pos all =
    all_pieces (Names file books) by_hand (range_with_len 0 hands) (range_all (λ c. AllByRecursion (Names file books) (by_hand c)) 0 hands (λ c _ l. named_by file hands batch books by_hand pos all c (omega (arith, l))))

-- all replies are on lanes of the file
pub on_lanes : (file : List JobUnit) (hands batch : ℕ) (books : List (List Group)) (by_hand : ℕ → List Reply) → AllDone file hands batch books by_hand → AllByRecursion (λ (r : Reply). Contains (lanes_of file) r.lane) (of_all by_hand hands)
on_lanes file hands batch books by_hand all =
    all_pieces (λ (r : Reply). Contains (lanes_of file) r.lane) by_hand (range_with_len 0 hands)
    (range_all (λ c. AllByRecursion (λ (r : Reply). Contains (lanes_of file) r.lane) (by_hand c)) 0 hands (λ c _ l. recursion_from_All _ (by_hand c) (all.done c (omega (arith, l))).lanes))

pub none_on : (replies : List Reply) (file : List JobUnit) (lane : ℕ) → AllByRecursion (λ (r : Reply). Contains (lanes_of file) r.lane) replies → occurs file lane ≡ false → on replies lane ≡ []
none_on [] file lane h off = refl
none_on (r ∷ replies) file lane h off =
    elim (cases_eq r.lane lane) [
      | inl same ↦ absurd (cc (sym off ∙ ap (occurs file) (sym same) ∙ lane_occurs file r.lane h.0))
      | inr other ↦ let e : (r.lane == lane) ≡ false = ne_eqb r.lane lane other in rw e (none_on replies file lane h.1 off)
    ]
