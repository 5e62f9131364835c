-- What `run_hands` answers fits the file.
use Rattle.std.proofs.Common.{◌≡◌, ℕ, ◌+◌, ◌<◌, List, [], length, get_or, sym, ap, subst, ◌∙◌, arith, zero-add}
use Rattle.std.specs.List.{flat_map, range_with_len, AllZip, AllByRecursion}
use Rattle.std.specs.List.Sorted.{IsPermutation, IsNonDecreasingBy}
use Rattle.std.proofs.lemmas.List.FromFn.{length-range_with_len, get_or-range_with_len}
use Rattle.bulk_dispatcher.proofs.Zips.{zip_at}
use Rattle.bq_model.specs.declared.group.Group.{Group}
use Rattle.job_text.specs.declared.file.Unit.{Unit as JobUnit}
use Rattle.bulk_dispatcher.specs.declared.reply.Reply.{Reply}
use Rattle.bulk_dispatcher.specs.Books.{BooksFit}
use Rattle.bulk_dispatcher.specs.Replies.{RepliesFit}
use Rattle.bq_model.specs.Grows.{SawMore}
use Rattle.bulk_dispatcher.specs.Hands.{HandDone, AllDone, Run, HandsRan, LanesClosed}
use Rattle.bulk_dispatcher.proofs.Fit.{BooksFit-done}
use Rattle.bulk_dispatcher.proofs.Sorted.{RepliesFit-done}
use Rattle.bulk_dispatcher.proofs.Closed.{HandDone-saw_more, pieces_at}

pub no_run : Run
no_run = record { seen = []; replies = [] }

abbrev pub by_hand : List Run → ℕ → List Reply
by_hand runs c = (get_or runs c no_run).replies

at_hand : {X : Type 0} (R : ℕ → X → Type 0) (xs : List X) (d : X) (c : ℕ) → c < length xs → AllZip R (range_with_len 0 (length xs)) xs → R c (get_or xs c d)
at_hand R xs d c l h =
    subst (λ k. R k (get_or xs c d)) (get_or-range_with_len 0 (length xs) c 0 l ∙ zero-add c)
    (zip_at R (range_with_len 0 (length xs)) xs c 0 d h (rw length-range_with_len l))

pub all_done : (file : List JobUnit) (hands batch : ℕ) (runs : List Run) (books : List (List Group)) → length runs ≡ hands → HandsRan file hands batch 0 runs → LanesClosed file hands runs books → AllDone file hands batch books (by_hand runs)
all_done file hands batch runs books e ran closed = record {
  proper = closed.proper;
  never_shut = closed.never_shut;
  idle = closed.idle;
  done = λ c l.
      let within : c < length runs = omega (arith, l, e) in
      let run = get_or runs c no_run in
      HandDone-saw_more file hands batch c run.seen books run.replies
      (at_hand (λ i x. AllZip (SawMore i) x.seen books) runs no_run c within closed.kept)
      (at_hand (λ i x. HandDone file hands batch i x.seen x.replies) runs no_run c within ran);
}

pub fit : (file : List JobUnit) (hands batch : ℕ) (runs : List Run) (books : List (List Group)) (sorted : List Reply) → 0 < hands → AllByRecursion (λ (unit : JobUnit). unit.lane < 16) file → length runs ≡ hands
    → HandsRan file hands batch 0 runs → LanesClosed file hands runs books → IsPermutation (flat_map (λ (run : Run). run.replies) runs) sorted → IsNonDecreasingBy (λ (r : Reply). r.job) sorted
    → BooksFit file (hands + 1) books × RepliesFit file books sorted
fit file hands batch runs books sorted pos lanes e ran closed moved rises =
    let all = all_done file hands batch runs books e ran closed in
    let pieces : flat_map (by_hand runs) (range_with_len 0 hands) ≡ flat_map (λ (run : Run). run.replies) runs =
    ap (λ n. flat_map (by_hand runs) (range_with_len 0 n)) (sym e) ∙ pieces_at (λ (run : Run). run.replies) no_run [] runs in (
      BooksFit-done file hands batch books (by_hand runs) pos all,
      RepliesFit-done file hands batch books (by_hand runs) sorted pos lanes all (subst (λ rs. IsPermutation rs sorted) (sym pieces) moved) rises,
    )
