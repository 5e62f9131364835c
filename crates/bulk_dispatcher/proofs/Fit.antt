-- What all hands did makes the books fit the file.
use Rattle.std.proofs.Common.{◌≡◌, ℕ, ◌+◌, ◌<◌, List, []}
use Rattle.std.specs.List.{AllZip}
use Rattle.bq_model.specs.declared.group.Group.{Group}
use Rattle.bq_model.specs.Own.{mine}
use Rattle.bq_model.specs.NoShut.{NeverShut}
use Rattle.bq_model.specs.Proper.{IsProper}
use Rattle.job_text.specs.declared.file.Unit.{Unit as JobUnit}
use Rattle.bulk_dispatcher.specs.declared.reply.Reply.{Reply}
use Rattle.bulk_dispatcher.specs.Books.{lanes_of, BooksFit}
use Rattle.bulk_dispatcher.specs.Hands.{units_of, HandDid, AllDone}
use Rattle.bulk_dispatcher.proofs.Zips.{zip_weaker, zip_both, zip_each}
use Rattle.bulk_dispatcher.proofs.Emptied.{nothing_left}
use Rattle.bulk_dispatcher.proofs.EachOnce.{each_once, stand_together}

-- a lane's book, of what all hands did there
pub record LaneDone (file : List JobUnit) (hands batch lane : ℕ) (book : List Group) : Type 0 where
  pub proper : IsProper (hands + 1) book
  pub never_shut : NeverShut book
  pub idle : mine book hands ≡ []
  pub did : (c : ℕ) → c < hands → HandDid (units_of file hands lane c) batch c book

pub lanes_done : (file : List JobUnit) (hands batch : ℕ) (books : List (List Group)) (by_hand : ℕ → List Reply) → AllDone file hands batch books by_hand → AllZip (LaneDone file hands batch) (lanes_of file) books
lanes_done file hands batch books by_hand all =
    let ls = lanes_of file in
    zip_weaker _ (LaneDone file hands batch) (λ lane book h. record { proper = h.0; never_shut = h.1.0; idle = h.1.1.0; did = h.1.1.1 }) ls books
    (zip_both (λ lane book. IsProper (hands + 1) book) _ ls books all.proper
    (zip_both (λ lane book. NeverShut book) _ ls books all.never_shut
    (zip_both (λ lane book. mine book hands ≡ []) _ ls books all.idle
    (zip_each (λ lane book. IsProper (hands + 1) book) (λ c lane book. HandDid (units_of file hands lane c) batch c book) hands ls books all.proper (λ c l. (all.done c l).did)))))

pub BooksFit-done : (file : List JobUnit) (hands batch : ℕ) (books : List (List Group)) (by_hand : ℕ → List Reply) → 0 < hands → AllDone file hands batch books by_hand → BooksFit file (hands + 1) books
BooksFit-done file hands batch books by_hand pos all =
    let ls = lanes_of file in
    let lanes = lanes_done file hands batch books by_hand all in
    record {
      proper = all.proper;
      each_once = zip_weaker (LaneDone file hands batch) _ (λ lane book h. each_once file hands lane batch book pos h.proper.known h.idle h.did) ls books lanes;
      together = zip_weaker (LaneDone file hands batch) _ (λ lane book h. stand_together file hands lane batch book pos h.did) ls books lanes;
      emptied = zip_weaker (LaneDone file hands batch) _ (λ lane book h. nothing_left hands batch book h.proper.known h.never_shut h.idle (λ c l. (h.did c l).ended)) ls books lanes;
    }
