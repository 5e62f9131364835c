-- A batch whose announcement is chosen goes on until this is installed, with the ranks that its owner kept.
use Rattle.std.proofs.Common.{◌≡◌, ◌==◌, inl, ℕ, ◌<◌, Bool, true, false, cond, [], ◌∷◌, refl, ap, arith, Some}
use Rattle.bq_model.specs.declared.shape.Shape.{Shape}
use Rattle.word_rows.specs.declared.head_word.HeadWord.{HeadWord}
use Rattle.word_rows.specs.declared.head_word.HeadWord.TheVariants.{Node, Ann}
use Rattle.word_rows.specs.declared.location.AnnField.{AnnField}
use Rattle.word_rows.specs.declared.location.AnnField.TheVariants as field
use Rattle.word_rows.specs.declared.content.Content.TheVariants.{OfHead}
use Rattle.lane_steps.specs.Act.{is_node}
use Rattle.lane_steps.specs.Batch.{after_field, after_whole, after_head, on_head, retry}
use Rattle.lane_steps.specs.Help.{help_of, own_help}
use Rattle.lane_steps.specs.LaneSizes.{lane_sizes}
use Rattle.lane_steps.specs.declared.point.Back.TheVariants as back
use Rattle.lane_steps.specs.declared.point.Draft.{Draft}
use Rattle.lane_steps.specs.declared.point.Guarding.TheVariants as guard
use Rattle.lane_steps.specs.declared.point.GuardPoint.TheVariants.{StoreHazard}
use Rattle.lane_steps.specs.declared.point.BatchPoint.{BatchPoint}
use Rattle.lane_steps.specs.declared.point.BatchPoint.TheVariants.{StoreField, StoreAll, LoadHead, Install}
use Rattle.lane_steps.specs.declared.point.ManyPoint.TheVariants as many
use Rattle.lane_steps.specs.declared.point.Point.{Point}
use Rattle.lane_steps.specs.declared.point.Point.TheVariants as point
use Rattle.lane_steps.specs.State.{Caller, State, read, head_in}
use Rattle.lane_steps.specs.Step.{target, after, step_at, stepped}
use Rattle.core_model.specs.Lawful.{Lawful}
use Rattle.lane_rank.specs.Expected.{AllThere, Keeps, head_node}
use Rattle.lane_rank.specs.Rank.{rank}
use Rattle.lane_rank.specs.Return.{Onward}
use Rattle.lane_rank.proofs.Onwards.{carry, gone, goes, loads, restarts}
use Rattle.lane_rank.proofs.Together.{not_node}

module _ (z : Shape) (s : State) (L : Lawful (lane_sizes z) s) (c M n o i : ℕ) (d : Draft) where
  abbrev me : Caller
  me = s.callers c

  -- its point in the call, and what it keeps there
  abbrev at : BatchPoint → Point
  at p = point.Batch d p

  abbrev on : BatchPoint → Caller
  on p = stepped me (at p)

  still_there : (p : BatchPoint) (is : (s.callers c).point ≡ point.Batch d p) → Keeps s (point.Batch d p) o i → AllThere s o (head_node d.notice.old_head ∷ []) → AllThere (step_at (lane_sizes z) s c (point.Batch d p)) o (head_node d.notice.old_head ∷ [])
  still_there p is K there = carry z s L c M (at p) is o i K (head_node d.notice.old_head ∷ []) (tt, tt) there

  stores : (f : AnnField) (is : (s.callers c).point ≡ point.Batch d (StoreField f)) → Keeps s (point.Batch d (StoreField f)) o i
      → Onward M z (step_at (lane_sizes z) s c (point.Batch d (StoreField f))) (s.callers c) (stepped (s.callers c) (point.Batch d (after_field f))) o i
  stores field.OldHead is K = goes z s L c M (at (StoreField field.OldHead)) is o i K (on Install) (at Install) refl (still_there (StoreField field.OldHead) is K K.outer_there) tt (omega arith)
  stores field.OldTail is K = goes z s L c M (at (StoreField field.OldTail)) is o i K (on (StoreField field.First)) (at (StoreField field.First)) refl tt tt (omega arith)
  stores field.First is K = goes z s L c M (at (StoreField field.First)) is o i K (on (StoreField field.Last)) (at (StoreField field.Last)) refl tt tt (omega arith)
  stores field.Last is K = goes z s L c M (at (StoreField field.Last)) is o i K (on (StoreField field.Counts)) (at (StoreField field.Counts)) refl tt tt (omega arith)
  stores field.Counts is K = goes z s L c M (at (StoreField field.Counts)) is o i K (on (StoreField field.BatchNo)) (at (StoreField field.BatchNo)) refl tt tt (omega arith)
  stores field.BatchNo is K = goes z s L c M (at (StoreField field.BatchNo)) is o i K (on (StoreField field.Order0)) (at (StoreField field.Order0)) refl tt tt (omega arith)
  stores field.Order0 is K = goes z s L c M (at (StoreField field.Order0)) is o i K (on (StoreField field.Order1)) (at (StoreField field.Order1)) refl tt tt (omega arith)
  stores field.Order1 is K = goes z s L c M (at (StoreField field.Order1)) is o i K (on (StoreField field.Order2)) (at (StoreField field.Order2)) refl tt tt (omega arith)
  stores field.Order2 is K = goes z s L c M (at (StoreField field.Order2)) is o i K (on (StoreField field.Order3)) (at (StoreField field.Order3)) refl tt tt (omega arith)
  stores field.Order3 is K = goes z s L c M (at (StoreField field.Order3)) is o i K (on LoadHead) (at LoadHead) refl tt tt (omega arith)

  stores_all : (f : AnnField) (is : (s.callers c).point ≡ point.Batch d (StoreAll f)) → Keeps s (point.Batch d (StoreAll f)) o i
      → Onward M z (step_at (lane_sizes z) s c (point.Batch d (StoreAll f))) (s.callers c) (stepped (s.callers c) (point.Batch d (after_whole f))) o i
  stores_all field.OldHead is K = goes z s L c M (at (StoreAll field.OldHead)) is o i K (on (StoreAll field.OldTail)) (at (StoreAll field.OldTail)) refl (still_there (StoreAll field.OldHead) is K K.outer_there) tt (omega arith)
  stores_all field.OldTail is K = goes z s L c M (at (StoreAll field.OldTail)) is o i K (on (StoreAll field.First)) (at (StoreAll field.First)) refl (still_there (StoreAll field.OldTail) is K K.outer_there) tt (omega arith)
  stores_all field.First is K = goes z s L c M (at (StoreAll field.First)) is o i K (on (StoreAll field.Last)) (at (StoreAll field.Last)) refl (still_there (StoreAll field.First) is K K.outer_there) tt (omega arith)
  stores_all field.Last is K = goes z s L c M (at (StoreAll field.Last)) is o i K (on (StoreAll field.Counts)) (at (StoreAll field.Counts)) refl (still_there (StoreAll field.Last) is K K.outer_there) tt (omega arith)
  stores_all field.Counts is K = goes z s L c M (at (StoreAll field.Counts)) is o i K (on (StoreAll field.BatchNo)) (at (StoreAll field.BatchNo)) refl (still_there (StoreAll field.Counts) is K K.outer_there) tt (omega arith)
  stores_all field.BatchNo is K = goes z s L c M (at (StoreAll field.BatchNo)) is o i K (on (StoreAll field.Order0)) (at (StoreAll field.Order0)) refl (still_there (StoreAll field.BatchNo) is K K.outer_there) tt (omega arith)
  stores_all field.Order0 is K = goes z s L c M (at (StoreAll field.Order0)) is o i K (on (StoreAll field.Order1)) (at (StoreAll field.Order1)) refl (still_there (StoreAll field.Order0) is K K.outer_there) tt (omega arith)
  stores_all field.Order1 is K = goes z s L c M (at (StoreAll field.Order1)) is o i K (on (StoreAll field.Order2)) (at (StoreAll field.Order2)) refl (still_there (StoreAll field.Order1) is K K.outer_there) tt (omega arith)
  stores_all field.Order2 is K = goes z s L c M (at (StoreAll field.Order2)) is o i K (on (StoreAll field.Order3)) (at (StoreAll field.Order3)) refl (still_there (StoreAll field.Order2) is K K.outer_there) tt (omega arith)
  stores_all field.Order3 is K = goes z s L c M (at (StoreAll field.Order3)) is o i K (on Install) (at Install) refl (still_there (StoreAll field.Order3) is K K.outer_there) tt (omega arith)

  head_found : (is : (s.callers c).point ≡ point.Batch d LoadHead) → Keeps s (point.Batch d LoadHead) o i → (w : HeadWord) → s.memory.head ≡ w
      → Onward M z (step_at (lane_sizes z) s c (point.Batch d LoadHead)) (s.callers c) (stepped (s.callers c) (after_head d w)) o i
  head_found is K (Node p) e = loads z s L c M (at LoadHead) is o i K (stepped me (after_head d (Node p))) (point.Batch (on_head d p) (StoreField field.OldHead)) refl (inl (ap OfHead e), tt) tt (omega arith)
  head_found is K (Ann a m) e = loads z s L c M (at LoadHead) is o i K (stepped me (after_head d (Ann a m))) (point.Guard (guard.Help (help_of a m (back.Batch d))) StoreHazard) refl (inl (ap OfHead e), tt) tt (omega arith)

  installs : (is : (s.callers c).point ≡ point.Batch d Install) → Keeps s (point.Batch d Install) o i → (b : Bool) → is_node s.memory.head d.notice.old_head ≡ b
      → Onward M z (step_at (lane_sizes z) s c (point.Batch d Install)) (s.callers c) (stepped (s.callers c) (cond b (point.Guard (guard.Help (own_help d)) StoreHazard) (retry d))) o i
  installs is K true e = let t = point.Guard (guard.Help (own_help d)) StoreHazard in loads z s L c M (at Install) is o i K (stepped me t) t refl
      (inl (ap (λ (b : Bool). OfHead (head_in (cond b (OfHead (Ann d.ann d.notice.old_head.count)) (OfHead s.memory.head)))) e), tt) tt (omega arith)
  installs is K false e = by (d.notice.counts.enqs == 0) where
    up : o < rank (step_at (lane_sizes z) s c (point.Batch d Install))
    up = gone z s L c M (at Install) is o i K o (head_node d.notice.old_head) K.outer_there.0 (λ there. not_node s.memory.head d.notice.old_head e (cc there))

    by : (b : Bool) → Onward M z (step_at (lane_sizes z) s c (point.Batch d Install)) (s.callers c) (stepped (s.callers c) (cond b (point.Many (record { ann = Some d.ann; notice = d.notice }) many.LoadHead) (point.Batch d LoadHead))) o i
    by true = restarts z s L c M (at Install) is o i K (stepped me (point.Many (record { ann = Some d.ann; notice = d.notice }) many.LoadHead)) (point.Many (record { ann = Some d.ann; notice = d.notice }) many.LoadHead) refl tt tt up (omega arith)
    by false = restarts z s L c M (at Install) is o i K (on LoadHead) (at LoadHead) refl tt tt up (omega arith)

  pub batch_onward : (p : BatchPoint) → (s.callers c).point ≡ point.Batch d p → Keeps s (point.Batch d p) o i
      → Onward M z (step_at (lane_sizes z) s c (point.Batch d p)) (s.callers c) (after (lane_sizes z) n c (s.callers c) (point.Batch d p) (read s.memory (target c (point.Batch d p)))) o i
  batch_onward (StoreField f) is K = stores f is K
  batch_onward (StoreAll f) is K = stores_all f is K
  batch_onward LoadHead is K = head_found is K s.memory.head refl
  batch_onward Install is K = installs is K (is_node s.memory.head d.notice.old_head) refl
