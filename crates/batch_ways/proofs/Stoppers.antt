-- The steps of dequeues alone that take a stopper, and store and install their announcement, as what their command is then.
use Rattle.std.proofs.Common.{◌≡◌, ℕ, Bool, true, false, cond, [], ◌∷◌, vec_capacity, refl, sym, ap, ◌∙◌, subst, Some, eq-eqb}
use Rattle.std.specs.VecDeque.{deque_capacity}
use Rattle.atomic_table.specs.Seated.{TableId}
use Rattle.atomic_table.specs.declared.shared.Seat.{Seat}
use Rattle.bq_model.specs.declared.shape.Shape.{Shape}
use Rattle.word_rows.specs.declared.content.Content.{Content}
use Rattle.word_rows.specs.declared.location.AnnField.{AnnField}
use Rattle.word_rows.specs.declared.location.AnnField.TheVariants.{OldHead, OldTail}
use Rattle.lane_steps.specs.Act.{is_node}
use Rattle.lane_steps.specs.Batch.{after_whole, retry}
use Rattle.lane_steps.specs.Batches.{with_rows}
use Rattle.lane_steps.specs.Fill.{scan_from, first_store}
use Rattle.lane_steps.specs.Help.{own_help}
use Rattle.lane_steps.specs.LaneSizes.{lane_sizes}
use Rattle.lane_steps.specs.State.{head_in}
use Rattle.lane_steps.specs.declared.point.BatchPoint.TheVariants.{StoreAll, StoreField, LoadHead, Install}
use Rattle.lane_steps.specs.declared.point.Draft.{Draft}
use Rattle.lane_steps.specs.declared.point.GuardPoint.TheVariants.{StoreHazard}
use Rattle.lane_steps.specs.declared.point.Guarding.TheVariants as guard
use Rattle.lane_steps.specs.declared.point.Help.{Help}
use Rattle.lane_steps.specs.declared.point.ManyPoint.TheVariants as many
use Rattle.lane_steps.specs.declared.point.Notice.{Notice}
use Rattle.lane_steps.specs.declared.point.Point.{Point}
use Rattle.lane_steps.specs.declared.point.Point.TheVariants.{Batch, Guard, Many, Take}
use Rattle.lane_steps.specs.declared.point.TakePoint.TheVariants.{ClearMark, ClearLink}
use Rattle.lane_steps.specs.declared.point.Taking.TheVariants as taking
use Rattle.lane_rule.specs.declared.view.View.{View}
use Rattle.lane_rule.specs.Plays.{Moves}
use Rattle.lane_course.specs.declared.next.Next.TheVariants.{Goes}
use Rattle.lane_course.specs.declared.scratch.Scratch.{Scratch}
use Rattle.lane_course.specs.Along.{Along}
use Rattle.lane_course.specs.Running.{IsNext}
use Rattle.lane_course.specs.Scratch.{keeping}
use Rattle.lane_course.proofs.Seeks.{same_puts}
use Rattle.lane_course.proofs.Ways.{steps_to, ends}

module _ {id : TableId} {key s : Shape} {c : ℕ} {a : Scratch} {p q : Seat ℕ View} (r : Seat ℕ View) (found : Content) (m : Moves q found r) where
  module _ (n : Notice) (row : ℕ) where
    pub mark_cleared : Along id key s c (Take (taking.Stopper n) (ClearMark row)) a p q → Along id key s c (Take (taking.Stopper n) (ClearLink row)) a p r
    mark_cleared way = steps_to way r found m (Take (taking.Stopper n) (ClearLink row)) a (λ k w _. refl) (same_puts a)

    -- it has its stopper, and chooses an announcement
    pub stopped : (f g : Scratch) → f.rows.items ≡ row ∷ [] → deque_capacity f.rows ≡ deque_capacity a.rows → g.named.items ≡ [] → vec_capacity g.named ≡ vec_capacity a.named → (whole : Notice) → whole ≡ with_rows n f.rows.items
        → Along id key s c (Take (taking.Stopper n) (ClearLink row)) a p q → Along id key s c (scan_from (lane_sizes s) c g.named.items whole 0) (record a { rows = f.rows; named = g.named }) p r
    stopped f g rows capacity none room whole e way = steps_to way r found m (scan_from (lane_sizes s) c g.named.items whole 0) (record a { rows = f.rows; named = g.named })
        (λ k w _. λ i. record (keeping w a) { rows = sym rows i; point = scan_from (lane_sizes s) c (sym none i) ((ap (with_rows n) (sym rows) ∙ sym e) i) 0; named = sym none i })
        record { puts = refl; room = record { puts = refl; rows = capacity; values = refl; walked = refl; retired = refl; named = room } }

  module _ (d : Draft) where
    pub written : (f : AnnField) → Along id key s c (Batch d (StoreAll f)) a p q → Along id key s c (Batch d (after_whole f)) a p r
    written f way = steps_to way r found m (Batch d (after_whole f)) a (λ k w _. refl) (same_puts a)

    -- it has installed its announcement, or begins its walk again
    pub installed : (b : Bool) → d.notice.counts.enqs ≡ 0 → is_node (head_in found) d.notice.old_head ≡ b → Along id key s c (Batch d Install) a p q
        → IsNext id key s c a p r (Goes (cond b (Guard (guard.Help (own_help d)) StoreHazard) (Many (record { ann = Some d.ann; notice = d.notice }) many.LoadHead)))
    installed b none is way = ends way r found m (Goes (cond b (Guard (guard.Help (own_help d)) StoreHazard) (Many (record { ann = Some d.ann; notice = d.notice }) many.LoadHead))) a
        (λ k w _. ap (λ (y : Bool). record (keeping w a) { point = cond y (Guard (guard.Help (own_help d)) StoreHazard) (retry d) }) is
        ∙ ap (λ (u : Point). record (keeping w a) { point = cond b (Guard (guard.Help (own_help d)) StoreHazard) u }) again) (same_puts a) where
          again : retry d ≡ Many (record { ann = Some d.ann; notice = d.notice }) many.LoadHead
          again = ap (λ (y : Bool). cond y (Many (record { ann = Some d.ann; notice = d.notice }) many.LoadHead) (Batch d LoadHead)) (eq-eqb d.notice.counts.enqs 0 none)

-- dequeues alone store all fields of their announcement
pub stores_all : {id : TableId} {key s : Shape} {c : ℕ} {a : Scratch} {p q : Seat ℕ View} (d : Draft) → d.notice.counts.enqs ≡ 0 → Along id key s c (first_store d) a p q → Along id key s c (Batch d (StoreAll OldHead)) a p q
stores_all {id} {key} {s} {c} {a} {p} {q} d none way = subst (λ (b : Bool). Along id key s c (cond b (Batch d (StoreAll OldHead)) (Batch d (StoreField OldTail))) a p q) (eq-eqb d.notice.counts.enqs 0 none) way

-- whether it has installed its announcement is known
module _ {id : TableId} {key s : Shape} {c : ℕ} {a : Scratch} {p q : Seat ℕ View} (d : Draft) {b : Bool} (is : IsNext id key s c a p q (Goes (cond b (Guard (guard.Help (own_help d)) StoreHazard) (Many (record { ann = Some d.ann; notice = d.notice }) many.LoadHead)))) where
  told : (y : Bool) → b ≡ y → IsNext id key s c a p q (Goes (cond y (Guard (guard.Help (own_help d)) StoreHazard) (Many (record { ann = Some d.ann; notice = d.notice }) many.LoadHead)))
  told y e = subst (λ (z : Bool). IsNext id key s c a p q (Goes (cond z (Guard (guard.Help (own_help d)) StoreHazard) (Many (record { ann = Some d.ann; notice = d.notice }) many.LoadHead)))) e is

  pub has_installed : (h : Help) → h ≡ own_help d → b ≡ true → IsNext id key s c a p q (Goes (Guard (guard.Help h) StoreHazard))
  has_installed h own e = subst (λ (y : Help). IsNext id key s c a p q (Goes (Guard (guard.Help y) StoreHazard))) (sym own) (told true e)

  pub has_not : b ≡ false → IsNext id key s c a p q (Goes (Many (record { ann = Some d.ann; notice = d.notice }) many.LoadHead))
  has_not e = told false e
