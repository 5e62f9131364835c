-- No step of a caller takes a row of another one.
use Rattle.std.proofs.Common.{◌≡◌, ◌≢◌, ℕ, Bool, true, false, sym, refl, ap, ◌∙◌}
use Rattle.std.specs.Prelude.{◌||◌}
use Rattle.word_rows.specs.declared.content.Content.{Content}
use Rattle.word_rows.specs.declared.location.AnnField.{AnnField}
use Rattle.word_rows.specs.declared.location.AnnField.TheVariants as field
use Rattle.word_rows.specs.declared.marks.Marks.{Marks}
use Rattle.lane_steps.specs.declared.point.AnswerPoint.TheVariants as answer
use Rattle.lane_steps.specs.declared.point.BatchPoint.TheVariants as batch
use Rattle.lane_steps.specs.declared.point.ClosePoint.TheVariants as close
use Rattle.lane_steps.specs.declared.point.DequeuePoint.TheVariants as deq
use Rattle.lane_steps.specs.declared.point.EnqueuePoint.TheVariants as enq
use Rattle.lane_steps.specs.declared.point.FillPoint.TheVariants as fill
use Rattle.lane_steps.specs.declared.point.Guarding.{Guarding}
use Rattle.lane_steps.specs.declared.point.Guarding.TheVariants as guard
use Rattle.lane_steps.specs.declared.point.GuardPoint.TheVariants.{StoreHazard, LoadAgain}
use Rattle.lane_steps.specs.declared.point.HelpPoint.TheVariants as help
use Rattle.lane_steps.specs.declared.point.ManyPoint.TheVariants as many
use Rattle.lane_steps.specs.declared.point.Point.{Point}
use Rattle.lane_steps.specs.declared.point.Point.TheVariants as point
use Rattle.lane_steps.specs.declared.point.TakePoint.TheVariants as take
use Rattle.lane_steps.specs.Act.{with_marks}
use Rattle.lane_steps.specs.Functions.{put}
use Rattle.lane_steps.specs.LaneSizes.{LaneSizes}
use Rattle.lane_steps.specs.State.{Memory, State, read, write, write_field, marks}
use Rattle.lane_steps.specs.Step.{target, stored}
use Rattle.lane_steps.specs.Take.{is_stopper, taken_marks}
use Rattle.core_model.specs.Lawful.{Lawful}
use Rattle.core_model.proofs.Preserves.{known}
use Rattle.core_model.proofs.Puts.{put_all, put_else, put_same}

-- the words after a step of caller c at the point t
abbrev pub wrote : State → ℕ → Point → Memory
wrote s c t = write s.memory (target c t) (stored c t (read s.memory (target c t)))

field_mark : (m : Memory) (a : ℕ) (f : AnnField) (x : Content) → (write_field m a f x).mark ≡ m.mark
field_mark m a field.OldTail x = refl
field_mark m a field.OldHead x = refl
field_mark m a field.First x = refl
field_mark m a field.Last x = refl
field_mark m a field.Counts x = refl
field_mark m a field.BatchNo x = refl
field_mark m a field.Order0 x = refl
field_mark m a field.Order1 x = refl
field_mark m a field.Order2 x = refl
field_mark m a field.Order3 x = refl

-- marks that are set leave a free row free
was_taken : (a b : Bool) → (a || b) ≡ false → a ≡ false
was_taken false b e = refl
was_taken true b e = e

joined : (f : ℕ → Marks) (q : ℕ) (x : Marks) (r : ℕ) → (put f q (with_marks (f q) x) r).free ≡ false → (f r).free ≡ false
joined f q x r e = put_all f q (with_marks (f q) x) (λ j y. y.free ≡ false → (f j).free ≡ false) (was_taken (f q).free x.free) (λ _ _ y. y) r e

-- a search leaves the marks as they are
pub marks_same : (f : ℕ → Marks) (q r : ℕ) → (put f q (f q) r).free ≡ false → (f r).free ≡ false
marks_same f q r e = ap (λ (g : ℕ → Marks). (g r).free) (sym (put_same f q)) ∙ e

module _ (z : LaneSizes) (s : State) (L : Lawful z s) (a r : ℕ) (other : z.home r ≢ a) where
  abbrev After : Point → Type 0
  After t = ((write s.memory (target a t) (stored a t (read s.memory (target a t)))).mark r).free ≡ false → (s.memory.mark r).free ≡ false

  elsewhere : (q : ℕ) → z.home q ≡ a → r ≢ q
  elsewhere q home e = other (ap z.home e ∙ home)

  still_named : (t : Guarding) → After (point.Guard t StoreHazard)
  still_named (guard.Help h) e = e
  still_named (guard.Enqueue x p) e = e
  still_named (guard.Dequeue p) e = e
  still_named (guard.Many d) e = e
  still_named (guard.ManyTail d p) e = e
  still_named (guard.HelpTail h p) e = e

  still_source : (t : Guarding) → After (point.Guard t LoadAgain)
  still_source (guard.Help h) e = e
  still_source (guard.Enqueue x p) e = e
  still_source (guard.Dequeue p) e = e
  still_source (guard.Many d) e = e
  still_source (guard.ManyTail d p) e = e
  still_source (guard.HelpTail h p) e = e

  pub still_free : (t : Point) → (s.callers a).point ≡ t → ((write s.memory (target a t) (stored a t (read s.memory (target a t)))).mark r).free ≡ false → (s.memory.mark r).free ≡ false
  still_free (point.Take t (take.LoadMark q l)) is e = marks_same s.memory.mark q r e
  still_free (point.Take t (take.ClearMark q)) is e = ap (λ (y : Marks). y.free) (sym (put_else s.memory.mark q (taken_marks (is_stopper t)) r (elsewhere q (known z s L a (point.Take t (take.ClearMark q)) is).here.0.0.at_home))) ∙ e
  still_free (point.Take t (take.ClearLink q)) is e = e
  still_free (point.Close x (close.MarkRow q read passed stopped)) is e = joined s.memory.mark q.row (marks read passed false) r e
  still_free (point.Close x (close.MarkLoose q)) is e = joined s.memory.mark q (marks true true false) r e
  still_free (point.Close x (close.MarkFree q)) is e = joined s.memory.mark q (marks false false true) r e
  still_free (point.Close x _) is e = e
  still_free (point.Batch d (batch.StoreField f)) is e = ap (λ (g : ℕ → Marks). (g r).free) (sym (field_mark s.memory d.ann f _)) ∙ e
  still_free (point.Batch d (batch.StoreAll f)) is e = ap (λ (g : ℕ → Marks). (g r).free) (sym (field_mark s.memory d.ann f _)) ∙ e
  still_free (point.Batch d _) is e = e
  still_free (point.Guard t StoreHazard) is e = still_named t e
  still_free (point.Guard t LoadAgain) is e = still_source t e
  still_free (point.Enqueue x enq.StoreValue) is e = e
  still_free (point.Enqueue x _) is e = e
  still_free (point.Dequeue deq.LoadHead) is e = e
  still_free (point.Dequeue _) is e = e
  still_free (point.Fill n (fill.LoadHazard d)) is e = e
  still_free (point.Fill n _) is e = e
  still_free (point.Many d many.LoadHead) is e = e
  still_free (point.Many d _) is e = e
  still_free (point.Help h help.LoadOldHead) is e = e
  still_free (point.Help h _) is e = e
  still_free (point.Answer (answer.LoadOldTail h)) is e = e
  still_free (point.Answer _) is e = e
  still_free point.Idle is e = e
