-- No step gives an announcement that a caller holds, or rewrites a word of it.
use Rattle.std.proofs.Common.{◌≡◌, ◌≢◌, ◌⊎◌, inl, inr, ⊎_elim, ℕ, cond, sym, refl, ap, ◌∙◌, subst, Option, Some, None}
use Rattle.word_rows.specs.declared.place.Place.{Place}
use Rattle.word_rows.specs.declared.head_word.HeadWord.TheVariants.{Ann}
use Rattle.word_rows.specs.declared.location.Location.TheVariants.{AnnWord}
use Rattle.word_rows.specs.declared.location.AnnField.{AnnField}
use Rattle.word_rows.specs.declared.location.AnnField.TheVariants as field
use Rattle.word_rows.specs.declared.content.Content.{Content}
use Rattle.word_rows.specs.declared.content.Content.TheVariants.{OfOldTail}
use Rattle.lane_steps.specs.declared.point.Draft.{Draft}
use Rattle.lane_steps.specs.declared.point.Back.{Back}
use Rattle.lane_steps.specs.declared.point.Back.TheVariants as back
use Rattle.lane_steps.specs.declared.point.Hold.TheVariants.{Held}
use Rattle.lane_steps.specs.declared.point.Guarding.{Guarding}
use Rattle.lane_steps.specs.declared.point.Guarding.TheVariants as guard
use Rattle.lane_steps.specs.declared.point.GuardPoint.{GuardPoint}
use Rattle.lane_steps.specs.declared.point.GuardPoint.TheVariants.{StoreHazard, LoadAgain}
use Rattle.lane_steps.specs.declared.point.TakePoint.TheVariants.{LoadMark}
use Rattle.lane_steps.specs.declared.point.ClosePoint.TheVariants as close
use Rattle.lane_steps.specs.declared.point.HelpPoint.TheVariants as help
use Rattle.lane_steps.specs.declared.point.BatchPoint.{BatchPoint}
use Rattle.lane_steps.specs.declared.point.BatchPoint.TheVariants as batch
use Rattle.lane_steps.specs.declared.point.EnqueuePoint.TheVariants as enq
use Rattle.lane_steps.specs.declared.point.DequeuePoint.TheVariants as deq
use Rattle.lane_steps.specs.declared.point.FillPoint.TheVariants as fill
use Rattle.lane_steps.specs.declared.point.AnswerPoint.TheVariants as answer
use Rattle.lane_steps.specs.declared.point.Point.{Point}
use Rattle.lane_steps.specs.declared.point.Plan.{Plan}
use Rattle.lane_steps.specs.declared.point.ManyPoint.{ManyPoint}
use Rattle.lane_steps.specs.declared.point.ManyPoint.TheVariants as many
use Rattle.lane_steps.specs.declared.point.Point.TheVariants.{Idle}
use Rattle.lane_steps.specs.declared.point.Point.TheVariants as point
use Rattle.lane_steps.specs.LaneSizes.{LaneSizes}
use Rattle.lane_steps.specs.Batches.{owner_of}
use Rattle.lane_steps.specs.Notices.{field_in}
use Rattle.lane_steps.specs.State.{Memory, command, State, write}
use Rattle.lane_steps.specs.Act.{is_unknown}
use Rattle.lane_steps.specs.Guard.{source}
use Rattle.lane_steps.specs.Help.{back_facts}
use Rattle.lane_steps.specs.Fact.{is_spare, spares}
use Rattle.lane_steps.specs.Step.{step_at, next}
use Rattle.core_model.specs.Facts.{Holds, Each, AtPoint}
use Rattle.core_model.specs.Ghost.{unused}
use Rattle.core_model.specs.Held.{HoldsAnn, HoldsRow, Untouched, chosen_by, chosen_behind, chosen_beside}
use Rattle.core_model.specs.Lawful.{named_by, held_by, Lawful}
use Rattle.core_model.proofs.Puts.{put_else, put_all}
use Rattle.core_model.proofs.Rely.{world, one_some}
use Rattle.core_model.proofs.Preserves.{known}
use Rattle.core_model.proofs.StoredAgain.{write_read}
use Rattle.core_model.proofs.Lookups.{ann_stands}
use Rattle.core_model.proofs.Reuses.{is_chosen, fresh_spare}

module _ (z : LaneSizes) (s : State) (L : Lawful z s) where
  pub held_there : (e a : ℕ) → HoldsAnn (s.callers e) a → L.ghost.held e ≡ Some a
  held_there e a is = (L.callers e).guards.holds ∙ ap held_by is

  -- the hazard word of a caller that holds an announcement names it
  pub names_its_hold : (e a : ℕ) → HoldsAnn (s.callers e) a → s.memory.ann_hazard e ≡ Some a
  names_its_hold e a is = (L.callers e).guards.word ∙ ap named_by is

  pub row_held_there : (e r : ℕ) → HoldsRow (s.callers e) r → L.ghost.row_held e ≡ Some r
  row_held_there e r is = (L.callers e).guards_row.holds ∙ ap held_by is

  pub names_its_row : (e r : ℕ) → HoldsRow (s.callers e) r → s.memory.node_hazard e ≡ Some r
  names_its_row e r is = (L.callers e).guards_row.word ∙ ap named_by is

  module _ (c : ℕ) where
    owner_at : (d : Draft) (p : BatchPoint) → AtPoint z (world s L.ghost) c (s.callers c) (point.Batch d p) → owner_of z d.ann ≡ c
    owner_at d (batch.StoreField field.OldTail) f = f.here.0.owner
    owner_at d (batch.StoreField field.First) f = f.here.0.owner
    owner_at d (batch.StoreField field.Last) f = f.here.0.owner
    owner_at d (batch.StoreField field.Counts) f = f.here.0.owner
    owner_at d (batch.StoreField field.BatchNo) f = f.here.0.owner
    owner_at d (batch.StoreField field.Order0) f = f.here.0.owner
    owner_at d (batch.StoreField field.Order1) f = f.here.0.owner
    owner_at d (batch.StoreField field.Order2) f = f.here.0.owner
    owner_at d (batch.StoreField field.Order3) f = f.here.0.owner
    owner_at d (batch.StoreField field.OldHead) f = f.here.0.owner
    owner_at d (batch.StoreAll field.OldHead) f = f.here.1.0.owner
    owner_at d (batch.StoreAll field.OldTail) f = f.here.1.0.owner
    owner_at d (batch.StoreAll field.First) f = f.here.1.0.owner
    owner_at d (batch.StoreAll field.Last) f = f.here.1.0.owner
    owner_at d (batch.StoreAll field.Counts) f = f.here.1.0.owner
    owner_at d (batch.StoreAll field.BatchNo) f = f.here.1.0.owner
    owner_at d (batch.StoreAll field.Order0) f = f.here.1.0.owner
    owner_at d (batch.StoreAll field.Order1) f = f.here.1.0.owner
    owner_at d (batch.StoreAll field.Order2) f = f.here.1.0.owner
    owner_at d (batch.StoreAll field.Order3) f = f.here.1.0.owner
    owner_at d batch.LoadHead f = f.here.0.owner
    owner_at d batch.Install f = f.here.0.owner

    -- the announcement that a caller has chosen is its own, stands nowhere, and is held by nobody
    pub spare_at : (d : Draft) (p : BatchPoint) → AtPoint z (world s L.ghost) c (s.callers c) (point.Batch d p) → Holds z (world s L.ghost) c (is_spare d.ann)
    spare_at d p f = ⊎_elim (λ (x : Holds z (world s L.ghost) c (is_spare d.ann)). x) (λ (fresh : L.ghost.stage d.ann ≡ unused). fresh_spare z s L c d.ann (owner_at d p f) fresh) (is_chosen z s L c d p f)

    spare_behind : (x : ℕ) (b : Back) (a : ℕ) → Each z (world s L.ghost) c (back_facts c (command (s.callers c)) x b) → chosen_behind b ≡ Some a → Holds z (world s L.ghost) c (is_spare a)
    spare_behind x (back.Batch d) a f is = subst (λ (y : ℕ). Holds z (world s L.ghost) c (is_spare y)) (one_some is) (fresh_spare z s L c d.ann f.1.1.1.1.0.owner f.1.1.1.1.0.fresh)
    spare_behind x (back.Many d) a f is = subst (λ (y : Option ℕ). Holds z (world s L.ghost) c (spares y)) is f.1.1.1.1.1.0
    spare_behind x back.Own a f is = absurd (cc is)
    spare_behind x (back.Enqueue i) a f is = absurd (cc is)
    spare_behind x back.Dequeue a f is = absurd (cc is)

    spare_beside : (t : Guarding) (p : GuardPoint) (a : ℕ) → AtPoint z (world s L.ghost) c (s.callers c) (point.Guard t p) → chosen_beside t ≡ Some a → Holds z (world s L.ghost) c (is_spare a)
    spare_beside (guard.Many d) StoreHazard a f is = subst (λ (y : Option ℕ). Holds z (world s L.ghost) c (spares y)) is f.here.0
    spare_beside (guard.Many d) LoadAgain a f is = subst (λ (y : Option ℕ). Holds z (world s L.ghost) c (spares y)) is f.here.1.0
    spare_beside (guard.ManyTail d q) StoreHazard a f is = subst (λ (y : Option ℕ). Holds z (world s L.ghost) c (spares y)) is f.here.0
    spare_beside (guard.ManyTail d q) LoadAgain a f is = subst (λ (y : Option ℕ). Holds z (world s L.ghost) c (spares y)) is f.here.1.0
    spare_beside (guard.Help h) p a f is = spare_behind h.ann h.back a f.call.1 is
    spare_beside (guard.HelpTail h q) p a f is = spare_behind h.ann h.back a f.call.1 is
    spare_beside (guard.Enqueue i q) p a f is = absurd (cc is)
    spare_beside (guard.Dequeue q) p a f is = absurd (cc is)

    pub chosen_spare : (t : Point) (a : ℕ) → AtPoint z (world s L.ghost) c (s.callers c) t → chosen_by t ≡ Some a → Holds z (world s L.ghost) c (is_spare a)
    chosen_spare (point.Batch d p) a f is = subst (λ (y : ℕ). Holds z (world s L.ghost) c (is_spare y)) (one_some is) (spare_at d p f)
    chosen_spare (point.Many d p) a f is = subst (λ (y : Option ℕ). Holds z (world s L.ghost) c (spares y)) is (planned d p f) where
      planned : (d : Plan) (p : ManyPoint) → AtPoint z (world s L.ghost) c (s.callers c) (point.Many d p) → Holds z (world s L.ghost) c (spares d.ann)
      planned d many.LoadHead f = f.here.0
      planned d many.LoadDummy f = f.here.0
      planned d (many.LoadLink r l) f = f.here.0
      planned d (many.LoadValue r l) f = f.here.0
      planned d (many.LoadTail r) f = f.here.0
      planned d (many.MoveHead r) f = f.here.0
      planned d (many.LoadBehind p) f = f.here.0
      planned d (many.PassTail p n) f = f.here.0
      planned d many.LoadChained f = f.here.0
    chosen_spare (point.Help h p) a f is = spare_behind h.ann h.back a f.call.1 is
    chosen_spare Idle a f is = absurd (cc is)
    chosen_spare (point.Enqueue i p) a f is = absurd (cc is)
    chosen_spare (point.Dequeue p) a f is = absurd (cc is)
    chosen_spare (point.Fill n p) a f is = absurd (cc is)
    chosen_spare (point.Answer p) a f is = absurd (cc is)
    chosen_spare (point.Guard t p) a f is = spare_beside t p a f is
    chosen_spare (point.Take t p) a f is = absurd (cc is)
    chosen_spare (point.Close x p) a f is = absurd (cc is)

    pub none_holds : (e a : ℕ) → chosen_by (s.callers c).point ≡ Some a → HoldsAnn (s.callers e) a → ⊥
    none_holds e a is held = (chosen_spare (s.callers c).point a (known z s L c (s.callers c).point refl) is).unheld e (held_there e a held)

    pub not_given : (e : ℕ) (d : Draft) (p : BatchPoint) → (s.callers c).point ≡ point.Batch d p → HoldsAnn (s.callers e) d.ann → ⊥
    not_given e d p is held = (spare_at d p (known z s L c (point.Batch d p) is)).unheld e (held_there e d.ann held)

    -- it is the caller's own, and isn't in HEAD
    pub stored_own : (n : ℕ) (d : Draft) (p : BatchPoint) → (s.callers c).point ≡ point.Batch d p → (owner_of z d.ann ≡ c) × (s.memory.head ≢ Ann d.ann n)
    stored_own n d p is = let x = spare_at d p (known z s L c (point.Batch d p) is) in (x.owner, λ at. x.apart d.ann (ann_stands z s L c d.ann n at) refl)

    module _ (e a : ℕ) (held : HoldsAnn (s.callers e) a) where
      as_it_was : (m : Memory) → m ≡ s.memory → Untouched s.memory m a
      as_it_was m is = record { notice = ap (λ (y : Memory). y.notice a) is; old_tail = inl (ap (λ (y : Memory). y.old_tail a) is) }

      -- a word of another announcement
      stored_else : (x : ℕ) (f : AnnField) (y : Content) → x ≢ a → Untouched s.memory (write s.memory (AnnWord x f) y) a
      stored_else x field.OldTail y ne = record { notice = refl; old_tail = inl (put_else s.memory.old_tail x _ a (λ same. ne (sym same))) }
      stored_else x field.OldHead y ne = record { notice = put_else s.memory.notice x _ a (λ same. ne (sym same)); old_tail = inl refl }
      stored_else x field.First y ne = record { notice = put_else s.memory.notice x _ a (λ same. ne (sym same)); old_tail = inl refl }
      stored_else x field.Last y ne = record { notice = put_else s.memory.notice x _ a (λ same. ne (sym same)); old_tail = inl refl }
      stored_else x field.Counts y ne = record { notice = put_else s.memory.notice x _ a (λ same. ne (sym same)); old_tail = inl refl }
      stored_else x field.BatchNo y ne = record { notice = put_else s.memory.notice x _ a (λ same. ne (sym same)); old_tail = inl refl }
      stored_else x field.Order0 y ne = record { notice = put_else s.memory.notice x _ a (λ same. ne (sym same)); old_tail = inl refl }
      stored_else x field.Order1 y ne = record { notice = put_else s.memory.notice x _ a (λ same. ne (sym same)); old_tail = inl refl }
      stored_else x field.Order2 y ne = record { notice = put_else s.memory.notice x _ a (λ same. ne (sym same)); old_tail = inl refl }
      stored_else x field.Order3 y ne = record { notice = put_else s.memory.notice x _ a (λ same. ne (sym same)); old_tail = inl refl }

      -- OldTail is recorded where it isn't known
      recorded : (x : ℕ) (p : Place) (o : Option Place) → s.memory.old_tail x ≡ o → Untouched s.memory (write s.memory (AnnWord x field.OldTail) (cond (is_unknown o) (OfOldTail (Some p)) (OfOldTail o))) a
      recorded x p (Some q) is = as_it_was _ (ap (write s.memory (AnnWord x field.OldTail)) (ap OfOldTail (sym is)) ∙ write_read s.memory (AnnWord x field.OldTail))
      recorded x p None is = record { notice = refl; old_tail = put_all s.memory.old_tail x (Some p) (λ b y. (y ≡ s.memory.old_tail b) ⊎ (s.memory.old_tail b ≡ None)) (inr is) (λ b _. inl refl) a }

      left_at : (t : Point) → (s.callers c).point ≡ t → Untouched s.memory (step_at z s c t).memory a
      left_at (point.Batch x (batch.StoreField f)) is = stored_else x.ann f (field_in x.notice f) (λ same. not_given e x (batch.StoreField f) is (held ∙ ap Held (sym same)))
      left_at (point.Batch x (batch.StoreAll f)) is = stored_else x.ann f (field_in x.notice f) (λ same. not_given e x (batch.StoreAll f) is (held ∙ ap Held (sym same)))
      left_at (point.Help h help.LoadOldHead) is = as_it_was _ (write_read s.memory (AnnWord h.ann field.OldHead))
      left_at (point.Help h help.LoadFirst) is = as_it_was _ (write_read s.memory (AnnWord h.ann field.First))
      left_at (point.Help h help.LoadLast) is = as_it_was _ (write_read s.memory (AnnWord h.ann field.Last))
      left_at (point.Help h help.LoadCounts) is = as_it_was _ (write_read s.memory (AnnWord h.ann field.Counts))
      left_at (point.Help h (help.LoadOldTail p)) is = as_it_was _ (write_read s.memory (AnnWord h.ann field.OldTail))
      left_at (point.Help h (help.RecordTail p)) is = recorded h.ann p (s.memory.old_tail h.ann) refl
      left_at (point.Help h (help.Decide p)) is = recorded h.ann p (s.memory.old_tail h.ann) refl
      left_at (point.Answer (answer.LoadOldTail h)) is = as_it_was _ (write_read s.memory (AnnWord h.ann field.OldTail))
      left_at (point.Guard t LoadAgain) is = as_it_was _ (write_read s.memory (source t))
      left_at (point.Guard (guard.Help h) StoreHazard) is = record { notice = refl; old_tail = inl refl }
      left_at (point.Take t (LoadMark r l)) is = record { notice = refl; old_tail = inl refl }
      left_at (point.Close x close.ClearNode) is = record { notice = refl; old_tail = inl refl }
      left_at (point.Enqueue i enq.StoreValue) is = record { notice = refl; old_tail = inl refl }
      left_at (point.Dequeue deq.LoadHead) is = record { notice = refl; old_tail = inl refl }
      left_at (point.Fill n (fill.LoadHazard d)) is = record { notice = refl; old_tail = inl refl }
      left_at (point.Many d many.LoadHead) is = record { notice = refl; old_tail = inl refl }
      left_at _ is = record { notice = refl; old_tail = inl refl }

      -- THE law: what a caller holds no step rewrites, but for OldTail, once
      pub held_is_left : Untouched s.memory (next z s c).memory a
      unfolding next
      held_is_left = left_at (s.callers c).point refl
