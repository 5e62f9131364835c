-- Each step of a lawful lane names a word of the lane, and no count passes the limit.
use Rattle.std.proofs.Common.{◌≡◌, ℕ, suc, ◌+◌, ◌*◌, ◌-◌, ◌^◌, ◌<◌, ◌≤◌, Bool, true, false, cond, List, [], ◌∷◌, ◌++◌, length, refl, inl, inr, sym, ap, ◌∙◌, subst, arith}
use Rattle.std.proofs.lemmas.List.{append-nil}
use Rattle.bq_model.specs.declared.group.Group.{Group}
use Rattle.bq_model.specs.declared.shape.Shape.{Shape}
use Rattle.bq_model.specs.History.{operations}
use Rattle.bq_model.specs.Own.{mine}
use Rattle.word_rows.specs.declared.place.Place.{Place}
use Rattle.word_rows.specs.declared.location.AnnField.{AnnField}
use Rattle.word_rows.specs.declared.location.AnnField.TheVariants.{OldHead, OldTail}
use Rattle.lane_steps.specs.declared.point.Draft.{Draft}
use Rattle.lane_steps.specs.declared.point.Guarding.{Guarding}
use Rattle.lane_steps.specs.declared.point.Guarding.TheVariants as guard
use Rattle.lane_steps.specs.declared.point.GuardPoint.TheVariants.{StoreHazard, LoadAgain}
use Rattle.lane_steps.specs.declared.point.Point.{Point}
use Rattle.lane_steps.specs.declared.point.Point.TheVariants as point
use Rattle.lane_steps.specs.declared.point.AnswerPoint.TheVariants as answer
use Rattle.lane_steps.specs.declared.point.BatchPoint.TheVariants as batch
use Rattle.lane_steps.specs.declared.point.ClosePoint.TheVariants as close
use Rattle.lane_steps.specs.declared.point.DequeuePoint.TheVariants as deq
use Rattle.lane_steps.specs.declared.point.EnqueuePoint.TheVariants as enq
use Rattle.lane_steps.specs.declared.point.FillPoint.TheVariants as fill
use Rattle.lane_steps.specs.declared.point.HelpPoint.TheVariants as help
use Rattle.lane_steps.specs.declared.point.ManyPoint.TheVariants as many
use Rattle.lane_steps.specs.declared.point.TakePoint.TheVariants as take
use Rattle.lane_steps.specs.LaneSizes.{LaneSizes, lane_sizes}
use Rattle.excess_count.specs.Counts.{successes_of, counts_of}
use Rattle.lane_steps.specs.Batch.{field_knows, whole_knows}
use Rattle.lane_steps.specs.Batches.{owner_of}
use Rattle.lane_steps.specs.Take.{is_stopper}
use Rattle.lane_steps.specs.State.{State, own_group}
use Rattle.lane_steps.specs.Fact.{next_is, seeks}
use Rattle.lane_steps.specs.Step.{target}
use Rattle.lane_steps.specs.Ranges.{IsWord, RowsFit, CountsFit}
use Rattle.core_model.specs.Facts.{Holds, Each, AtPoint}
use Rattle.core_model.specs.Rows.{Retires}
use Rattle.core_model.specs.Lawful.{Lawful}
use Rattle.core_model.proofs.Groups.{operations_within, length-operations-push}
use Rattle.core_model.proofs.HelpWalk.{span_is}
use Rattle.core_model.proofs.Known.{caller_known}
use Rattle.core_model.proofs.Preserves.{known}
use Rattle.core_model.proofs.Rely.{third, fourth, fifth, world}
use Rattle.core_model.proofs.RowLists.{first_is_there}
use Rattle.core_model.proofs.Stocks.{ann_inside}

module _ (z : LaneSizes) (s : State) (L : Lawful z s) where
  -- what a caller has in the history is within its allowance
  own_within : (c : ℕ) → length (operations (mine s.history c)) ≤ z.allowance
  own_within c = let within = (L.callers c).allowed in by (L.ghost.linearized c) (L.callers c).own_groups within where
    by : (b : Bool) → mine s.history c ≡ (s.callers c).mine ++ cond b (own_group c (s.callers c) ∷ []) [] → length (operations (s.callers c).mine) + length (s.callers c).ops ≤ z.allowance
        → length (operations (mine s.history c)) ≤ z.allowance
    by true e within = let total = ap (λ (gs : List Group). length (operations gs)) e ∙ length-operations-push (s.callers c).mine (own_group c (s.callers c)) in omega arith
    by false e within = let total = ap (λ (gs : List Group). length (operations gs)) (e ∙ append-nil (s.callers c).mine) in omega arith

  pub all_within : length (operations s.history) ≤ z.callers * z.allowance
  all_within = operations_within z.callers z.allowance s.history L.history.proper own_within

  -- a row that a caller seeks is one of the lane
  sought : (c : ℕ) (b : Bool) (r l : ℕ) → c < z.callers → Holds z (world s L.ghost) c (seeks b r l) → r < z.rows
  sought c b r l known f = let below = f.2 in subst (λ (y : ℕ). y < z.rows) f.1 (L.sizes.inside b c f.0 known (omega arith))

  module _ (fits : z.first + z.callers * z.allowance < 2 ^ 44) where
    -- the count of a row behind which another was linked
    count_fits : (c : ℕ) (p : Place) (n : ℕ) → Holds z (world s L.ghost) c (next_is p n) → p.count + 1 < 2 ^ 44
    count_fits c p n next = let from = next.from in let inside = (next.there (p.count - z.first) (omega arith)).0 in let made = L.list.counts in let all = all_within in omega arith

    fits_at : (c : ℕ) (t : Point) → AtPoint z (world s L.ghost) c (s.callers c) t → CountsFit t
    fits_at c (point.Enqueue x (enq.PassTail p n)) f = count_fits c p n f.here.0
    fits_at c (point.Enqueue x (enq.MoveTail p n)) f = count_fits c p n f.here.0
    fits_at c (point.Dequeue (deq.PassTail p n)) f = count_fits c p n f.here.0
    fits_at c (point.Dequeue (deq.MoveHead p n v)) f = count_fits c p n f.here.0
    fits_at c (point.Many d (many.MoveHead r)) f = let seen = fourth f.here in let within = L.list.tail.within in let made = L.list.counts in let all = all_within in omega arith
    fits_at c (point.Many d (many.PassTail p n)) f = count_fits c p n f.here.1.0
    fits_at c (point.Help h (help.PassTail p n)) f = count_fits c p n f.here.0
    fits_at c (point.Help h (help.MoveTailOver q)) f = let old = f.here.0 in let within = (L.announced.bound h.ann old.position old.is_decided).within in let count = ap (λ (p : Place). p.count) (L.announced.recorded h.ann old.position q old.is_decided old.old_tail) in
        let span = span_is z s L c h q f.call.0 f.here.0 in let made = L.list.counts in let all = all_within in omega arith
    fits_at c (point.Help h (help.MoveHead m r)) f = let sum = f.here.1.0.inside in let made = L.list.counts in let all = all_within in omega arith
    fits_at c _ f = tt

    pub counts_fit : (c : ℕ) → CountsFit (s.callers c).point
    counts_fit c = fits_at c (s.callers c).point (known z s L c (s.callers c).point refl)

    -- a call counts on from the rows that it seeks, and from the places that it marks
    rows_at : z.rows ≤ 2 ^ 31 → (c : ℕ) (t : Point) → AtPoint z (world s L.ghost) c (s.callers c) t → RowsFit t
    rows_at most c (point.Take t (take.LoadMark r l)) f = let inside = sought c (is_stopper t) r l (caller_known z s L c (s.callers c) (point.Take t (take.LoadMark r l)) (λ e. cc e) f) f.here.0 in omega arith
    rows_at most c (point.Close a (close.MarkRow q read passed stopped)) f = let owe = f.here.0 in let count = owe.count in let inside = owe.inside in let made = L.list.counts in let all = all_within in omega arith
    rows_at most c _ f = tt

    pub rows_fit : z.rows ≤ 2 ^ 31 → (c : ℕ) → RowsFit (s.callers c).point
    rows_fit most c = rows_at most c (s.callers c).point (known z s L c (s.callers c).point refl)

  -- the announcement whose field is stored is the caller's
  field_owner : (c : ℕ) (d : Draft) (f : AnnField) → Holds z (world s L.ghost) c (field_knows d f) → owner_of z d.ann ≡ c
  field_owner c d OldTail k = k.owner
  field_owner c d _ k = k.owner

  whole_owner : (c : ℕ) (d : Draft) (f : AnnField) → Each z (world s L.ghost) c (whole_knows d f) → owner_of z d.ann ≡ c
  whole_owner c d OldHead k = k.0.owner
  whole_owner c d _ k = k.0.owner

  -- its own hazard word, and HEAD or TAIL
  hazard_word : (c : ℕ) (t : Guarding) → c < z.callers → IsWord z.rows z.callers (z.callers * z.callers) (target c (point.Guard t StoreHazard))
  hazard_word c (guard.Help h) inside = inside
  hazard_word c (guard.Enqueue x p) inside = inside
  hazard_word c (guard.Dequeue p) inside = inside
  hazard_word c (guard.Many d) inside = inside
  hazard_word c (guard.ManyTail d p) inside = inside
  hazard_word c (guard.HelpTail h p) inside = inside

  source_word : (c : ℕ) (t : Guarding) → IsWord z.rows z.callers (z.callers * z.callers) (target c (point.Guard t LoadAgain))
  source_word c (guard.Help h) = tt
  source_word c (guard.Enqueue x p) = tt
  source_word c (guard.Dequeue p) = tt
  source_word c (guard.Many d) = tt
  source_word c (guard.ManyTail d p) = tt
  source_word c (guard.HelpTail h p) = tt

  word_at : (c : ℕ) (t : Point) → AtPoint z (world s L.ghost) c (s.callers c) t → IsWord z.rows z.callers (z.callers * z.callers) (target c t)
  word_at c (point.Enqueue x enq.StoreValue) f = f.call.1.1.0.0.free.inside
  word_at c (point.Enqueue x (enq.LoadLink p)) f = f.here.0.inside
  word_at c (point.Enqueue x (enq.LinkSingle p)) f = f.here.0.inside
  word_at c (point.Dequeue (deq.LoadLink p)) f = f.here.0.inside
  word_at c (point.Dequeue (deq.LoadValue p n)) f = f.here.1.0.inside
  word_at c (point.Fill n (fill.StoreValue r v)) f = (fourth f.here).0.free.inside
  word_at c (point.Fill n (fill.StoreChain i r q)) f = let next = (fourth f.here).inside in subst (λ (y : ℕ). y < z.rows) (sym (fourth f.here).row) (f.here.1.0.taken i (omega arith)).free.inside
  word_at c (point.Fill n (fill.LoadHazard e)) f = (fifth f.here).0
  word_at c (point.Batch d (batch.StoreField x)) f = ann_inside z d.ann c f.call.1.0.known (field_owner c d x f.here.0)
  word_at c (point.Batch d (batch.StoreAll x)) f = ann_inside z d.ann c f.call.1.0.known (whole_owner c d x f.here.1)
  word_at c (point.Many d many.LoadDummy) f = f.here.1.0.inside
  word_at c (point.Many d (many.LoadLink r l)) f = f.here.1.0.inside
  word_at c (point.Many d (many.LoadValue r l)) f = f.here.1.0.inside
  word_at c (point.Many d (many.LoadBehind p)) f = f.here.1.0.inside
  word_at c (point.Help h help.LoadOldHead) f = f.call.0.inside
  word_at c (point.Help h help.LoadFirst) f = f.call.0.inside
  word_at c (point.Help h help.LoadLast) f = f.call.0.inside
  word_at c (point.Help h help.LoadCounts) f = f.call.0.inside
  word_at c (point.Help h (help.LoadOldTail p)) f = f.call.0.inside
  word_at c (point.Help h (help.LoadLink p)) f = f.here.0.inside
  word_at c (point.Help h (help.LinkChain p)) f = f.here.0.inside
  word_at c (point.Help h (help.Decide p)) f = f.call.0.inside
  word_at c (point.Help h (help.RecordTail p)) f = f.call.0.inside
  word_at c (point.Help h (help.LoadWalk m r l)) f = f.here.0.inside
  word_at c (point.Answer (answer.LoadOldTail h)) f = f.here.1.0.inside
  word_at c (point.Answer (answer.LoadLink b r l)) f = let rd = third f.here in let R = rd.linearized in let within = R.inside in let e = rd.left in
      let all : successes_of (s.memory.notice rd.ann).counts (rd.position - R.dummy) ≡ successes_of (counts_of (s.callers c).ops) b.queued = (λ k. successes_of (R.counts k) (sym rd.queued k)) in
      subst (λ (y : ℕ). y < z.rows) rd.last_row (L.list.rows.inside (R.dummy + rd.read) (omega arith))
  word_at c (point.Answer (answer.LoadValue b r l)) f = let rd = third f.here in let R = rd.linearized in let within = R.inside in let e = rd.left in
      let all : successes_of (s.memory.notice rd.ann).counts (rd.position - R.dummy) ≡ successes_of (counts_of (s.callers c).ops) b.queued = (λ k. successes_of (R.counts k) (sym rd.queued k)) in
      subst (λ (y : ℕ). y < z.rows) rd.next_row (L.list.rows.inside (suc (R.dummy + rd.read)) (omega arith))
  word_at c (point.Take t (take.LoadMark r l)) f = sought c (is_stopper t) r l (caller_known z s L c (s.callers c) (point.Take t (take.LoadMark r l)) (λ e. cc e) f) f.here.0
  word_at c (point.Take t (take.ClearMark r)) f = f.here.0.0.inside
  word_at c (point.Take t (take.ClearLink r)) f = f.here.0.free.inside
  word_at c (point.Guard t StoreHazard) f = hazard_word c t (caller_known z s L c (s.callers c) (point.Guard t StoreHazard) (λ e. cc e) f)
  word_at c (point.Guard t LoadAgain) f = source_word c t
  word_at c (point.Close a (close.MarkRow q read passed stopped)) f = let owe = f.here.0 in let inside = owe.inside in subst (λ (y : ℕ). y < z.rows) owe.row (L.list.rows.inside owe.position (omega arith))
  word_at c (point.Close a (close.MarkLoose r)) f = f.here.0.inside
  word_at c (point.Close a close.ClearNode) f = caller_known z s L c (s.callers c) (point.Close a close.ClearNode) (λ e. cc e) f
  word_at c (point.Close a close.ClearAnn) f = caller_known z s L c (s.callers c) (point.Close a close.ClearAnn) (λ e. cc e) f
  word_at c (point.Close a (close.LoadHazard d)) f = third f.here
  word_at c (point.Close a (close.MarkFree r)) f = by ((L.callers c).knows.retired.each r (first_is_there (s.callers c).named (s.callers c).retired r f.here.1.0).0) where
    by : Retires z (world s L.ghost) c r → r < z.rows
    by (inl (i, x)) = let there = L.list.rows.placed r i x.spot in subst (λ (y : ℕ). y < z.rows) there.1 (L.list.rows.inside i there.0)
    by (inr l) = l.inside
  word_at c _ f = tt

  pub is_word : (c : ℕ) → IsWord z.rows z.callers (z.callers * z.callers) (target c (s.callers c).point)
  is_word c = word_at c (s.callers c).point (known z s L c (s.callers c).point refl)

-- a shape's counts fit
pub shape_fits : (z : Shape) → (lane_sizes z).first + (lane_sizes z).callers * (lane_sizes z).allowance < 2 ^ 44
shape_fits z = z.counts_fit
