-- What a caller expects of its words goes on to be there, or the rank is greater, whoever makes a step.
use Rattle.std.proofs.Common.{◌≡◌, ◌≢◌, ◌⊎◌, inl, inr, ⊎_elim, ℕ, ◌<◌, ◌≤◌, eqb, Bool, true, false, List, [], ◌∷◌, sym, refl, ap, ◌∙◌, subst, arith, None}
use Rattle.word_rows.specs.declared.place.Place.{Place}
use Rattle.word_rows.specs.declared.location.AnnField.{AnnField}
use Rattle.word_rows.specs.declared.location.AnnField.TheVariants as field
use Rattle.word_rows.specs.declared.location.Location.TheVariants.{Head, Tail, Link, AnnWord}
use Rattle.word_rows.specs.declared.content.Content.TheVariants.{OfHead, OfTail, OfLink, OfOldTail}
use Rattle.lane_steps.specs.declared.point.BatchPoint.{BatchPoint}
use Rattle.lane_steps.specs.declared.point.BatchPoint.TheVariants as batch
use Rattle.lane_steps.specs.declared.point.DequeuePoint.{DequeuePoint}
use Rattle.lane_steps.specs.declared.point.DequeuePoint.TheVariants as deq
use Rattle.lane_steps.specs.declared.point.Draft.{Draft}
use Rattle.lane_steps.specs.declared.point.EnqueuePoint.{EnqueuePoint}
use Rattle.lane_steps.specs.declared.point.EnqueuePoint.TheVariants as enq
use Rattle.lane_steps.specs.declared.point.FillPoint.{FillPoint}
use Rattle.lane_steps.specs.declared.point.FillPoint.TheVariants as fill
use Rattle.lane_steps.specs.declared.point.Guarding.{Guarding}
use Rattle.lane_steps.specs.declared.point.Guarding.TheVariants as guard
use Rattle.lane_steps.specs.declared.point.Help.{Help}
use Rattle.lane_steps.specs.declared.point.HelpPoint.{HelpPoint}
use Rattle.lane_steps.specs.declared.point.HelpPoint.TheVariants as help
use Rattle.lane_steps.specs.declared.point.Item.{Item}
use Rattle.lane_steps.specs.declared.point.ManyPoint.{ManyPoint}
use Rattle.lane_steps.specs.declared.point.ManyPoint.TheVariants as many
use Rattle.lane_steps.specs.declared.point.Notice.{Notice}
use Rattle.lane_steps.specs.declared.point.Plan.{Plan}
use Rattle.lane_steps.specs.declared.point.Point.{Point}
use Rattle.lane_steps.specs.declared.point.Point.TheVariants as point
use Rattle.lane_steps.specs.declared.point.Taking.{Taking}
use Rattle.lane_steps.specs.declared.point.Taking.TheVariants as taking
use Rattle.lane_steps.specs.Batches.{owner_of}
use Rattle.lane_steps.specs.LaneSizes.{LaneSizes}
use Rattle.lane_steps.specs.State.{State}
use Rattle.lane_steps.specs.Fact.{linked, reads}
use Rattle.lane_steps.specs.Step.{next}
use Rattle.core_model.specs.Chosen.{IsSpare}
use Rattle.core_model.specs.Facts.{Holds, AtPoint}
use Rattle.core_model.specs.Ghost.{unused}
use Rattle.core_model.specs.Lawful.{Lawful}
use Rattle.core_model.proofs.Preserves.{known}
use Rattle.core_model.proofs.Rely.{world, some_none}
use Rattle.lane_rank.specs.Rank.{rank, Rests, Climbs, Writes}
use Rattle.lane_rank.specs.Expected.{Expected, has, chain_ahead, link_ahead, IsThere, AllThere, Keeps, outer, inner, outer_enqueue, outer_dequeue, outer_scan, outer_fill, outer_field, outer_batch, outer_many, outer_take, outer_guard, inner_guard, inner_help}
use Rattle.lane_rank.proofs.Frames.{climbs}

module _ (z : LaneSizes) (s : State) (L : Lawful z s) where
  -- TAIL's row has a position
  pub tail_placed : L.ghost.spot s.memory.tail.row ≡ None → ⊥
  tail_placed none = let within = L.list.tail.within in let from = L.list.tail.after_head in
      some_none (sym (L.list.rows.spots L.ghost.tail from (omega arith)) ∙ (ap (λ (p : Place). L.ghost.spot p.row) (sym L.list.tail.named) ∙ none))

  -- so has the row of a linked place
  pub linked_spot : (c : ℕ) (p : Place) → Holds z (world s L.ghost) c (linked p) → L.ghost.spot p.row ≡ None → ⊥
  linked_spot c p on e = some_none (sym on.on.spot ∙ e)

  pub rank_up : (t : Point) (s' : State) → Climbs t L.ghost s s' → rank s ≤ rank s'
  rank_up t s' (inl up) = omega arith
  rank_up t s' (inr (same, _)) = omega arith

  -- for a step at the point t
  module _ (t : Point) where
    -- the row of which it is expected has a position, and the step doesn't write the announcement
    abbrev pub Safe : Expected → Type 0
    Safe (has Head x) = Unit {0}
    Safe (has Tail x) = Unit {0}
    Safe (has (Link r) x) = L.ghost.spot r ≡ None → ⊥
    Safe (has (AnnWord a field.OldTail) x) = Writes t a → ⊥
    Safe (has _ x) = ⊥
    Safe chain_ahead = Unit {0}
    Safe link_ahead = Unit {0}

    abbrev pub AllSafe : List Expected → Type 0
    AllSafe [] = Unit {0}
    AllSafe (e ∷ es) = Safe e × AllSafe es

    -- so it is of what a second load expects
    pub guard_safe : (g : Guarding) → AllSafe (outer_guard g)
    guard_safe (guard.Enqueue x p) = (tt, tt)
    guard_safe (guard.Dequeue p) = (tt, tt)
    guard_safe (guard.Many d) = (tt, tt)
    guard_safe (guard.ManyTail d p) = (tt, (tt, tt))
    guard_safe (guard.Help h) = (tt, tt)
    guard_safe (guard.HelpTail h p) = (tt, tt)

    pub guard_safe_in : (g : Guarding) → AllSafe (inner_guard g)
    guard_safe_in (guard.HelpTail h p) = (tt, tt)
    guard_safe_in _ = tt

    module _ (s' : State) where
      rests_there : (e : Expected) → Safe e → Rests t L.ghost s.memory s'.memory → IsThere s.memory e → IsThere s'.memory e
      rests_there (has Head x) _ R there = ap OfHead R.head ∙ there
      rests_there (has Tail x) _ R there = ap OfTail R.tail ∙ there
      rests_there (has (Link r) x) safe R there = ap OfLink (R.links r safe) ∙ there
      rests_there (has (AnnWord a field.OldTail) x) safe R there = ap OfOldTail (R.old_tails a safe) ∙ there
      rests_there (has _ x) safe R there = absurd safe
      rests_there chain_ahead _ R there = (there.0, ap (λ (q : Place). s'.memory.link q.row) R.tail ∙ (R.links s.memory.tail.row tail_placed ∙ there.1))
      rests_there link_ahead _ R there = λ e. there (sym (ap (λ (q : Place). s'.memory.link q.row) R.tail ∙ R.links s.memory.tail.row tail_placed) ∙ e)

      module _ (up : Climbs t L.ghost s s') (kept : ℕ) (past : kept ≤ rank s) where
        pub still : (e : Expected) → Safe e → (IsThere s.memory e) ⊎ (kept < rank s) → (IsThere s'.memory e) ⊎ (kept < rank s')
        still e safe x = by up x where
          by : Climbs t L.ghost s s' → (IsThere s.memory e) ⊎ (kept < rank s) → (IsThere s'.memory e) ⊎ (kept < rank s')
          by (inl up) x = inr (omega arith)
          by (inr (same, R)) (inl x) = inl (rests_there e safe R x)
          by (inr (same, R)) (inr x) = inr (omega arith)

        pub all_still : (es : List Expected) → AllSafe es → AllThere s kept es → AllThere s' kept es
        all_still [] safe x = tt
        all_still (e ∷ es) safe x = (still e safe.0 x.0, all_still es safe.1 x.1)

  -- THE frame of what is kept: a step of another caller d leaves what caller c expects there, or raises the rank
  module _ (c d : ℕ) (other : d ≢ c) (u : Point) (at_u : (s.callers d).point ≡ u) where
    -- an announcement that d's step writes isn't installed, or nobody holds it
    unwritten : (v : Point) → (s.callers d).point ≡ v → (a : ℕ) → Writes v a → (L.ghost.stage a ≡ unused) ⊎ IsSpare z L.ghost.ann L.ghost.held d a
    unwritten (point.Batch x p) is a w = subst (λ (y : ℕ). (L.ghost.stage y ≡ unused) ⊎ IsSpare z L.ghost.ann L.ghost.held d y) (sym w) (by p (known z s L d (point.Batch x p) is)) where
      by : (p : BatchPoint) → AtPoint z (world s L.ghost) d (s.callers d) (point.Batch x p) → (L.ghost.stage x.ann ≡ unused) ⊎ IsSpare z L.ghost.ann L.ghost.held d x.ann
      by (batch.StoreField field.OldTail) f = inr f.here.0
      by (batch.StoreField field.OldHead) f = inl f.here.0.fresh
      by (batch.StoreField field.First) f = inl f.here.0.fresh
      by (batch.StoreField field.Last) f = inl f.here.0.fresh
      by (batch.StoreField field.Counts) f = inl f.here.0.fresh
      by (batch.StoreField field.BatchNo) f = inl f.here.0.fresh
      by (batch.StoreField field.Order0) f = inl f.here.0.fresh
      by (batch.StoreField field.Order1) f = inl f.here.0.fresh
      by (batch.StoreField field.Order2) f = inl f.here.0.fresh
      by (batch.StoreField field.Order3) f = inl f.here.0.fresh
      by (batch.StoreAll field.OldHead) f = inr f.here.1.0
      by (batch.StoreAll field.OldTail) f = inl f.here.1.0.fresh
      by (batch.StoreAll field.First) f = inl f.here.1.0.fresh
      by (batch.StoreAll field.Last) f = inl f.here.1.0.fresh
      by (batch.StoreAll field.Counts) f = inl f.here.1.0.fresh
      by (batch.StoreAll field.BatchNo) f = inl f.here.1.0.fresh
      by (batch.StoreAll field.Order0) f = inl f.here.1.0.fresh
      by (batch.StoreAll field.Order1) f = inl f.here.1.0.fresh
      by (batch.StoreAll field.Order2) f = inl f.here.1.0.fresh
      by (batch.StoreAll field.Order3) f = inl f.here.1.0.fresh
      by batch.LoadHead f = inl f.here.0.fresh
      by batch.Install f = inl f.here.0.fresh
    unwritten _ is a w = absurd w

    -- so it isn't one that c helps
    apart : (n : ℕ) (h : Help) → Holds z (world s L.ghost) c (reads n h) → Writes u h.ann → ⊥
    apart n h r w = ⊎_elim r.installed (λ (spare : IsSpare z L.ghost.ann L.ghost.held d h.ann). ⊎_elim (spare.unheld c) (λ (own : owner_of z h.ann ≡ c). other (sym spare.owner ∙ own)) r.kept) (unwritten u at_u h.ann w)

    f : (t : Point) → (s.callers c).point ≡ t → AtPoint z (world s L.ghost) c (s.callers c) t
    f t is = known z s L c t is

    safe_enqueue : (x : Item) (p : EnqueuePoint) → (s.callers c).point ≡ point.Enqueue x p → AllSafe u (outer_enqueue p)
    safe_enqueue x enq.StoreValue is = tt
    safe_enqueue x enq.LoadTail is = tt
    safe_enqueue x (enq.LoadLink p) is = (tt, tt)
    safe_enqueue x (enq.LinkSingle p) is = (linked_spot c p (f (point.Enqueue x (enq.LinkSingle p)) is).here.0, (tt, tt))
    safe_enqueue x (enq.PassTail p n) is = (tt, tt)
    safe_enqueue x (enq.MoveTail p n) is = (tt, tt)
    safe_enqueue x enq.LoadHead is = (tt, tt)

    safe_dequeue : (p : DequeuePoint) → (s.callers c).point ≡ point.Dequeue p → AllSafe u (outer_dequeue p)
    safe_dequeue deq.LoadHead is = tt
    safe_dequeue (deq.LoadLink p) is = (tt, tt)
    safe_dequeue (deq.LoadTail p n) is = (tt, tt)
    safe_dequeue (deq.LoadTailOver p n) is = (tt, (linked_spot c p (f (point.Dequeue (deq.LoadTailOver p n)) is).here.0, tt))
    safe_dequeue (deq.PassTail p n) is = (tt, tt)
    safe_dequeue (deq.LoadValue p n) is = (tt, tt)
    safe_dequeue (deq.MoveHead p n v) is = (tt, tt)

    safe_scan : (b : Bool) (n : Notice) → AllSafe u (outer_scan b n)
    safe_scan true n = (tt, tt)
    safe_scan false n = tt

    safe_fill : (n : Notice) (p : FillPoint) → AllSafe u (outer_fill n p)
    safe_fill n (fill.LoadHazard e) = safe_scan (eqb n.counts.enqs 0) n
    safe_fill n (fill.StoreValue r v) = tt
    safe_fill n (fill.StoreChain j r q) = tt

    safe_field : (x : Draft) (g : AnnField) → AllSafe u (outer_field x g)
    safe_field x field.OldHead = (tt, tt)
    safe_field x _ = tt

    safe_batch : (x : Draft) (p : BatchPoint) → AllSafe u (outer_batch x p)
    safe_batch x (batch.StoreField g) = safe_field x g
    safe_batch x (batch.StoreAll g) = (tt, tt)
    safe_batch x batch.LoadHead = tt
    safe_batch x batch.Install = (tt, tt)

    safe_many : (x : Plan) (p : ManyPoint) → AllSafe u (outer_many x p)
    safe_many x many.LoadHead = tt
    safe_many x (many.LoadBehind p) = (tt, (tt, tt))
    safe_many x (many.PassTail p n) = (tt, tt)
    safe_many x many.LoadChained = (tt, tt)
    safe_many x _ = (tt, tt)

    safe_take : (x : Taking) → AllSafe u (outer_take x)
    safe_take (taking.Stopper n) = (tt, tt)
    safe_take _ = tt

    safe_outer : (t : Point) → (s.callers c).point ≡ t → AllSafe u (outer t)
    safe_outer point.Idle is = tt
    safe_outer (point.Take x p) is = safe_take x
    safe_outer (point.Guard g p) is = guard_safe u g
    safe_outer (point.Enqueue x p) is = safe_enqueue x p is
    safe_outer (point.Dequeue p) is = safe_dequeue p is
    safe_outer (point.Fill n p) is = safe_fill n p
    safe_outer (point.Batch x p) is = safe_batch x p
    safe_outer (point.Many x p) is = safe_many x p
    safe_outer (point.Help h p) is = (tt, tt)
    safe_outer (point.Answer p) is = tt
    safe_outer (point.Close a p) is = tt

    safe_help : (h : Help) (p : HelpPoint) → (s.callers c).point ≡ point.Help h p → AllSafe u (inner_help h p)
    safe_help h (help.LoadOldTail p) is = (tt, tt)
    safe_help h (help.LoadLink p) is = (tt, (tt, (apart 4 h (f (point.Help h (help.LoadLink p)) is).call.0, tt)))
    safe_help h (help.LinkChain p) is = (linked_spot c p (f (point.Help h (help.LinkChain p)) is).here.0, tt)
    safe_help h (help.Decide p) is = (apart 4 h (f (point.Help h (help.Decide p)) is).call.0, tt)
    safe_help h (help.PassTail p n) is = (tt, tt)
    safe_help h (help.RecordTail p) is = (apart 4 h (f (point.Help h (help.RecordTail p)) is).call.0, tt)
    safe_help h (help.MoveTailOver q) is = (tt, tt)
    safe_help h _ is = tt

    safe_inner : (t : Point) → (s.callers c).point ≡ t → AllSafe u (inner t)
    safe_inner (point.Guard g p) is = guard_safe_in u g
    safe_inner (point.Help h p) is = safe_help h p is
    safe_inner _ is = tt

    keeps_with : (s' : State) → Climbs u L.ghost s s' → (o i : ℕ) → Keeps s (s.callers c).point o i → Keeps s' (s.callers c).point o i
    keeps_with s' up o i K = let more = rank_up u s' up in let old = K.outer_past in let old' = K.inner_past in record {
      outer_there = all_still u s' up o K.outer_past (outer (s.callers c).point) (safe_outer (s.callers c).point refl) K.outer_there;
      inner_there = all_still u s' up i K.inner_past (inner (s.callers c).point) (safe_inner (s.callers c).point refl) K.inner_there;
      outer_past = omega arith;
      inner_past = omega arith;
    }

  pub keeps_over : (c d : ℕ) → d ≢ c → (o i : ℕ) → Keeps s (s.callers c).point o i → Keeps (next z s d) (s.callers c).point o i
  keeps_over c d other o i K = keeps_with c d other (s.callers d).point refl (next z s d) (climbs z s L d) o i K
