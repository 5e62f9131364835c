-- Each step of each caller raises the rank, or leaves what callers share.
use Rattle.std.proofs.Common.{◌≡◌, inl, inr, ℕ, ◌<◌, eqb, Bool, true, false, cond, sym, refl, ap, ◌∙◌, subst, arith, Option, Some, None}
use Rattle.std.proofs.lemmas.Bool.{and_parts, eqb-true}
use Rattle.word_rows.specs.declared.place.Place.{Place}
use Rattle.word_rows.specs.declared.head_word.HeadWord.{HeadWord}
use Rattle.word_rows.specs.declared.head_word.HeadWord.TheVariants.{Node, Ann}
use Rattle.word_rows.specs.declared.link_word.LinkWord.TheVariants.{Nil, Single, Chain}
use Rattle.word_rows.specs.declared.location.AnnField.{AnnField}
use Rattle.word_rows.specs.declared.location.AnnField.TheVariants as field
use Rattle.word_rows.specs.declared.location.Location.TheVariants.{Head, Tail, Link, AnnWord}
use Rattle.word_rows.specs.declared.content.Content.{Content}
use Rattle.word_rows.specs.declared.content.Content.TheVariants.{OfHead, OfTail, OfLink, OfOldTail}
use Rattle.lane_steps.specs.declared.point.Item.{Item}
use Rattle.lane_steps.specs.declared.point.Notice.{Notice}
use Rattle.lane_steps.specs.declared.point.Draft.{Draft}
use Rattle.lane_steps.specs.declared.point.Plan.{Plan}
use Rattle.lane_steps.specs.declared.point.Help.{Help}
use Rattle.lane_steps.specs.declared.point.Closing.{Closing}
use Rattle.lane_steps.specs.declared.point.Taking.{Taking}
use Rattle.lane_steps.specs.declared.point.TakePoint.{TakePoint}
use Rattle.lane_steps.specs.declared.point.TakePoint.TheVariants as take
use Rattle.lane_steps.specs.declared.point.Guarding.{Guarding}
use Rattle.lane_steps.specs.declared.point.Guarding.TheVariants as guard
use Rattle.lane_steps.specs.declared.point.GuardPoint.{GuardPoint}
use Rattle.lane_steps.specs.declared.point.GuardPoint.TheVariants.{StoreHazard, LoadAgain}
use Rattle.lane_steps.specs.declared.point.EnqueuePoint.{EnqueuePoint}
use Rattle.lane_steps.specs.declared.point.EnqueuePoint.TheVariants as enq
use Rattle.lane_steps.specs.declared.point.DequeuePoint.{DequeuePoint}
use Rattle.lane_steps.specs.declared.point.DequeuePoint.TheVariants as deq
use Rattle.lane_steps.specs.declared.point.FillPoint.{FillPoint}
use Rattle.lane_steps.specs.declared.point.FillPoint.TheVariants as fill
use Rattle.lane_steps.specs.declared.point.BatchPoint.{BatchPoint}
use Rattle.lane_steps.specs.declared.point.BatchPoint.TheVariants as batch
use Rattle.lane_steps.specs.declared.point.ManyPoint.{ManyPoint}
use Rattle.lane_steps.specs.declared.point.ManyPoint.TheVariants as many
use Rattle.lane_steps.specs.declared.point.HelpPoint.{HelpPoint}
use Rattle.lane_steps.specs.declared.point.HelpPoint.TheVariants as help
use Rattle.lane_steps.specs.declared.point.AnswerPoint.{AnswerPoint}
use Rattle.lane_steps.specs.declared.point.AnswerPoint.TheVariants as answer
use Rattle.lane_steps.specs.declared.point.ClosePoint.{ClosePoint}
use Rattle.lane_steps.specs.declared.point.ClosePoint.TheVariants as close
use Rattle.lane_steps.specs.declared.point.Point.{Point}
use Rattle.lane_steps.specs.declared.point.Point.TheVariants as point
use Rattle.lane_steps.specs.Act.{same_place, is_node, is_ann, is_nil, is_unknown, behind, far_behind}
use Rattle.lane_steps.specs.Fact.{next_is, by_single, reads, old_tail_is, has_links, is_old_tail, tail_over}
use Rattle.lane_steps.specs.Functions.{put}
use Rattle.lane_steps.specs.Guard.{hazard, named}
use Rattle.lane_steps.specs.Help.{before_it}
use Rattle.lane_steps.specs.LaneSizes.{LaneSizes}
use Rattle.lane_steps.specs.Notices.{field_in}
use Rattle.lane_steps.specs.State.{Memory, State, write, write_field, link_in, old_tail_in}
use Rattle.lane_steps.specs.Step.{step_at, next}
use Rattle.lane_steps.specs.Stopper.{linked_rows}
use Rattle.core_model.specs.Facts.{Holds}
use Rattle.core_model.specs.Lawful.{Lawful}
use Rattle.core_model.proofs.Holdings.{stored_own}
use Rattle.core_model.proofs.Preserves.{known}
use Rattle.core_model.proofs.Puts.{put_else, put_same}
use Rattle.core_model.proofs.Rely.{world}
use Rattle.core_model.proofs.Standings.{stands_there}
use Rattle.core_model.proofs.StoredAgain.{same_places}
use Rattle.lane_rank.specs.Rank.{stage_of, Writes, Rests, ClimbsTo, Climbs}
use Rattle.lane_rank.proofs.Ranks.{rests_rank, all_rest}
use Rattle.lane_rank.proofs.Climbing.{rests_at, leaves_at, lands_at}
use Rattle.lane_rank.proofs.Rises.{tail_rises, install_rises, leaving_rises, record_rises, over_rises}

-- Writes no announcement that stands, at a point that writes none.
abbrev Aside : State → Point → Type 0
Aside s t = (a n : ℕ) → s.memory.head ≡ Ann a n → Writes t a → ⊥

module _ (z : LaneSizes) (s : State) (L : Lawful z s) (c : ℕ) where
  module _ (t : Point) where
    rises : (m : Memory) → stage_of s.memory < stage_of m → ClimbsTo t L.ghost s m s.history
    rises m up = inl (omega arith)

    module _ (aside : Aside s t) where
      stands_still : ClimbsTo t L.ghost s s.memory s.history
      stands_still = inr (rests_rank z s L t aside s.memory (all_rest z s L t), all_rest z s L t)

      tail_climbs : (p : Place) (n : ℕ) → Holds z (world s L.ghost) c (next_is p n) → Holds z (world s L.ghost) c (by_single p) → (b : Bool) → same_place s.memory.tail p ≡ b
          → ClimbsTo t L.ghost s (write s.memory Tail (cond b (OfTail (behind p n)) (OfTail s.memory.tail))) s.history
      tail_climbs p n next single true is = rises (record s.memory { tail = behind p n }) (tail_rises z s L c p n next single (same_places s.memory.tail p is))
      tail_climbs p n next single false is = stands_still

      over_climbs : (h : Help) (q : Place) → Holds z (world s L.ghost) c (reads 4 h) → Holds z (world s L.ghost) c (old_tail_is h.ann q) → Holds z (world s L.ghost) c (has_links h q) → (b : Bool) → same_place s.memory.tail q ≡ b
          → ClimbsTo t L.ghost s (write s.memory Tail (cond b (OfTail (far_behind q h.last (linked_rows h.counts (before_it h q)))) (OfTail s.memory.tail))) s.history
      over_climbs h q reading old links true is = rises (record s.memory { tail = far_behind q h.last (linked_rows h.counts (before_it h q)) }) (over_rises z s L c h q reading old links (same_places s.memory.tail q is))
      over_climbs h q reading old links false is = stands_still

      -- an exchange of HEAD that finds w
      install_climbs : (d : Draft) (w : HeadWord) → s.memory.head ≡ w → (b : Bool) → is_node w d.notice.old_head ≡ b → s.memory.old_tail d.ann ≡ None
          → ClimbsTo t L.ghost s (write s.memory Head (cond b (OfHead (Ann d.ann d.notice.old_head.count)) (OfHead w))) s.history
      install_climbs d w at_w false e none = subst (λ (x : HeadWord). ClimbsTo t L.ghost s (record s.memory { head = x }) s.history) at_w stands_still
      install_climbs d (Node p) at_w true e none = rises (record s.memory { head = Ann d.ann d.notice.old_head.count }) (install_rises z s L p d.ann d.notice.old_head.count at_w none)
      install_climbs d (Ann a n) at_w true e none = absurd (cc e)

      leaving_climbs : (h : Help) (m r : ℕ) (w : HeadWord) → s.memory.head ≡ w → (b : Bool) → is_ann w h.ann h.old_head.count ≡ b → Holds z (world s L.ghost) c (tail_over h.ann)
          → ClimbsTo t L.ghost s (write s.memory Head (cond b (OfHead (Node (far_behind h.old_head r m))) (OfHead w))) s.history
      leaving_climbs h m r w at_w false e over = subst (λ (x : HeadWord). ClimbsTo t L.ghost s (record s.memory { head = x }) s.history) at_w stands_still
      leaving_climbs h m r (Node p) at_w true e over = absurd (cc e)
      leaving_climbs h m r (Ann a n) at_w true e over = let both = and_parts (eqb a h.ann) (eqb n h.old_head.count) e in let is = at_w ∙ ap (λ (b : ℕ). Ann b n) (eqb-true a h.ann both.0) in
          rises (record s.memory { head = Node (far_behind h.old_head r m) })
          (leaving_rises z s L h.ann over.position n over.known.0 (far_behind h.old_head r m) over.is_decided is over.known.1 (over.past (stands_there z s L h.ann n is)))

      record_climbs : (h : Help) (p : Place) (x : Option Place) → s.memory.old_tail h.ann ≡ x → Holds z (world s L.ghost) c (is_old_tail h.ann p)
          → ClimbsTo t L.ghost s (write s.memory (AnnWord h.ann field.OldTail) (cond (is_unknown x) (OfOldTail (Some p)) (OfOldTail x))) s.history
      record_climbs h p None at_x old = rises (record s.memory { old_tail = put s.memory.old_tail h.ann (Some p) }) (record_rises z s L c h.ann p old at_x)
      record_climbs h p (Some q) at_x old = subst (λ (x : Option Place). ClimbsTo t L.ghost s (record s.memory { old_tail = put s.memory.old_tail h.ann x }) s.history) at_x
          (subst (λ (o : ℕ → Option Place). ClimbsTo t L.ghost s (record s.memory { old_tail = o }) s.history) (sym (put_same s.memory.old_tail h.ann)) stands_still)

    -- a store into the link of a row without a position
    link_rests : (r : ℕ) (x : Content) → L.ghost.spot r ≡ None → Rests t L.ghost s.memory (write s.memory (Link r) x)
    link_rests r x none = record {
      head = refl;
      tail = refl;
      links = λ q linked. put_else s.memory.link r (link_in x) q (λ e. linked (ap L.ghost.spot e ∙ none));
      old_tails = λ _ _. refl;
    }

    -- a store into a field of an announcement that the step writes
    field_rests : (a : ℕ) (f : AnnField) (x : Content) → ((y : ℕ) → y ≡ a → Writes t y) → Rests t L.ghost s.memory (write_field s.memory a f x)
    field_rests a field.OldTail x writes = record { head = refl; tail = refl; links = λ _ _. refl; old_tails = λ y other. put_else s.memory.old_tail a (old_tail_in x) y (λ e. other (writes y e)) }
    field_rests a field.OldHead x writes = record { head = refl; tail = refl; links = λ _ _. refl; old_tails = λ _ _. refl }
    field_rests a field.First x writes = record { head = refl; tail = refl; links = λ _ _. refl; old_tails = λ _ _. refl }
    field_rests a field.Last x writes = record { head = refl; tail = refl; links = λ _ _. refl; old_tails = λ _ _. refl }
    field_rests a field.Counts x writes = record { head = refl; tail = refl; links = λ _ _. refl; old_tails = λ _ _. refl }
    field_rests a field.BatchNo x writes = record { head = refl; tail = refl; links = λ _ _. refl; old_tails = λ _ _. refl }
    field_rests a field.Order0 x writes = record { head = refl; tail = refl; links = λ _ _. refl; old_tails = λ _ _. refl }
    field_rests a field.Order1 x writes = record { head = refl; tail = refl; links = λ _ _. refl; old_tails = λ _ _. refl }
    field_rests a field.Order2 x writes = record { head = refl; tail = refl; links = λ _ _. refl; old_tails = λ _ _. refl }
    field_rests a field.Order3 x writes = record { head = refl; tail = refl; links = λ _ _. refl; old_tails = λ _ _. refl }

  climbs_enqueue : (x : Item) (p : EnqueuePoint) → (s.callers c).point ≡ point.Enqueue x p → Climbs (point.Enqueue x p) L.ghost s (step_at z s c (point.Enqueue x p))
  climbs_enqueue x enq.StoreValue is = rests_at z s L c (point.Enqueue x enq.StoreValue) (λ _ _ _ w. w) false refl refl (record { head = refl; tail = refl; links = λ _ _. refl; old_tails = λ _ _. refl })
  climbs_enqueue x enq.LoadTail is = leaves_at z s L c (point.Enqueue x enq.LoadTail) (λ _ _ _ w. w) refl refl
  climbs_enqueue x (enq.LoadLink p) is = leaves_at z s L c (point.Enqueue x (enq.LoadLink p)) (λ _ _ _ w. w) refl refl
  climbs_enqueue x (enq.LinkSingle p) is = lands_at z s L c (point.Enqueue x (enq.LinkSingle p)) (λ _ _ _ w. w) is (is_nil (s.memory.link p.row)) refl
      (λ e. ap (λ (b : Bool). cond b (OfLink (Single x.row)) (OfLink (s.memory.link p.row))) e)
  climbs_enqueue x (enq.PassTail p n) is = let f = known z s L c (point.Enqueue x (enq.PassTail p n)) is in tail_climbs (point.Enqueue x (enq.PassTail p n)) (λ _ _ _ w. w) p n f.here.0 f.here.1.0 (same_place s.memory.tail p) refl
  climbs_enqueue x (enq.MoveTail p n) is = let f = known z s L c (point.Enqueue x (enq.MoveTail p n)) is in tail_climbs (point.Enqueue x (enq.MoveTail p n)) (λ _ _ _ w. w) p n f.here.0 f.here.1.0 (same_place s.memory.tail p) refl
  climbs_enqueue x enq.LoadHead is = leaves_at z s L c (point.Enqueue x enq.LoadHead) (λ _ _ _ w. w) refl refl

  climbs_dequeue : (p : DequeuePoint) → (s.callers c).point ≡ point.Dequeue p → Climbs (point.Dequeue p) L.ghost s (step_at z s c (point.Dequeue p))
  climbs_dequeue deq.LoadHead is = leaves_at z s L c (point.Dequeue deq.LoadHead) (λ _ _ _ w. w) refl refl
  climbs_dequeue (deq.LoadLink p) is = lands_at z s L c (point.Dequeue (deq.LoadLink p)) (λ _ _ _ w. w) is (is_nil (s.memory.link p.row)) refl (λ _. refl)
  climbs_dequeue (deq.LoadTail p n) is = leaves_at z s L c (point.Dequeue (deq.LoadTail p n)) (λ _ _ _ w. w) refl refl
  climbs_dequeue (deq.LoadTailOver p n) is = leaves_at z s L c (point.Dequeue (deq.LoadTailOver p n)) (λ _ _ _ w. w) refl refl
  climbs_dequeue (deq.PassTail p n) is = let f = known z s L c (point.Dequeue (deq.PassTail p n)) is in tail_climbs (point.Dequeue (deq.PassTail p n)) (λ _ _ _ w. w) p n f.here.0 f.here.1.0 (same_place s.memory.tail p) refl
  climbs_dequeue (deq.LoadValue p n) is = leaves_at z s L c (point.Dequeue (deq.LoadValue p n)) (λ _ _ _ w. w) refl refl
  climbs_dequeue (deq.MoveHead p n v) is = lands_at z s L c (point.Dequeue (deq.MoveHead p n v)) (λ _ _ _ w. w) is (is_node s.memory.head p) refl
      (λ e. ap (λ (b : Bool). cond b (OfHead (Node (behind p n))) (OfHead s.memory.head)) e)

  climbs_take : (u : Taking) (p : TakePoint) → (s.callers c).point ≡ point.Take u p → Climbs (point.Take u p) L.ghost s (step_at z s c (point.Take u p))
  climbs_take u (take.LoadMark r l) is = leaves_at z s L c (point.Take u (take.LoadMark r l)) (λ _ _ _ w. w) refl refl
  climbs_take u (take.ClearMark r) is = rests_at z s L c (point.Take u (take.ClearMark r)) (λ _ _ _ w. w) false refl refl (record { head = refl; tail = refl; links = λ _ _. refl; old_tails = λ _ _. refl })
  climbs_take u (take.ClearLink r) is = let f = known z s L c (point.Take u (take.ClearLink r)) is in rests_at z s L c (point.Take u (take.ClearLink r)) (λ _ _ _ w. w) false refl refl
      (link_rests (point.Take u (take.ClearLink r)) r (OfLink Nil) f.here.0.free.unlinked)

  climbs_guard : (u : Guarding) (p : GuardPoint) → (s.callers c).point ≡ point.Guard u p → Climbs (point.Guard u p) L.ghost s (step_at z s c (point.Guard u p))
  climbs_guard u LoadAgain is = leaves_at z s L c (point.Guard u LoadAgain) (λ _ _ _ w. w) refl refl
  climbs_guard u StoreHazard is = rests_at z s L c (point.Guard u StoreHazard) (λ _ _ _ w. w) false refl refl (by u) where
    by : (u : Guarding) → Rests (point.Guard u StoreHazard) L.ghost s.memory (write s.memory (hazard c u) (named u))
    by (guard.Enqueue x p) = record { head = refl; tail = refl; links = λ _ _. refl; old_tails = λ _ _. refl }
    by (guard.Dequeue p) = record { head = refl; tail = refl; links = λ _ _. refl; old_tails = λ _ _. refl }
    by (guard.Many d) = record { head = refl; tail = refl; links = λ _ _. refl; old_tails = λ _ _. refl }
    by (guard.ManyTail d p) = record { head = refl; tail = refl; links = λ _ _. refl; old_tails = λ _ _. refl }
    by (guard.Help h) = record { head = refl; tail = refl; links = λ _ _. refl; old_tails = λ _ _. refl }
    by (guard.HelpTail h p) = record { head = refl; tail = refl; links = λ _ _. refl; old_tails = λ _ _. refl }

  climbs_fill : (n : Notice) (p : FillPoint) → (s.callers c).point ≡ point.Fill n p → Climbs (point.Fill n p) L.ghost s (step_at z s c (point.Fill n p))
  climbs_fill n (fill.StoreValue r v) is = rests_at z s L c (point.Fill n (fill.StoreValue r v)) (λ _ _ _ w. w) false refl refl (record { head = refl; tail = refl; links = λ _ _. refl; old_tails = λ _ _. refl })
  climbs_fill n (fill.StoreChain i r q) is = let f = known z s L c (point.Fill n (fill.StoreChain i r q)) is in let on = f.here.1.1.1.0 in let inside = on.inside in
      rests_at z s L c (point.Fill n (fill.StoreChain i r q)) (λ _ _ _ w. w) false refl refl
      (link_rests (point.Fill n (fill.StoreChain i r q)) r (OfLink (Single q)) (ap L.ghost.spot on.row ∙ (f.here.1.0.taken i (omega arith)).free.unlinked))
  climbs_fill n (fill.LoadHazard e) is = leaves_at z s L c (point.Fill n (fill.LoadHazard e)) (λ _ _ _ w. w) refl refl

  climbs_batch : (d : Draft) (p : BatchPoint) → (s.callers c).point ≡ point.Batch d p → Climbs (point.Batch d p) L.ghost s (step_at z s c (point.Batch d p))
  climbs_batch d (batch.StoreField f) is = rests_at z s L c (point.Batch d (batch.StoreField f)) (λ a n e w. (stored_own z s L c n d (batch.StoreField f) is).1 (e ∙ ap (λ (b : ℕ). Ann b n) w)) false refl refl
      (field_rests (point.Batch d (batch.StoreField f)) d.ann f (field_in d.notice f) (λ _ e. e))
  climbs_batch d (batch.StoreAll f) is = rests_at z s L c (point.Batch d (batch.StoreAll f)) (λ a n e w. (stored_own z s L c n d (batch.StoreAll f) is).1 (e ∙ ap (λ (b : ℕ). Ann b n) w)) false refl refl
      (field_rests (point.Batch d (batch.StoreAll f)) d.ann f (field_in d.notice f) (λ _ e. e))
  climbs_batch d batch.LoadHead is = leaves_at z s L c (point.Batch d batch.LoadHead) (λ a n e w. (stored_own z s L c n d batch.LoadHead is).1 (e ∙ ap (λ (b : ℕ). Ann b n) w)) refl refl
  climbs_batch d batch.Install is = let f = known z s L c (point.Batch d batch.Install) is in
      install_climbs (point.Batch d batch.Install) (λ a n e w. (stored_own z s L c n d batch.Install is).1 (e ∙ ap (λ (b : ℕ). Ann b n) w)) d s.memory.head refl (is_node s.memory.head d.notice.old_head) refl
      f.here.1.0.fields.1.1.1.1.1.1.1.1.0

  climbs_many : (d : Plan) (p : ManyPoint) → (s.callers c).point ≡ point.Many d p → Climbs (point.Many d p) L.ghost s (step_at z s c (point.Many d p))
  climbs_many d many.LoadHead is = leaves_at z s L c (point.Many d many.LoadHead) (λ _ _ _ w. w) refl refl
  climbs_many d many.LoadDummy is = lands_at z s L c (point.Many d many.LoadDummy) (λ _ _ _ w. w) is (is_nil (s.memory.link d.notice.old_head.row)) refl (λ _. refl)
  climbs_many d (many.LoadLink r l) is = leaves_at z s L c (point.Many d (many.LoadLink r l)) (λ _ _ _ w. w) refl refl
  climbs_many d (many.LoadValue r l) is = leaves_at z s L c (point.Many d (many.LoadValue r l)) (λ _ _ _ w. w) refl refl
  climbs_many d (many.LoadTail r) is = leaves_at z s L c (point.Many d (many.LoadTail r)) (λ _ _ _ w. w) refl refl
  climbs_many d (many.MoveHead r) is = lands_at z s L c (point.Many d (many.MoveHead r)) (λ _ _ _ w. w) is (is_node s.memory.head d.notice.old_head) refl
      (λ e. ap (λ (b : Bool). cond b (OfHead (Node (far_behind d.notice.old_head r d.notice.counts.deqs))) (OfHead s.memory.head)) e)
  climbs_many d (many.LoadBehind p) is = leaves_at z s L c (point.Many d (many.LoadBehind p)) (λ _ _ _ w. w) refl refl
  climbs_many d (many.PassTail p n) is = let f = known z s L c (point.Many d (many.PassTail p n)) is in tail_climbs (point.Many d (many.PassTail p n)) (λ _ _ _ w. w) p n f.here.1.0 f.here.1.1.0 (same_place s.memory.tail p) refl
  climbs_many d many.LoadChained is = leaves_at z s L c (point.Many d many.LoadChained) (λ _ _ _ w. w) refl refl

  climbs_help : (h : Help) (p : HelpPoint) → (s.callers c).point ≡ point.Help h p → Climbs (point.Help h p) L.ghost s (step_at z s c (point.Help h p))
  climbs_help h help.LoadOldHead is = leaves_at z s L c (point.Help h help.LoadOldHead) (λ _ _ _ w. w) refl refl
  climbs_help h help.LoadFirst is = leaves_at z s L c (point.Help h help.LoadFirst) (λ _ _ _ w. w) refl refl
  climbs_help h help.LoadLast is = leaves_at z s L c (point.Help h help.LoadLast) (λ _ _ _ w. w) refl refl
  climbs_help h help.LoadCounts is = leaves_at z s L c (point.Help h help.LoadCounts) (λ _ _ _ w. w) refl refl
  climbs_help h help.LoadTail is = leaves_at z s L c (point.Help h help.LoadTail) (λ _ _ _ w. w) refl refl
  climbs_help h (help.LoadOldTail p) is = leaves_at z s L c (point.Help h (help.LoadOldTail p)) (λ _ _ _ w. w) refl refl
  climbs_help h (help.LoadLink p) is = leaves_at z s L c (point.Help h (help.LoadLink p)) (λ _ _ _ w. w) refl refl
  climbs_help h (help.LinkChain p) is = lands_at z s L c (point.Help h (help.LinkChain p)) (λ _ _ _ w. w) is (is_nil (s.memory.link p.row)) refl
      (λ e. ap (λ (b : Bool). cond b (OfLink (Chain h.first)) (OfLink (s.memory.link p.row))) e)
  climbs_help h (help.Decide p) is = lands_at z s L c (point.Help h (help.Decide p)) (λ _ _ _ w. w) is (is_unknown (s.memory.old_tail h.ann)) refl
      (λ e. ap (λ (b : Bool). cond b (OfOldTail (Some p)) (OfOldTail (s.memory.old_tail h.ann))) e)
  climbs_help h (help.PassTail p n) is = let f = known z s L c (point.Help h (help.PassTail p n)) is in tail_climbs (point.Help h (help.PassTail p n)) (λ _ _ _ w. w) p n f.here.0 f.here.1.0 (same_place s.memory.tail p) refl
  climbs_help h (help.RecordTail p) is = let f = known z s L c (point.Help h (help.RecordTail p)) is in record_climbs (point.Help h (help.RecordTail p)) (λ _ _ _ w. w) h p (s.memory.old_tail h.ann) refl f.here.0
  climbs_help h (help.LoadTailOver q) is = leaves_at z s L c (point.Help h (help.LoadTailOver q)) (λ _ _ _ w. w) refl refl
  climbs_help h (help.MoveTailOver q) is = let f = known z s L c (point.Help h (help.MoveTailOver q)) is in
      over_climbs (point.Help h (help.MoveTailOver q)) (λ _ _ _ w. w) h q f.call.0 f.here.0 f.here.1.0 (same_place s.memory.tail q) refl
  climbs_help h (help.LoadWalk m r l) is = leaves_at z s L c (point.Help h (help.LoadWalk m r l)) (λ _ _ _ w. w) refl refl
  climbs_help h (help.MoveHead m r) is = let f = known z s L c (point.Help h (help.MoveHead m r)) is in
      leaving_climbs (point.Help h (help.MoveHead m r)) (λ _ _ _ w. w) h m r s.memory.head refl (is_ann s.memory.head h.ann h.old_head.count) refl f.here.1.1.0

  climbs_answer : (p : AnswerPoint) → (s.callers c).point ≡ point.Answer p → Climbs (point.Answer p) L.ghost s (step_at z s c (point.Answer p))
  climbs_answer (answer.LoadOldTail h) is = leaves_at z s L c (point.Answer (answer.LoadOldTail h)) (λ _ _ _ w. w) refl refl
  climbs_answer (answer.LoadLink b r l) is = leaves_at z s L c (point.Answer (answer.LoadLink b r l)) (λ _ _ _ w. w) refl refl
  climbs_answer (answer.LoadValue b r l) is = leaves_at z s L c (point.Answer (answer.LoadValue b r l)) (λ _ _ _ w. w) refl refl

  climbs_close : (x : Closing) (p : ClosePoint) → (s.callers c).point ≡ point.Close x p → Climbs (point.Close x p) L.ghost s (step_at z s c (point.Close x p))
  climbs_close x (close.MarkRow q read passed stopped) is = rests_at z s L c (point.Close x (close.MarkRow q read passed stopped)) (λ _ _ _ w. w) false refl refl (record { head = refl; tail = refl; links = λ _ _. refl; old_tails = λ _ _. refl })
  climbs_close x (close.MarkLoose r) is = rests_at z s L c (point.Close x (close.MarkLoose r)) (λ _ _ _ w. w) false refl refl (record { head = refl; tail = refl; links = λ _ _. refl; old_tails = λ _ _. refl })
  climbs_close x close.ClearNode is = rests_at z s L c (point.Close x close.ClearNode) (λ _ _ _ w. w) false refl refl (record { head = refl; tail = refl; links = λ _ _. refl; old_tails = λ _ _. refl })
  climbs_close x close.ClearAnn is = rests_at z s L c (point.Close x close.ClearAnn) (λ _ _ _ w. w) false refl refl (record { head = refl; tail = refl; links = λ _ _. refl; old_tails = λ _ _. refl })
  climbs_close x (close.LoadHazard d) is = leaves_at z s L c (point.Close x (close.LoadHazard d)) (λ _ _ _ w. w) refl refl
  climbs_close x (close.MarkFree r) is = rests_at z s L c (point.Close x (close.MarkFree r)) (λ _ _ _ w. w) false refl refl (record { head = refl; tail = refl; links = λ _ _. refl; old_tails = λ _ _. refl })

  -- THE frame
  pub climbs_at : (t : Point) → (s.callers c).point ≡ t → Climbs t L.ghost s (step_at z s c t)
  climbs_at point.Idle is = leaves_at z s L c point.Idle (λ _ _ _ w. w) refl refl
  climbs_at (point.Take u p) is = climbs_take u p is
  climbs_at (point.Guard u p) is = climbs_guard u p is
  climbs_at (point.Enqueue x p) is = climbs_enqueue x p is
  climbs_at (point.Dequeue p) is = climbs_dequeue p is
  climbs_at (point.Fill n p) is = climbs_fill n p is
  climbs_at (point.Batch d p) is = climbs_batch d p is
  climbs_at (point.Many d p) is = climbs_many d p is
  climbs_at (point.Help h p) is = climbs_help h p is
  climbs_at (point.Answer p) is = climbs_answer p is
  climbs_at (point.Close x p) is = climbs_close x p is

  -- no step lowers the rank
  pub climbs : Climbs (s.callers c).point L.ghost s (next z s c)
  unfolding next
  climbs = climbs_at (s.callers c).point refl
