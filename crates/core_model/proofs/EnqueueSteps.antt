-- Each step of an enqueue keeps the lane lawful.
use Rattle.std.proofs.Common.{◌≡◌, ◌≢◌, ℕ, false, [], ◌∷◌, length, sym, refl, ap, ◌∙◌, Bool, true, cond}
use Rattle.lane_steps.specs.declared.point.Closing.TheVariants.{Plain}
use Rattle.lane_steps.specs.declared.point.Item.{Item}
use Rattle.lane_steps.specs.Functions.{put}
use Rattle.lane_steps.specs.LaneSizes.{LaneSizes}
use Rattle.lane_steps.specs.State.{State, link_in, both_marks}
use Rattle.lane_steps.specs.Fact.{owns}
use Rattle.lane_steps.specs.Step.{stepped, step_at, step_with, closes}
use Rattle.core_model.specs.Facts.{Holds, AtPoint}
use Rattle.core_model.specs.Lawful.{Lawful}
use Rattle.core_model.proofs.Puts.{put_here, put_else}
use Rattle.core_model.proofs.Rely.{third, world, true_false}
use Rattle.core_model.proofs.Preserves.{known, stutters, point_changes}
use Rattle.core_model.proofs.RowStores.{row_stored, linearized_stored}
use Rattle.core_model.proofs.Losses.{closes_bare}
use Rattle.word_rows.specs.declared.marks.Marks.{Marks}
use Rattle.lane_steps.specs.declared.point.Guarding.TheVariants as guard
use Rattle.lane_steps.specs.declared.point.GuardPoint.TheVariants.{StoreHazard}
use Rattle.word_rows.specs.declared.place.Place.{Place}
use Rattle.word_rows.specs.declared.head_word.HeadWord.{HeadWord}
use Rattle.word_rows.specs.declared.head_word.HeadWord.TheVariants.{Node, Ann}
use Rattle.word_rows.specs.declared.link_word.LinkWord.{LinkWord}
use Rattle.word_rows.specs.declared.link_word.LinkWord.TheVariants.{Nil, Single, Chain, Shut}
use Rattle.word_rows.specs.declared.location.Location.TheVariants.{Head, Tail, Link}
use Rattle.word_rows.specs.declared.content.Content.TheVariants.{OfHead, OfTail, OfLink}
use Rattle.lane_steps.specs.Act.{same_place, is_nil, location}
use Rattle.lane_steps.specs.Help.{help_of}
use Rattle.bq_model.specs.declared.op.Answer.TheVariants.{Done}
use Rattle.lane_steps.specs.declared.point.EnqueuePoint.{EnqueuePoint}
use Rattle.core_model.proofs.Tails.{exchanges, with_memory}
use Rattle.core_model.proofs.Lookups.{next_found}
use Rattle.core_model.proofs.EnqueueLink.{preserves_link_single}
use Rattle.bq_model.specs.declared.shape.Shape.{Shape}
use Rattle.word_rows.specs.declared.content.Content.{Content}
use Rattle.word_rows.specs.Contents.{MayHold}
use Rattle.word_rows.specs.Fits.{limits_of, PlaceFits}
use Rattle.lane_steps.specs.Fits.{ItemFits}
use Rattle.lane_steps.specs.Coded.{PointFits, CourseFits}
use Rattle.core_model.proofs.Fitting.{fresh_help}
use Rattle.lane_steps.specs.declared.point.Point.TheVariants as point
use Rattle.lane_steps.specs.declared.point.EnqueuePoint.TheVariants as enq
use Rattle.lane_steps.specs.declared.point.Back.TheVariants as back
use Rattle.lane_steps.specs.Enqueue as enqueue

module _ (z : LaneSizes) (s : State) (L : Lawful z s) (c : ℕ) where
  -- the value is stored into the own row
  preserves_store_value : (x : Item) → (s.callers c).point ≡ point.Enqueue x enq.StoreValue → Lawful z (step_at z s c (point.Enqueue x enq.StoreValue))
  preserves_store_value x is = row_stored z s L c x.row own.0.free.at_home own.0.free.unlinked s.memory.link value' s.memory.mark (λ _ _. refl) (λ q apart. put_else s.memory.value x.row x.value q apart) (λ _ _. refl) L.list.links
      unmarked unmarked f.call.0.1 (point.Enqueue x enq.LoadTail) (s.callers c).rows (s.callers c).named (record {
        call = (
          linearized_stored z s L c x.row own.0.free.at_home own.0.free.unlinked s.memory.link value' s.memory.mark (λ _ _. refl) (λ q apart. put_else s.memory.value x.row x.value q apart) (λ _ _. refl) L.list.links refl false (x.row ∷ []) [] [] f.call.0,
          (f.call.1.0, (own, ((own.0, put_here s.memory.value x.row x.value), tt))),
        );
        here = tt;
      }) where
        f : AtPoint z (world s L.ghost) c (s.callers c) (point.Enqueue x enq.StoreValue)
        f = known z s L c (point.Enqueue x enq.StoreValue) is

        own : Holds z (world s L.ghost) c (owns false x.row)
        own = third f.call

        value' : ℕ → ℕ
        value' = put s.memory.value x.row x.value

        unmarked : s.memory.mark x.row ≢ both_marks
        unmarked e = true_false (ap (λ (m : Marks). m.read) (sym e ∙ own.0.marks))

  preserves_enq_tail : (x : Item) → (s.callers c).point ≡ point.Enqueue x enq.LoadTail → Lawful z (step_at z s c (point.Enqueue x enq.LoadTail))
  preserves_enq_tail x is = let f = known z s L c (point.Enqueue x enq.LoadTail) is in
      stutters z s L c (point.Guard (guard.Enqueue x s.memory.tail) StoreHazard) Tail (OfTail s.memory.tail) refl (record { call = f.call; here = tt })

  enq_link : (x : Item) (p : Place) (l : LinkWord) → s.memory.link p.row ≡ l → AtPoint z (world s L.ghost) c (s.callers c) (point.Enqueue x (enq.LoadLink p)) → Lawful z (step_with z s c (point.Enqueue x (enq.LoadLink p)) (OfLink l))
  enq_link x p Nil is f = stutters z s L c (point.Enqueue x (enq.LinkSingle p)) (Link p.row) (OfLink Nil) (ap OfLink is) f
  enq_link x p (Single n) is f = let next = next_found z s L c p n false f.here.0 is in
      stutters z s L c (point.Enqueue x (enq.PassTail p n)) (Link p.row) (OfLink (Single n)) (ap OfLink is) (record { call = f.call; here = (next.0, (next.1, tt)) })
  enq_link x p (Chain n) is f = stutters z s L c (point.Enqueue x enq.LoadHead) (Link p.row) (OfLink (Chain n)) (ap OfLink is) (record { call = f.call; here = tt })
  enq_link x p Shut is f = stutters z s L c (point.Enqueue x enq.LoadTail) (Link p.row) (OfLink Shut) (ap OfLink is) (record { call = f.call; here = tt })

  preserves_enq_link : (x : Item) (p : Place) → (s.callers c).point ≡ point.Enqueue x (enq.LoadLink p) → Lawful z (step_at z s c (point.Enqueue x (enq.LoadLink p)))
  preserves_enq_link x p is = enq_link x p (s.memory.link p.row) refl (known z s L c (point.Enqueue x (enq.LoadLink p)) is)

  enq_head : (x : Item) (h : HeadWord) → s.memory.head ≡ h → AtPoint z (world s L.ghost) c (s.callers c) (point.Enqueue x enq.LoadHead) → Lawful z (step_with z s c (point.Enqueue x enq.LoadHead) (OfHead h))
  enq_head x (Node p) is f = stutters z s L c (point.Enqueue x enq.LoadTail) Head (OfHead (Node p)) (ap OfHead is) f
  enq_head x (Ann a n) is f = stutters z s L c (point.Guard (guard.Help (help_of a n (back.Enqueue x))) StoreHazard) Head (OfHead (Ann a n)) (ap OfHead is) (record { call = ((λ own. absurd own), f.call); here = tt })

  preserves_enq_head : (x : Item) → (s.callers c).point ≡ point.Enqueue x enq.LoadHead → Lawful z (step_at z s c (point.Enqueue x enq.LoadHead))
  preserves_enq_head x is = enq_head x s.memory.head refl (known z s L c (point.Enqueue x enq.LoadHead) is)

  preserves_enq_pass : (x : Item) (p : Place) (n : ℕ) → (s.callers c).point ≡ point.Enqueue x (enq.PassTail p n) → Lawful z (step_at z s c (point.Enqueue x (enq.PassTail p n)))
  preserves_enq_pass x p n is = let f = known z s L c (point.Enqueue x (enq.PassTail p n)) is in exchanges z s L c p n (stepped (s.callers c) (point.Enqueue x enq.LoadTail)) f.here.0 f.here.1.0
      (λ memory l. let h = known z (with_memory z s L c memory) l c (point.Enqueue x (enq.PassTail p n)) is in point_changes z (with_memory z s L c memory) l c (point.Enqueue x enq.LoadTail) (record { call = h.call; here = tt })) (same_place s.memory.tail p) refl

  -- the enqueue is done, as the history was
  preserves_enq_last : (x : Item) (p : Place) (n : ℕ) → (s.callers c).point ≡ point.Enqueue x (enq.MoveTail p n) → Lawful z (step_at z s c (point.Enqueue x (enq.MoveTail p n)))
  preserves_enq_last x p n is = let f = known z s L c (point.Enqueue x (enq.MoveTail p n)) is in exchanges z s L c p n (closes (length s.history) c (s.callers c) (Plain Done)) f.here.0 f.here.1.0
      (λ memory l. let h = known z (with_memory z s L c memory) l c (point.Enqueue x (enq.MoveTail p n)) is in
      closes_bare z c (with_memory z s L c memory) l (Plain Done) h.call.1.0.2 h.call.0 h.call.1.1) (same_place s.memory.tail p) refl

  -- each step of an enqueue
  pub preserves_enqueue : (x : Item) (p : EnqueuePoint) → (s.callers c).point ≡ point.Enqueue x p → Lawful z (step_at z s c (point.Enqueue x p))
  preserves_enqueue x enq.StoreValue is = preserves_store_value x is
  preserves_enqueue x enq.LoadTail is = preserves_enq_tail x is
  preserves_enqueue x (enq.LoadLink p) is = preserves_enq_link x p is
  preserves_enqueue x (enq.LinkSingle p) is = preserves_link_single z s L c x p is
  preserves_enqueue x (enq.PassTail p n) is = preserves_enq_pass x p n is
  preserves_enqueue x (enq.MoveTail p n) is = preserves_enq_last x p n is
  preserves_enqueue x enq.LoadHead is = preserves_enq_head x is

-- and it goes on with what fits
module _ (s : Shape) where
  link_fits : (p : Place) (x : LinkWord) → PlaceFits (limits_of s) p → MayHold s (Link p.row) (OfLink x) → enqueue.fits s (enqueue.after_link p x)
  link_fits p Nil b m = b
  link_fits p (Single n) b m = (b, m.1)
  link_fits p (Chain n) b m = tt
  link_fits p Shut b m = tt

  head_fits : (i : Item) (x : HeadWord) → ItemFits s i → MayHold s Head (OfHead x) → PointFits s (enqueue.after_head i x)
  head_fits i (Node p) a m = (a, tt)
  head_fits i (Ann n k) a m = (fresh_help s n k (back.Enqueue i) m.1.0 m.1.1 a, tt)

  linked_fits : (b : Bool) (i : Item) (p : Place) → ItemFits s i → PlaceFits (limits_of s) p → enqueue.fits s (cond b (enq.MoveTail p i.row) enq.LoadTail)
  linked_fits true i p a b = (b, a.row)
  linked_fits false i p a b = tt

  pub enqueue_fits : (i : Item) (p : EnqueuePoint) (x : Content) → ItemFits s i → enqueue.fits s p → MayHold s (location (enqueue.act i p)) x → CourseFits s (enqueue.course i p x)
  enqueue_fits i enq.StoreValue x a b m = (a, tt)
  enqueue_fits i enq.LoadTail (OfTail q) a b m = (a, m.1)
  enqueue_fits i (enq.LoadLink p) (OfLink x) a b m = (a, link_fits p x b m)
  enqueue_fits i (enq.LinkSingle p) x a b m = (a, linked_fits (is_nil (link_in x)) i p a b)
  enqueue_fits i (enq.PassTail p n) x a b m = (a, tt)
  enqueue_fits i (enq.MoveTail p n) x a b m = tt
  enqueue_fits i enq.LoadHead (OfHead x) a b m = head_fits i x a m
  enqueue_fits _ _ _ a b m = absurd m.0
