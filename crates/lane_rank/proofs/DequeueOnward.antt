-- A dequeue goes on, with the ranks that its caller kept.
use Rattle.std.proofs.Common.{◌≡◌, ◌⊎◌, inl, inr, ℕ, ◌<◌, ◌≤◌, Bool, true, false, cond, [], ◌∷◌, length, refl, ap, ◌∙◌, arith}
use Rattle.bq_model.specs.declared.shape.Shape.{Shape}
use Rattle.bq_model.specs.declared.op.Answer.TheVariants.{Got, Empty}
use Rattle.word_rows.specs.declared.place.Place.{Place}
use Rattle.word_rows.specs.declared.head_word.HeadWord.{HeadWord}
use Rattle.word_rows.specs.declared.head_word.HeadWord.TheVariants.{Node, Ann}
use Rattle.word_rows.specs.declared.link_word.LinkWord.{LinkWord}
use Rattle.word_rows.specs.declared.link_word.LinkWord.TheVariants.{Nil, Single, Chain, Shut}
use Rattle.word_rows.specs.declared.content.Content.TheVariants.{OfHead, OfTail, OfLink}
use Rattle.lane_steps.specs.Act.{is_node, same_place}
use Rattle.lane_steps.specs.Dequeue.{after_link, after_head}
use Rattle.lane_steps.specs.Help.{help_of}
use Rattle.lane_steps.specs.LaneSizes.{lane_sizes}
use Rattle.lane_steps.specs.declared.course.Course.TheVariants.{GoesOn, Passes}
use Rattle.lane_steps.specs.declared.point.Back.TheVariants as back
use Rattle.lane_steps.specs.declared.point.Closing.TheVariants.{Plain}
use Rattle.lane_steps.specs.declared.point.Guarding.TheVariants as guard
use Rattle.lane_steps.specs.declared.point.GuardPoint.TheVariants.{StoreHazard}
use Rattle.lane_steps.specs.declared.point.DequeuePoint.{DequeuePoint}
use Rattle.lane_steps.specs.declared.point.DequeuePoint.TheVariants.{LoadHead, LoadLink, LoadTail, LoadTailOver, PassTail, LoadValue, MoveHead}
use Rattle.lane_steps.specs.declared.point.Point.TheVariants as point
use Rattle.lane_steps.specs.State.{Caller, State, read}
use Rattle.lane_steps.specs.Step.{target, after, followed, step_at, closes, marks_all, stepped}
use Rattle.lane_steps.specs.Fact.{linked}
use Rattle.core_model.specs.Facts.{Holds}
use Rattle.core_model.specs.Few.{IsEarly}
use Rattle.core_model.specs.Lawful.{Lawful}
use Rattle.core_model.proofs.Preserves.{known}
use Rattle.core_model.proofs.Rely.{world}
use Rattle.core_model.proofs.StoredAgain.{same_places}
use Rattle.lane_rank.specs.Expected.{Keeps, IsThere, head_node, tail_at, chain_behind}
use Rattle.lane_rank.specs.Rank.{rank}
use Rattle.lane_rank.specs.Return.{Onward}
use Rattle.lane_rank.proofs.Endings.{closes_light, passes_light, ends_light}
use Rattle.lane_rank.proofs.Expecting.{linked_spot}
use Rattle.lane_rank.proofs.EnqueueOnward.{not_tail}
use Rattle.lane_rank.proofs.Onwards.{carry, above, gone, went, goes, loads, restarts}
use Rattle.lane_rank.proofs.Together.{not_node, no_node, never_shut}

module _ (z : Shape) (s : State) (L : Lawful (lane_sizes z) s) (c M n o i : ℕ) (short : length (s.callers c).ops ≤ z.batch) (early : IsEarly z c (s.callers c)) where
  abbrev me : Caller
  me = s.callers c

  -- what it keeps at this point of the call
  abbrev on : DequeuePoint → Caller
  on p = stepped me (point.Dequeue p)

  head_found : (is : (s.callers c).point ≡ point.Dequeue LoadHead) → Keeps s (point.Dequeue LoadHead) o i → (w : HeadWord) → s.memory.head ≡ w
      → Onward M z (step_at (lane_sizes z) s c (point.Dequeue LoadHead)) (s.callers c) (stepped (s.callers c) (after_head w)) o i
  head_found is K (Node p) e = loads z s L c M (point.Dequeue LoadHead) is o i K (stepped me (after_head (Node p))) (point.Guard (guard.Dequeue p) StoreHazard) refl (inl (ap OfHead e), tt) tt (omega arith)
  head_found is K (Ann a m) e = loads z s L c M (point.Dequeue LoadHead) is o i K (stepped me (after_head (Ann a m))) (point.Guard (guard.Help (help_of a m back.Dequeue)) StoreHazard) refl (inl (ap OfHead e), tt) tt (omega arith)

  module _ (p : Place) where
    link_found : (is : (s.callers c).point ≡ point.Dequeue (LoadLink p)) → Keeps s (point.Dequeue (LoadLink p)) o i → (l : LinkWord) → s.memory.link p.row ≡ l
        → Onward M z (step_at (lane_sizes z) s c (point.Dequeue (LoadLink p))) (s.callers c) (followed (lane_sizes z) n c (s.callers c) (after_link p l)) o i
    link_found is K l e = by l e where
      held : Holds (lane_sizes z) (world s L.ghost) c (linked p)
      held = (known (lane_sizes z) s L c (point.Dequeue (LoadLink p)) is).here.0

      by : (l : LinkWord) → s.memory.link p.row ≡ l → Onward M z (step_at (lane_sizes z) s c (point.Dequeue (LoadLink p))) (s.callers c) (followed (lane_sizes z) n c (s.callers c) (after_link p l)) o i
      by Nil e = ends_light z s L c M (point.Dequeue (LoadLink p)) is o i K (closes n c me (Plain Empty)) (omega arith) (closes_light M z n c me short early (Plain Empty))
      by (Single r) e = goes z s L c M (point.Dequeue (LoadLink p)) is o i K (on (LoadTail p r)) (point.Dequeue (LoadTail p r)) refl (carry z s L c M (point.Dequeue (LoadLink p)) is o i K (head_node p ∷ []) (tt, tt) K.outer_there) tt (omega arith)
      by (Chain r) e = goes z s L c M (point.Dequeue (LoadLink p)) is o i K (on (LoadTailOver p r)) (point.Dequeue (LoadTailOver p r)) refl
          (carry z s L c M (point.Dequeue (LoadLink p)) is o i K (head_node p ∷ chain_behind p r ∷ []) (tt, (linked_spot (lane_sizes z) s L c p held, tt)) (K.outer_there.0, (inl (ap OfLink e), tt))) tt (omega arith)
      by Shut e = absurd (never_shut (lane_sizes z) s L c p held e)

    module _ (r : ℕ) where
      tail_found : (is : (s.callers c).point ≡ point.Dequeue (LoadTail p r)) → Keeps s (point.Dequeue (LoadTail p r)) o i → (b : Bool) → same_place s.memory.tail p ≡ b
          → Onward M z (step_at (lane_sizes z) s c (point.Dequeue (LoadTail p r))) (s.callers c) (stepped (s.callers c) (point.Dequeue (cond b (PassTail p r) (LoadValue p r)))) o i
      tail_found is K true e = loads z s L c M (point.Dequeue (LoadTail p r)) is o i K (on (PassTail p r)) (point.Dequeue (PassTail p r)) refl (inl (ap OfTail (same_places s.memory.tail p e)), tt) tt (omega arith)
      tail_found is K false e = goes z s L c M (point.Dequeue (LoadTail p r)) is o i K (on (LoadValue p r)) (point.Dequeue (LoadValue p r)) refl (carry z s L c M (point.Dequeue (LoadTail p r)) is o i K (head_node p ∷ []) (tt, tt) K.outer_there) tt (omega arith)

      -- where TAIL names the dummy with a Chain link, an announcement stands
      tail_found_over : (is : (s.callers c).point ≡ point.Dequeue (LoadTailOver p r)) → Keeps s (point.Dequeue (LoadTailOver p r)) o i → (b : Bool) → same_place s.memory.tail p ≡ b
          → Onward M z (step_at (lane_sizes z) s c (point.Dequeue (LoadTailOver p r))) (s.callers c) (stepped (s.callers c) (point.Dequeue (cond b LoadHead (LoadValue p r)))) o i
      tail_found_over is K true e = restarts z s L c M (point.Dequeue (LoadTailOver p r)) is o i K (on LoadHead) (point.Dequeue LoadHead) refl tt tt (by K.outer_there.0) (omega arith) where
        chain : s.memory.link p.row ≡ Chain r → s.memory.link s.memory.tail.row ≡ Chain r
        chain e' = ap (λ (q : Place). s.memory.link q.row) (same_places s.memory.tail p e) ∙ e'

        by : IsThere s.memory (head_node p) ⊎ (o < rank s) → o < rank (step_at (lane_sizes z) s c (point.Dequeue (LoadTailOver p r)))
        by (inl there) = gone z s L c M (point.Dequeue (LoadTailOver p r)) is o i K o (chain_behind p r) K.outer_there.1.0 (λ ch. no_node (lane_sizes z) s L r (chain (cc ch)) p (cc there))
        by (inr below) = above z s L c M (point.Dequeue (LoadTailOver p r)) is o i K o below
      tail_found_over is K false e = goes z s L c M (point.Dequeue (LoadTailOver p r)) is o i K (on (LoadValue p r)) (point.Dequeue (LoadValue p r)) refl (carry z s L c M (point.Dequeue (LoadTailOver p r)) is o i K (head_node p ∷ []) (tt, tt) (K.outer_there.0, tt)) tt (omega arith)

      moves : (v : ℕ) (is : (s.callers c).point ≡ point.Dequeue (MoveHead p r v)) → Keeps s (point.Dequeue (MoveHead p r v)) o i → (b : Bool) → is_node s.memory.head p ≡ b
          → Onward M z (step_at (lane_sizes z) s c (point.Dequeue (MoveHead p r v))) (s.callers c) (followed (lane_sizes z) n c (s.callers c) (cond b (Passes (Plain (Got v)) p r) (GoesOn (point.Dequeue LoadHead)))) o i
      moves v is K true e = ends_light z s L c M (point.Dequeue (MoveHead p r v)) is o i K (marks_all n c (record me { walked = r ∷ [] }) (Plain (Got v)) false p) (omega arith) (passes_light M z n c me short early (Plain (Got v)) r p)
      moves v is K false e = restarts z s L c M (point.Dequeue (MoveHead p r v)) is o i K (on LoadHead) (point.Dequeue LoadHead) refl tt tt (gone z s L c M (point.Dequeue (MoveHead p r v)) is o i K o (head_node p) K.outer_there.0 (λ there. not_node s.memory.head p e (cc there))) (omega arith)

  pub dequeue_onward : (p : DequeuePoint) → (s.callers c).point ≡ point.Dequeue p → Keeps s (point.Dequeue p) o i
      → Onward M z (step_at (lane_sizes z) s c (point.Dequeue p)) (s.callers c) (after (lane_sizes z) n c (s.callers c) (point.Dequeue p) (read s.memory (target c (point.Dequeue p)))) o i
  dequeue_onward LoadHead is K = head_found is K s.memory.head refl
  dequeue_onward (LoadLink p) is K = link_found p is K (s.memory.link p.row) refl
  dequeue_onward (LoadTail p r) is K = tail_found p r is K (same_place s.memory.tail p) refl
  dequeue_onward (LoadTailOver p r) is K = tail_found_over p r is K (same_place s.memory.tail p) refl
  dequeue_onward (PassTail p r) is K = restarts z s L c M (point.Dequeue (PassTail p r)) is o i K (on LoadHead) (point.Dequeue LoadHead) refl tt tt
      (went z s L c M (point.Dequeue (PassTail p r)) is o i K o (tail_at p) tt K.outer_past K.outer_there.0 (not_tail s.memory.tail p r)) (omega arith)
  dequeue_onward (LoadValue p r) is K = goes z s L c M (point.Dequeue (LoadValue p r)) is o i K (on (MoveHead p r (s.memory.value r))) (point.Dequeue (MoveHead p r (s.memory.value r))) refl
      (carry z s L c M (point.Dequeue (LoadValue p r)) is o i K (head_node p ∷ []) (tt, tt) K.outer_there) tt (omega arith)
  dequeue_onward (MoveHead p r v) is K = moves p r v is K (is_node s.memory.head p) refl
