-- An enqueue goes on, with the ranks that its caller kept.
use Rattle.std.proofs.Common.{◌≡◌, ◌⊎◌, inl, inr, ℕ, ◌+◌, ◌<◌, ◌≤◌, Bool, true, false, cond, [], ◌∷◌, length, refl, ap, ◌∙◌, arith}
use Rattle.bq_model.specs.declared.shape.Shape.{Shape}
use Rattle.bq_model.specs.declared.op.Answer.TheVariants.{Done}
use Rattle.word_rows.specs.declared.place.Place.{Place}
use Rattle.word_rows.specs.declared.head_word.HeadWord.{HeadWord}
use Rattle.word_rows.specs.declared.head_word.HeadWord.TheVariants.{Node, Ann}
use Rattle.word_rows.specs.declared.link_word.LinkWord.{LinkWord}
use Rattle.word_rows.specs.declared.link_word.LinkWord.TheVariants.{Nil, Single, Chain, Shut}
use Rattle.word_rows.specs.declared.content.Content.TheVariants.{OfHead, OfTail, OfLink}
use Rattle.lane_steps.specs.Act.{is_nil, same_place}
use Rattle.lane_steps.specs.Enqueue.{after_link, after_head}
use Rattle.lane_steps.specs.Help.{help_of}
use Rattle.lane_steps.specs.LaneSizes.{lane_sizes}
use Rattle.lane_steps.specs.declared.point.Back.TheVariants as back
use Rattle.lane_steps.specs.declared.point.Closing.TheVariants.{Plain}
use Rattle.lane_steps.specs.declared.point.Item.{Item}
use Rattle.lane_steps.specs.declared.point.Guarding.TheVariants as guard
use Rattle.lane_steps.specs.declared.point.GuardPoint.TheVariants.{StoreHazard}
use Rattle.lane_steps.specs.declared.point.EnqueuePoint.{EnqueuePoint}
use Rattle.lane_steps.specs.declared.point.EnqueuePoint.TheVariants.{StoreValue, LoadTail, LoadLink, LinkSingle, PassTail, MoveTail, LoadHead}
use Rattle.lane_steps.specs.declared.point.Point.{Point}
use Rattle.lane_steps.specs.declared.point.Point.TheVariants as point
use Rattle.lane_steps.specs.State.{Caller, State, read, tail_in}
use Rattle.lane_steps.specs.Step.{target, after, step_at, closes, stepped}
use Rattle.core_model.specs.Facts.{Holds}
use Rattle.core_model.specs.Few.{IsEarly}
use Rattle.core_model.specs.Lawful.{Lawful}
use Rattle.core_model.proofs.Preserves.{known}
use Rattle.core_model.proofs.Rely.{world}
use Rattle.lane_steps.specs.Fact.{linked}
use Rattle.lane_rank.specs.Expected.{Keeps, IsThere, tail_at, nil_behind, chain_ahead}
use Rattle.lane_rank.specs.Rank.{rank}
use Rattle.lane_rank.specs.Return.{Onward}
use Rattle.lane_rank.proofs.Endings.{closes_light, ends_light}
use Rattle.lane_rank.proofs.Expecting.{linked_spot}
use Rattle.lane_rank.proofs.Onwards.{carry, gone, went, goes, loads, restarts}
use Rattle.lane_rank.proofs.Together.{left_tail, not_nil, no_node, never_shut}

-- where TAIL names p, whose link is a Chain, such a link is that of TAIL's row
pub chain_there : (s : State) (o : ℕ) (p : Place) (r : ℕ) → IsThere s.memory (tail_at p) ⊎ (o < rank s) → s.memory.link p.row ≡ Chain r → IsThere s.memory chain_ahead ⊎ (o < rank s)
chain_there s o p r (inl there) e = let same : s.memory.tail ≡ p = cc there in inl (r, ap (λ (q : Place). s.memory.link q.row) same ∙ e)
chain_there s o p r (inr below) e = inr below

-- TAIL isn't p after an exchange from p, whatever it found
pub not_tail : (t p : Place) (n : ℕ) → OfTail (tail_in (cond (same_place t p) (OfTail (record { row = n; count = p.count + 1 })) (OfTail t))) ≡ OfTail p → ⊥
not_tail t p n e = left_tail t p n (same_place t p) refl (cc e)

module _ (z : Shape) (s : State) (L : Lawful (lane_sizes z) s) (c M n o i : ℕ) (short : length (s.callers c).ops ≤ z.batch) (early : IsEarly z c (s.callers c)) (x : Item) where
  abbrev me : Caller
  me = s.callers c

  -- its point in the call, and what it keeps there
  abbrev at : EnqueuePoint → Point
  at p = point.Enqueue x p

  abbrev on : EnqueuePoint → Caller
  on p = stepped me (at p)

  module _ (p : Place) where
    link_found : (is : (s.callers c).point ≡ point.Enqueue x (LoadLink p)) → Keeps s (point.Enqueue x (LoadLink p)) o i → (l : LinkWord) → s.memory.link p.row ≡ l
        → Onward M z (step_at (lane_sizes z) s c (point.Enqueue x (LoadLink p))) (s.callers c) (stepped (s.callers c) (point.Enqueue x (after_link p l))) o i
    link_found is K l e = by l e where
      held : Holds (lane_sizes z) (world s L.ghost) c (linked p)
      held = (known (lane_sizes z) s L c (at (LoadLink p)) is).here.0

      by : (l : LinkWord) → s.memory.link p.row ≡ l → Onward M z (step_at (lane_sizes z) s c (point.Enqueue x (LoadLink p))) (s.callers c) (stepped (s.callers c) (point.Enqueue x (after_link p l))) o i
      by Nil e = goes z s L c M (at (LoadLink p)) is o i K (on (LinkSingle p)) (at (LinkSingle p)) refl (carry z s L c M (at (LoadLink p)) is o i K (nil_behind p ∷ tail_at p ∷ []) (linked_spot (lane_sizes z) s L c p held, (tt, tt)) (inl (ap OfLink e), K.outer_there)) tt (omega arith)
      by (Single r) e = goes z s L c M (at (LoadLink p)) is o i K (on (PassTail p r)) (at (PassTail p r)) refl (carry z s L c M (at (LoadLink p)) is o i K (tail_at p ∷ []) (tt, tt) K.outer_there) tt (omega arith)
      by (Chain r) e = goes z s L c M (at (LoadLink p)) is o i K (on LoadHead) (at LoadHead) refl (carry z s L c M (at (LoadLink p)) is o i K (chain_ahead ∷ []) (tt, tt) (chain_there s o p r K.outer_there.0 e, tt)) tt (omega arith)
      by Shut e = absurd (never_shut (lane_sizes z) s L c p held e)

    links : (is : (s.callers c).point ≡ point.Enqueue x (LinkSingle p)) → Keeps s (point.Enqueue x (LinkSingle p)) o i → (b : Bool) → is_nil (s.memory.link p.row) ≡ b
        → Onward M z (step_at (lane_sizes z) s c (point.Enqueue x (LinkSingle p))) (s.callers c) (stepped (s.callers c) (point.Enqueue x (cond b (MoveTail p x.row) LoadTail))) o i
    links is K true e = goes z s L c M (at (LinkSingle p)) is o i K (on (MoveTail p x.row)) (at (MoveTail p x.row)) refl (carry z s L c M (at (LinkSingle p)) is o i K (tail_at p ∷ []) (tt, tt) K.outer_there.1) tt (omega arith)
    links is K false e = restarts z s L c M (at (LinkSingle p)) is o i K (on LoadTail) (at LoadTail) refl tt tt (gone z s L c M (at (LinkSingle p)) is o i K o (nil_behind p) K.outer_there.0 (λ nil. not_nil (s.memory.link p.row) e (cc nil))) (omega arith)

    passes : (r : ℕ) (is : (s.callers c).point ≡ point.Enqueue x (PassTail p r)) → Keeps s (point.Enqueue x (PassTail p r)) o i
        → Onward M z (step_at (lane_sizes z) s c (point.Enqueue x (PassTail p r))) (s.callers c) (stepped (s.callers c) (point.Enqueue x LoadTail)) o i
    passes r is K = restarts z s L c M (at (PassTail p r)) is o i K (on LoadTail) (at LoadTail) refl tt tt (went z s L c M (at (PassTail p r)) is o i K o (tail_at p) tt K.outer_past K.outer_there.0 (not_tail s.memory.tail p r)) (omega arith)

  head_found : (is : (s.callers c).point ≡ point.Enqueue x LoadHead) → Keeps s (point.Enqueue x LoadHead) o i → (w : HeadWord) → s.memory.head ≡ w
      → Onward M z (step_at (lane_sizes z) s c (point.Enqueue x LoadHead)) (s.callers c) (stepped (s.callers c) (after_head x w)) o i
  head_found is K (Node p) e = restarts z s L c M (at LoadHead) is o i K (on LoadTail) (at LoadTail) refl tt tt (gone z s L c M (at LoadHead) is o i K o chain_ahead K.outer_there.0 (λ ahead. no_node (lane_sizes z) s L ahead.0 ahead.1 p e)) (omega arith)
  head_found is K (Ann a m) e = loads z s L c M (at LoadHead) is o i K (stepped me (after_head x (Ann a m))) (point.Guard (guard.Help (help_of a m (back.Enqueue x))) StoreHazard) refl (inl (ap OfHead e), tt) tt (omega arith)

  pub enqueue_onward : (p : EnqueuePoint) → (s.callers c).point ≡ point.Enqueue x p → Keeps s (point.Enqueue x p) o i
      → Onward M z (step_at (lane_sizes z) s c (point.Enqueue x p)) (s.callers c) (after (lane_sizes z) n c (s.callers c) (point.Enqueue x p) (read s.memory (target c (point.Enqueue x p)))) o i
  enqueue_onward StoreValue is K = goes z s L c M (at StoreValue) is o i K (on LoadTail) (at LoadTail) refl tt tt (omega arith)
  enqueue_onward LoadTail is K = let t = point.Guard (guard.Enqueue x s.memory.tail) StoreHazard in loads z s L c M (at LoadTail) is o i K (stepped me t) t refl (inl refl, tt) tt (omega arith)
  enqueue_onward (LoadLink p) is K = link_found p is K (s.memory.link p.row) refl
  enqueue_onward (LinkSingle p) is K = links p is K (is_nil (s.memory.link p.row)) refl
  enqueue_onward (PassTail p r) is K = passes p r is K
  enqueue_onward (MoveTail p r) is K = ends_light z s L c M (at (MoveTail p r)) is o i K (closes n c me (Plain Done)) (omega arith) (closes_light M z n c me short early (Plain Done))
  enqueue_onward LoadHead is K = head_found is K s.memory.head refl
