-- Each step of a dequeue keeps the lane lawful.
use Rattle.std.proofs.Common.{◌≡◌, ℕ, suc, ◌+◌, ◌<◌, ◌≤◌, Bool, true, false, cond, List, [], ◌∷◌, ◌++◌, length, sym, refl, ap, ◌∙◌, subst, arith, ◌≢◌, eqb, eq-eqb, ◌-◌}
use Rattle.bq_model.specs.declared.op.Op.TheVariants.{Deq}
use Rattle.bq_model.specs.declared.op.Answer.TheVariants.{Got, Empty}
use Rattle.bq_model.specs.Queue.{Queue, unshut}
use Rattle.bq_model.specs.NoShut.{NoShut}
use Rattle.bq_model.specs.Values.{enqueued}
use Rattle.bq_model.specs.declared.group.Group.{Group}
use Rattle.bq_model.specs.Replay.{answers_from, queue_from}
use Rattle.bq_model.specs.History.{last_queue}
use Rattle.word_rows.specs.declared.place.Place.{Place}
use Rattle.word_rows.specs.declared.head_word.HeadWord.{HeadWord}
use Rattle.word_rows.specs.declared.head_word.HeadWord.TheVariants.{Node, Ann}
use Rattle.word_rows.specs.declared.link_word.LinkWord.{LinkWord}
use Rattle.word_rows.specs.declared.link_word.LinkWord.TheVariants.{Nil, Single, Chain, Shut}
use Rattle.word_rows.specs.declared.location.Location.TheVariants.{Head, Link, Value}
use Rattle.word_rows.specs.declared.content.Content.TheVariants.{OfHead, OfLink, OfValue}
use Rattle.lane_steps.specs.declared.point.Closing.TheVariants.{Plain}
use Rattle.lane_steps.specs.declared.course.Course.TheVariants.{GoesOn, Passes}
use Rattle.lane_steps.specs.Functions.{run}
use Rattle.lane_steps.specs.LaneSizes.{LaneSizes}
use Rattle.lane_steps.specs.State.{Memory, State, command, write, own_group, head_in, tail_in}
use Rattle.lane_steps.specs.Act.{is_node, behind, same_place, location}
use Rattle.lane_steps.specs.Fact.{next_is, is_op, linked, linearized_is, own_rows}
use Rattle.lane_steps.specs.Step.{history_after, followed, step_with, step_at, stepped, closes}
use Rattle.core_model.specs.Facts.{Holds, Each, AtPoint}
use Rattle.core_model.specs.Ghost.{Ghost}
use Rattle.core_model.specs.Lawful.{Lawful}
use Rattle.core_model.proofs.Rely.{third, fourth, world}
use Rattle.core_model.proofs.Preserves.{known, stutters, changed, stutters_at, point_changes}
use Rattle.core_model.proofs.StoredAgain.{same_places, write_read}
use Rattle.std.proofs.lemmas.Bool.{and_from}
use mathlib.Core.Logic.{dite}
use native.Mathlib.Decide.{dec_le}
use Rattle.lane_steps.specs.Help.{help_of}
use Rattle.lane_steps.specs.declared.point.DequeuePoint.{DequeuePoint}
use Rattle.core_model.proofs.Tails.{exchanges, with_memory}
use Rattle.core_model.proofs.Lookups.{next_found, node_found, is_last}
use Rattle.core_model.proofs.Owners.{none_enter}
use Rattle.core_model.proofs.Losses.{no_rows}
use Rattle.lane_steps.specs.declared.point.ClosePoint.TheVariants as close
use Rattle.lane_steps.specs.declared.point.Guarding.TheVariants as guard
use Rattle.lane_steps.specs.declared.point.GuardPoint.TheVariants.{StoreHazard}
use Rattle.bq_model.specs.declared.shape.Shape.{Shape}
use Rattle.word_rows.specs.declared.content.Content.{Content}
use Rattle.word_rows.specs.Contents.{MayHold}
use Rattle.word_rows.specs.Fits.{limits_of, PlaceFits}
use Rattle.lane_steps.specs.Coded.{PointFits, CourseFits}
use Rattle.core_model.proofs.Fitting.{fresh_help, course_either}
use Rattle.lane_steps.specs.declared.point.Point.TheVariants as point
use Rattle.lane_steps.specs.declared.point.DequeuePoint.TheVariants as deq
use Rattle.lane_steps.specs.declared.point.Back.TheVariants as back
use Rattle.lane_steps.specs.Dequeue as dequeue
use Rattle.core_model.proofs.HeadMoves.{bare_queue, none_queued, head_moved, found_empty}

module _ (z : LaneSizes) (s : State) (L : Lawful z s) (c : ℕ) where
  abbrev G : Ghost
  G = L.ghost

  abbrev own : Group
  own = own_group c (s.callers c)

  deq_head : (x : HeadWord) → s.memory.head ≡ x → AtPoint z (world s L.ghost) c (s.callers c) (point.Dequeue deq.LoadHead) → Lawful z (step_with z s c (point.Dequeue deq.LoadHead) (OfHead x))
  deq_head (Node p) is f = stutters z s L c (point.Guard (guard.Dequeue p) StoreHazard) Head (OfHead (Node p)) (ap OfHead is) (record { call = f.call; here = tt })
  deq_head (Ann a n) is f = stutters z s L c (point.Guard (guard.Help (help_of a n back.Dequeue)) StoreHazard) Head (OfHead (Ann a n)) (ap OfHead is) (record { call = ((λ own. absurd own), f.call); here = tt })

  preserves_deq_head : (s.callers c).point ≡ (point.Dequeue deq.LoadHead) → Lawful z (step_at z s c (point.Dequeue deq.LoadHead))
  preserves_deq_head is = deq_head s.memory.head refl (known z s L c (point.Dequeue deq.LoadHead) is)

  -- a dequeue finds z s L c a link that isn't Nil
  deq_single : (p : Place) (n : ℕ) → s.memory.link p.row ≡ Single n → AtPoint z (world s L.ghost) c (s.callers c) (point.Dequeue (deq.LoadLink p)) → Lawful z (step_with z s c (point.Dequeue (deq.LoadLink p)) (OfLink (Single n)))
  deq_single p n is f = let next = next_found z s L c p n false f.here.0 is in
      stutters z s L c (point.Dequeue (deq.LoadTail p n)) (Link p.row) (OfLink (Single n)) (ap OfLink is) (record { call = f.call; here = (f.here.0, (f.here.1.0, (next.0, (next.1, tt)))) })

  deq_chain : (p : Place) (n : ℕ) → s.memory.link p.row ≡ Chain n → AtPoint z (world s L.ghost) c (s.callers c) (point.Dequeue (deq.LoadLink p)) → Lawful z (step_with z s c (point.Dequeue (deq.LoadLink p)) (OfLink (Chain n)))
  deq_chain p n is f = let next = next_found z s L c p n true f.here.0 is in
      stutters z s L c (point.Dequeue (deq.LoadTailOver p n)) (Link p.row) (OfLink (Chain n)) (ap OfLink is) (record { call = f.call; here = (f.here.0, (f.here.1.0, (next.0, tt))) })

  deq_shut : (p : Place) → s.memory.link p.row ≡ Shut → AtPoint z (world s L.ghost) c (s.callers c) (point.Dequeue (deq.LoadLink p)) → Lawful z (step_with z s c (point.Dequeue (deq.LoadLink p)) (OfLink Shut))
  deq_shut p is f = stutters z s L c (point.Dequeue deq.LoadHead) (Link p.row) (OfLink Shut) (ap OfLink is) (record { call = f.call; here = tt })

  -- TAIL does not name the dummy p, so it is past that
  past : (p : Place) → (f : Holds z (world s L.ghost) c (linked p)) → p.count ≤ z.first + L.ghost.head → same_place s.memory.tail p ≡ false → p.count < z.first + L.ghost.tail
  past p f seen apart = let from = L.list.tail.after_head in let count = ap (λ (q : Place). q.count) L.list.tail.named in let row = ap (λ (q : Place). q.row) L.list.tail.named in let here = f.count in
      dite (dec_le (suc p.count) (z.first + G.tail)) (λ below. below) (λ above. let same : f.position ≡ G.tail = omega arith in
      absurd (differ (sym (and_from (eqb s.memory.tail.row p.row) (eqb s.memory.tail.count p.count) (eq-eqb s.memory.tail.row p.row (row ∙ (ap G.path (sym same) ∙ f.on.row))) (eq-eqb s.memory.tail.count p.count (omega arith))) ∙ apart))) where
        differ : true ≢ false
        differ e = cc e

  deq_tail : (p : Place) (n : ℕ) (b : Bool) → same_place s.memory.tail p ≡ b → AtPoint z (world s L.ghost) c (s.callers c) (point.Dequeue (deq.LoadTail p n)) → Lawful z (step_at z s c (point.Dequeue (deq.LoadTail p n)))
  deq_tail p n true is f = stutters_at z s L c (point.Dequeue (deq.LoadTail p n)) (point.Dequeue (deq.PassTail p n)) refl refl (ap (λ (b : Bool). GoesOn (point.Dequeue (cond b (deq.PassTail p n) (deq.LoadValue p n)))) is) (record { call = f.call; here = ((third f.here), ((fourth f.here), tt)) })
  deq_tail p n false is f = stutters_at z s L c (point.Dequeue (deq.LoadTail p n)) (point.Dequeue (deq.LoadValue p n)) refl refl (ap (λ (b : Bool). GoesOn (point.Dequeue (cond b (deq.PassTail p n) (deq.LoadValue p n)))) is)
      (record { call = f.call; here = (f.here.1.0, ((third f.here), (past p f.here.0 f.here.1.0 is, tt))) })

  preserves_deq_tail : (p : Place) (n : ℕ) → (s.callers c).point ≡ point.Dequeue (deq.LoadTail p n) → Lawful z (step_at z s c (point.Dequeue (deq.LoadTail p n)))
  preserves_deq_tail p n is = deq_tail p n (same_place s.memory.tail p) refl (known z s L c (point.Dequeue (deq.LoadTail p n)) is)

  deq_over : (p : Place) (n : ℕ) (b : Bool) → same_place s.memory.tail p ≡ b → AtPoint z (world s L.ghost) c (s.callers c) (point.Dequeue (deq.LoadTailOver p n)) → Lawful z (step_at z s c (point.Dequeue (deq.LoadTailOver p n)))
  deq_over p n true is f = stutters_at z s L c (point.Dequeue (deq.LoadTailOver p n)) (point.Dequeue deq.LoadHead) refl refl (ap (λ (b : Bool). GoesOn (point.Dequeue (cond b deq.LoadHead (deq.LoadValue p n)))) is) (record { call = f.call; here = tt })
  deq_over p n false is f = stutters_at z s L c (point.Dequeue (deq.LoadTailOver p n)) (point.Dequeue (deq.LoadValue p n)) refl refl (ap (λ (b : Bool). GoesOn (point.Dequeue (cond b deq.LoadHead (deq.LoadValue p n)))) is)
      (record { call = f.call; here = (f.here.1.0, ((third f.here), (past p f.here.0 f.here.1.0 is, tt))) })

  preserves_deq_over : (p : Place) (n : ℕ) → (s.callers c).point ≡ point.Dequeue (deq.LoadTailOver p n) → Lawful z (step_at z s c (point.Dequeue (deq.LoadTailOver p n)))
  preserves_deq_over p n is = deq_over p n (same_place s.memory.tail p) refl (known z s L c (point.Dequeue (deq.LoadTailOver p n)) is)

  preserves_deq_value : (p : Place) (n : ℕ) → (s.callers c).point ≡ point.Dequeue (deq.LoadValue p n) → Lawful z (step_at z s c (point.Dequeue (deq.LoadValue p n)))
  preserves_deq_value p n is = let f = known z s L c (point.Dequeue (deq.LoadValue p n)) is in let next = f.here.1.0 in
      stutters z s L c (point.Dequeue (deq.MoveHead p n (s.memory.value n))) (Value n) (OfValue (s.memory.value n)) refl
      (record { call = f.call; here = (next, ((third f.here), ((f.here.0, λ e. let y = next.there G.head e in let inside = y.0 in (omega arith, ap s.memory.value y.1)), tt))) })

  -- the command has no rows of a batch
  bare : (f : Each z (world s L.ghost) c (dequeue.call_knows (command (s.callers c)))) → Holds z (world s L.ghost) c (linearized_is false (s.callers c).rows [] []) × Holds z (world s L.ghost) c (own_rows (s.callers c).rows)
  bare f = (subst (λ (rows : List ℕ). Holds z (world s L.ghost) c (linearized_is false rows [] [])) (sym f.1.0.2) f.0, no_rows z c (world s L.ghost) (s.callers c).rows f.1.0.2)

  some_ops : (f : Each z (world s L.ghost) c (dequeue.call_knows (command (s.callers c)))) → (s.callers c).ops ≢ []
  some_ops f none = never (sym f.1.0.0 ∙ none) where
    never : Deq ∷ [] ≡ [] → ⊥
    never e = cc e

  -- HEAD moves by one row
  moved : (p : Place) (n v : ℕ) → AtPoint z (world s L.ghost) c (s.callers c) (point.Dequeue (deq.MoveHead p n v)) → s.memory.head ≡ Node p
      → Lawful z (changed s c (record s.memory { head = Node (behind p n) }) (s.history ++ own_group c (s.callers c) ∷ []) (record (s.callers c) { point = point.Close (Plain (Got v)) (close.MarkRow p false true false); walked = n ∷ [] }))
  moved p n v f head = head_moved z s L c p n 1 (n ∷ []) (Plain (Got v)) refl (bare f.call).0 (bare f.call).1 op.1 (some_ops f.call) (subst NoShut (sym op.0) tt) (ap enqueued op.0) head (omega arith) refl (ap (λ (r : ℕ). r ∷ []) (sym (next.there G.head count).1)) (let l = there.0 in omega arith)
      (sym (next.there G.head count).1 ∙ ap G.path (let e : suc G.head ≡ G.head + 1 = omega arith in e)) (let l = f.here.1.0 in let cnt = count in omega arith)
      (ap (λ (q : Queue). answers_from q (Deq ∷ [])) (sym queue_was) ∙ ap (answers_from (last_queue s.history)) (sym op.0))
      (ap (queue_from (last_queue s.history)) op.0 ∙ (ap (λ (q : Queue). queue_from q (Deq ∷ [])) queue_was ∙ ap (λ (j : ℕ). unshut (run value_at j (G.rest - 1))) (let e : suc (suc G.head) ≡ suc G.head + 1 = omega arith in e))) where
        op : Holds z (world s L.ghost) c (is_op (s.callers c).ops (s.callers c).rows Deq)
        op = f.call.1.0

        next : Holds z (world s L.ghost) c (next_is p n)
        next = f.here.0

        value_at : ℕ → ℕ
        value_at j = s.memory.value (L.ghost.path j)

        count : p.count ≡ z.first + G.head
        count = ap (λ (q : Place). q.count) (node_found z s L c p head).1

        there : (0 < G.rest) × (value_at (suc G.head) ≡ v)
        there = (third f.here).1 count

        queue_was : last_queue s.history ≡ unshut (v ∷ run value_at (suc (suc G.head)) (G.rest - 1))
        queue_was = bare_queue z s L c (node_found z s L c p head).0 ∙ (ap (λ (n : ℕ). unshut (run value_at (suc G.head) n)) (let l = there.0 in let e : G.rest ≡ suc (G.rest - 1) = omega arith in e) ∙ ap (λ (y : ℕ). unshut (y ∷ run value_at (suc (suc G.head)) (G.rest - 1))) there.1)

  move_head : (p : Place) (n v : ℕ) (x : HeadWord) → s.memory.head ≡ x → (b : Bool) → is_node x p ≡ b → AtPoint z (world s L.ghost) c (s.callers c) (point.Dequeue (deq.MoveHead p n v))
      → Lawful z (changed s c (write s.memory Head (cond b (OfHead (Node (behind p n))) (OfHead x))) (history_after b s.history own)
      (followed z (length (history_after b s.history own)) c (s.callers c) (cond b (Passes (Plain (Got v)) p n) (GoesOn (point.Dequeue deq.LoadHead)))))
  move_head p n v x is false apart f = stutters z s L c (point.Dequeue deq.LoadHead) Head (OfHead x) (ap OfHead is) (record { call = f.call; here = tt })
  move_head p n v (Node q) is true same f = moved p n v f (is ∙ ap Node (same_places q p same))
  move_head p n v (Ann a m) is true same f = absurd (cc same)

  preserves_move_head : (p : Place) (n v : ℕ) → (s.callers c).point ≡ point.Dequeue (deq.MoveHead p n v) → Lawful z (step_at z s c (point.Dequeue (deq.MoveHead p n v)))
  preserves_move_head p n v is = move_head p n v s.memory.head refl (is_node s.memory.head p) refl (known z s L c (point.Dequeue (deq.MoveHead p n v)) is)

  -- the queue is empty: the command takes effect and ends
  empty : (p : Place) (x : LinkWord) → s.memory.link p.row ≡ x → (f : AtPoint z (world s L.ghost) c (s.callers c) (point.Dequeue (deq.LoadLink p))) → f.here.0.position ≡ L.ghost.head + L.ghost.rest
      → Lawful z (changed s c (write s.memory (Link p.row) (OfLink x)) (s.history ++ own_group c (s.callers c) ∷ []) (closes (length (s.history ++ own_group c (s.callers c) ∷ [])) c (s.callers c) (Plain Empty)))
  empty p x is f at_end = subst (λ (m : Memory). Lawful z (changed s c m (s.history ++ own ∷ []) (closes (length (s.history ++ own ∷ [])) c (s.callers c) (Plain Empty)))) (sym (ap (write s.memory (Link p.row)) (ap OfLink (sym is)) ∙ write_read s.memory (Link p.row)))
      (found_empty z s L c (Plain Empty) refl (bare f.call).0 (bare f.call).1 op.1 (some_ops f.call) (subst NoShut (sym op.0) tt) (none_enter (last_queue s.history).shut (s.callers c).ops (ap enqueued op.0)) (ap (λ (q : Queue). answers_from q (Deq ∷ [])) (sym none) ∙ ap (answers_from (last_queue s.history)) (sym op.0))
      (ap (queue_from (last_queue s.history)) op.0 ∙ (ap (λ (q : Queue). queue_from q (Deq ∷ [])) none ∙ sym none))) where
        op : Holds z (world s L.ghost) c (is_op (s.callers c).ops (s.callers c).rows Deq)
        op = f.call.1.0

        none : last_queue s.history ≡ unshut []
        none = none_queued z s L c p f.here.0 f.here.1.0 at_end

  deq_link : (p : Place) (x : LinkWord) → s.memory.link p.row ≡ x → AtPoint z (world s L.ghost) c (s.callers c) (point.Dequeue (deq.LoadLink p)) → Lawful z (step_with z s c (point.Dequeue (deq.LoadLink p)) (OfLink x))
  deq_link p Nil is f = empty p Nil is f (is_last z s L c p f.here.0 is)
  deq_link p (Single n) is f = deq_single p n is f
  deq_link p (Chain n) is f = deq_chain p n is f
  deq_link p Shut is f = deq_shut p is f

  preserves_deq_link : (p : Place) → (s.callers c).point ≡ point.Dequeue (deq.LoadLink p) → Lawful z (step_at z s c (point.Dequeue (deq.LoadLink p)))
  preserves_deq_link p is = deq_link p (s.memory.link p.row) refl (known z s L c (point.Dequeue (deq.LoadLink p)) is)

  preserves_deq_pass : (p : Place) (n : ℕ) → (s.callers c).point ≡ point.Dequeue (deq.PassTail p n) → Lawful z (step_at z s c (point.Dequeue (deq.PassTail p n)))
  preserves_deq_pass p n is = let f = known z s L c (point.Dequeue (deq.PassTail p n)) is in exchanges z s L c p n (stepped (s.callers c) (point.Dequeue deq.LoadHead)) f.here.0 f.here.1.0
      (λ memory l. let h = known z (with_memory z s L c memory) l c (point.Dequeue (deq.PassTail p n)) is in point_changes z (with_memory z s L c memory) l c (point.Dequeue deq.LoadHead) (record { call = h.call; here = tt })) (same_place s.memory.tail p) refl

  -- each step of a dequeue
  pub preserves_dequeue : (p : DequeuePoint) → (s.callers c).point ≡ point.Dequeue p → Lawful z (step_at z s c (point.Dequeue p))
  preserves_dequeue deq.LoadHead is = preserves_deq_head is
  preserves_dequeue (deq.LoadLink p) is = preserves_deq_link p is
  preserves_dequeue (deq.LoadTail p n) is = preserves_deq_tail p n is
  preserves_dequeue (deq.LoadTailOver p n) is = preserves_deq_over p n is
  preserves_dequeue (deq.PassTail p n) is = preserves_deq_pass p n is
  preserves_dequeue (deq.LoadValue p n) is = preserves_deq_value p n is
  preserves_dequeue (deq.MoveHead p n v) is = preserves_move_head p n v is

-- and it goes on with what fits
module _ (s : Shape) where
  head_fits : (x : HeadWord) → MayHold s Head (OfHead x) → PointFits s (dequeue.after_head x)
  head_fits (Node p) m = (tt, m.1)
  head_fits (Ann n k) m = (fresh_help s n k back.Dequeue m.1.0 m.1.1 tt, tt)

  link_fits : (p : Place) (x : LinkWord) → PlaceFits (limits_of s) p → MayHold s (Link p.row) (OfLink x) → CourseFits s (dequeue.after_link p x)
  link_fits p Nil a m = tt
  link_fits p (Single r) a m = (a, m.1)
  link_fits p (Chain r) a m = (a, m.1)
  link_fits p Shut a m = tt

  either_fits : (b : Bool) (p q : DequeuePoint) → dequeue.fits s p → dequeue.fits s q → dequeue.fits s (cond b p q)
  either_fits true p q a b = a
  either_fits false p q a b = b

  pub dequeue_fits : (p : DequeuePoint) (x : Content) → dequeue.fits s p → MayHold s (location (dequeue.act p)) x → CourseFits s (dequeue.course p x)
  dequeue_fits deq.LoadHead (OfHead x) a m = head_fits x m
  dequeue_fits (deq.LoadLink p) (OfLink x) a m = link_fits p x a m
  dequeue_fits (deq.LoadTail p r) x a m = either_fits (same_place (tail_in x) p) (deq.PassTail p r) (deq.LoadValue p r) a a
  dequeue_fits (deq.LoadTailOver p r) x a m = either_fits (same_place (tail_in x) p) deq.LoadHead (deq.LoadValue p r) tt a
  dequeue_fits (deq.PassTail p r) x a m = tt
  dequeue_fits (deq.LoadValue p r) x a m = a
  dequeue_fits (deq.MoveHead p r v) x a m = course_either s (is_node (head_in x) p) (Passes (Plain (Got v)) p r) (GoesOn (point.Dequeue deq.LoadHead)) a tt
  dequeue_fits _ _ a m = absurd m.0
