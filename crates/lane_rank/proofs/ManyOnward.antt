-- A batch of dequeues alone goes on, with the ranks that its owner kept.
use Rattle.std.proofs.Common.{◌≡◌, ◌⊎◌, inl, inr, nat_le, ℕ, zero, suc, ◌+◌, ◌-◌, ◌<◌, ◌≤◌, ◌++◌, Bool, true, false, cond, List, [], ◌∷◌, length, sym, refl, ap, ◌∙◌, arith, Option, Some, None}
use Rattle.std.proofs.lemmas.Bool.{leb-false}
use mathlib.Core.Logic.{dite}
use native.Mathlib.Decide.{dec_le}
use Rattle.bq_model.specs.declared.shape.Shape.{Shape}
use Rattle.word_rows.specs.declared.place.Place.{Place}
use Rattle.word_rows.specs.declared.head_word.HeadWord.{HeadWord}
use Rattle.word_rows.specs.declared.head_word.HeadWord.TheVariants.{Node, Ann}
use Rattle.word_rows.specs.declared.link_word.LinkWord.{LinkWord}
use Rattle.word_rows.specs.declared.link_word.LinkWord.TheVariants.{Nil, Single, Chain, Shut}
use Rattle.word_rows.specs.declared.location.AnnField.TheVariants as field
use Rattle.word_rows.specs.declared.content.Content.TheVariants.{OfHead}
use Rattle.lane_steps.specs.Act.{is_node}
use Rattle.lane_steps.specs.Help.{help_of}
use Rattle.lane_steps.specs.LaneSizes.{LaneSizes, lane_sizes}
use Rattle.lane_steps.specs.Many.{after_head, after_chained, after_dummy, announces, after_link, after_value, after_behind, on_dummy}
use Rattle.lane_steps.specs.Take.{search}
use Rattle.lane_steps.specs.declared.course.Course.TheVariants.{GoesOn, Moves}
use Rattle.lane_steps.specs.declared.point.Back.TheVariants as back
use Rattle.lane_steps.specs.declared.point.BatchPoint.TheVariants as batch
use Rattle.lane_steps.specs.declared.point.Closing.TheVariants.{Batch}
use Rattle.lane_steps.specs.declared.point.Plan.{Plan}
use Rattle.lane_steps.specs.declared.point.Taking.TheVariants as taking
use Rattle.lane_steps.specs.declared.point.Guarding.TheVariants as guard
use Rattle.lane_steps.specs.declared.point.GuardPoint.TheVariants.{StoreHazard}
use Rattle.lane_steps.specs.declared.point.ManyPoint.{ManyPoint}
use Rattle.lane_steps.specs.declared.point.ManyPoint.TheVariants.{LoadHead, LoadDummy, LoadLink, LoadValue, LoadTail, MoveHead, LoadBehind, PassTail, LoadChained}
use Rattle.lane_steps.specs.declared.point.Point.{Point}
use Rattle.lane_steps.specs.declared.point.Point.TheVariants as point
use Rattle.lane_steps.specs.State.{Caller, State, read}
use Rattle.lane_steps.specs.Step.{target, after, followed, step_at, closes, marks_all, stepped, stepped_with}
use Rattle.core_model.specs.Few.{IsEarly}
use Rattle.core_model.specs.Ghost.{Ghost}
use Rattle.core_model.specs.Lawful.{Lawful}
use Rattle.core_model.proofs.Preserves.{known}
use Rattle.core_model.proofs.Lookups.{node_found}
use Rattle.core_model.proofs.HelpMoves.{joint_nil, joint_shut}
use Rattle.lane_rank.specs.Expected.{AllThere, Keeps, IsThere, head_node, tail_at, chain_ahead, link_ahead}
use Rattle.lane_rank.specs.Rank.{rank}
use Rattle.lane_rank.specs.Return.{Onward}
use Rattle.lane_rank.proofs.Endings.{closes_light, marks_light, ends_light}
use Rattle.lane_rank.proofs.EnqueueOnward.{chain_there, not_tail}
use Rattle.lane_rank.proofs.Onwards.{carry, above, gone, went, goes, loads, restarts}
use Rattle.lane_rank.proofs.Together.{not_node, no_node, never_shut}

module _ (w : Shape) (s : State) (L : Lawful (lane_sizes w) s) (c : ℕ) (d : Plan) where
  abbrev z : LaneSizes
  z = lane_sizes w

  abbrev G : Ghost
  G = L.ghost

  abbrev dummy : Place
  dummy = d.notice.old_head

  abbrev values : List ℕ
  values = (s.callers c).values

  nil_open : Nil ≡ Shut → ⊥
  nil_open e = cc e

  -- the count of the dummy that HEAD names
  head_count : s.memory.head ≡ Node d.notice.old_head → d.notice.old_head.count ≡ (lane_sizes w).first + L.ghost.head
  head_count head = ap (λ (q : Place). q.count) (node_found z s L c dummy head).1

  -- a row of the walk has no Shut while its dummy is in HEAD
  walked_open : (r l : ℕ) → (s.callers c).point ≡ point.Many d (LoadLink r l) → s.memory.head ≡ Node d.notice.old_head → s.memory.link r ≡ Shut → ⊥
  walked_open r l is head e = let f = (known z s L c (point.Many d (LoadLink r l)) is).here.1.0.there (head_count head) in let n = length values in dite (dec_le (suc n) G.rest)
      (λ more. joint_shut z s L c (G.chained (G.head + n)) (G.path (suc (G.head + n))) (sym (L.list.rows.joined (G.head + n) (omega arith) (omega arith)) ∙ (ap s.memory.link f.1 ∙ e)))
      (λ end. nil_open (sym L.list.rows.last ∙ (ap (λ (j : ℕ). s.memory.link (G.path (G.head + j))) (let le = f.0 in let same : G.rest ≡ n = omega arith in same) ∙ (ap s.memory.link f.1 ∙ e))))

  -- a tail before the new dummy has a row behind it, while the old dummy is in HEAD
  some_behind : (r : ℕ) → (s.callers c).point ≡ point.Many d (LoadTail r) → nat_le d.notice.counts.deqs (s.memory.tail.count - d.notice.old_head.count) ≡ false → s.memory.head ≡ Node d.notice.old_head → s.memory.link s.memory.tail.row ≡ Nil → ⊥
  some_behind r is short head e = let f = (known z s L c (point.Many d (LoadTail r)) is).here in let le = (f.1.0.there (head_count head)).0 in let all = f.1.1.0 in let few = leb-false d.notice.counts.deqs (s.memory.tail.count - d.notice.old_head.count) short in
      let count = head_count head in let tail = ap (λ (p : Place). p.count) L.list.tail.named in let from = L.list.tail.after_head in
      joint_nil z s L c (G.chained G.tail) (G.path (suc G.tail)) (sym (L.list.rows.joined G.tail L.list.tail.after_head (omega arith)) ∙ (ap (λ (p : Place). s.memory.link p.row) (sym L.list.tail.named) ∙ e))

module _ (z : Shape) (s : State) (L : Lawful (lane_sizes z) s) (c M n o i : ℕ) (short : length (s.callers c).ops ≤ z.batch) (early : IsEarly z c (s.callers c)) (d : Plan) where
  abbrev me : Caller
  me = s.callers c

  -- its point in the call, and what it keeps there
  abbrev at : ManyPoint → Point
  at p = point.Many d p

  abbrev on : ManyPoint → Caller
  on p = stepped me (at p)

  still_there : (p : ManyPoint) (is : (s.callers c).point ≡ point.Many d p) → Keeps s (point.Many d p) o i → AllThere s o (head_node d.notice.old_head ∷ []) → AllThere (step_at (lane_sizes z) s c (point.Many d p)) o (head_node d.notice.old_head ∷ [])
  still_there p is K there = carry z s L c M (at p) is o i K (head_node d.notice.old_head ∷ []) (tt, tt) there

  -- it begins its walk again
  walks_again : (p : ManyPoint) (is : (s.callers c).point ≡ point.Many d p) → Keeps s (point.Many d p) o i → o < rank (step_at (lane_sizes z) s c (point.Many d p))
      → Onward M z (step_at (lane_sizes z) s c (point.Many d p)) (s.callers c) (stepped (s.callers c) (point.Many d LoadHead)) o i
  walks_again p is K up = restarts z s L c M (at p) is o i K (on LoadHead) (at LoadHead) refl tt tt up (omega arith)

  head_found : (is : (s.callers c).point ≡ point.Many d LoadHead) → Keeps s (point.Many d LoadHead) o i → (w : HeadWord) → s.memory.head ≡ w
      → Onward M z (step_at (lane_sizes z) s c (point.Many d LoadHead)) (s.callers c) (stepped (s.callers c) (after_head d w)) o i
  head_found is K (Node p) e = let t = point.Guard (guard.Many (on_dummy d p)) StoreHazard in loads z s L c M (at LoadHead) is o i K (stepped me t) t refl (inl (ap OfHead e), tt) tt (omega arith)
  head_found is K (Ann a m) e = let t = point.Guard (guard.Help (help_of a m (back.Many d))) StoreHazard in loads z s L c M (at LoadHead) is o i K (stepped me t) t refl (inl (ap OfHead e), tt) tt (omega arith)

  head_chained : (is : (s.callers c).point ≡ point.Many d LoadChained) → Keeps s (point.Many d LoadChained) o i → (w : HeadWord) → s.memory.head ≡ w
      → Onward M z (step_at (lane_sizes z) s c (point.Many d LoadChained)) (s.callers c) (stepped (s.callers c) (after_chained d w)) o i
  head_chained is K (Node p) e = walks_again LoadChained is K (gone z s L c M (at LoadChained) is o i K o chain_ahead K.outer_there.0 (λ ahead. no_node (lane_sizes z) s L ahead.0 ahead.1 p e))
  head_chained is K (Ann a m) e = let t = point.Guard (guard.Help (help_of a m (back.Many d))) StoreHazard in loads z s L c M (at LoadChained) is o i K (stepped me t) t refl (inl (ap OfHead e), tt) tt (omega arith)

  dummy_linked : d.notice.counts.deqs ≤ M → (is : (s.callers c).point ≡ point.Many d LoadDummy) → Keeps s (point.Many d LoadDummy) o i → (l : LinkWord) → s.memory.link d.notice.old_head.row ≡ l
      → Onward M z (step_at (lane_sizes z) s c (point.Many d LoadDummy)) (s.callers c) (followed (lane_sizes z) n c (s.callers c) (after_dummy d l)) o i
  dummy_linked few is K Nil e = ends_light z s L c M (at LoadDummy) is o i K (closes n c me (Batch 0)) (omega arith) (closes_light M z n c me short early (Batch 0))
  dummy_linked few is K (Single r) e = let t = at (LoadValue r (d.notice.counts.deqs - 1)) in goes z s L c M (at LoadDummy) is o i K (stepped_with me t [] []) t refl (still_there LoadDummy is K K.outer_there) tt (omega (arith, few))
  dummy_linked few is K (Chain r) e = let t = at (LoadValue r (d.notice.counts.deqs - 1)) in goes z s L c M (at LoadDummy) is o i K (stepped_with me t [] []) t refl (still_there LoadDummy is K K.outer_there) tt (omega (arith, few))
  dummy_linked few is K Shut e = absurd (never_shut (lane_sizes z) s L c d.notice.old_head (known (lane_sizes z) s L c (at LoadDummy) is).here.1.0 e)

  module _ (r l : ℕ) where
    -- there are too few values
    announced : (is : (s.callers c).point ≡ point.Many d (LoadLink r l)) → Keeps s (point.Many d (LoadLink r l)) o i → (a : Option ℕ)
        → Onward M z (step_at (lane_sizes z) s c (point.Many d (LoadLink r l))) (s.callers c) (followed (lane_sizes z) n c (s.callers c) (announces d.notice a)) o i
    announced is K None = let t = search (lane_sizes z) c (taking.Stopper d.notice) in goes z s L c M (at (LoadLink r l)) is o i K (stepped me t) t refl (still_there (LoadLink r l) is K K.outer_there) tt (omega arith)
    announced is K (Some a) = let t = point.Batch (record { ann = a; notice = d.notice }) (batch.StoreAll field.OldHead) in goes z s L c M (at (LoadLink r l)) is o i K (stepped me t) t refl (still_there (LoadLink r l) is K K.outer_there) tt (omega arith)

    row_linked : (is : (s.callers c).point ≡ point.Many d (LoadLink r l)) → Keeps s (point.Many d (LoadLink r l)) o i → (x : LinkWord) → s.memory.link r ≡ x
        → Onward M z (step_at (lane_sizes z) s c (point.Many d (LoadLink r l))) (s.callers c) (followed (lane_sizes z) n c (s.callers c) (after_link d l x)) o i
    row_linked is K Nil e = announced is K d.ann
    row_linked is K (Single q) e = goes z s L c M (at (LoadLink r l)) is o i K (on (LoadValue q l)) (at (LoadValue q l)) refl (still_there (LoadLink r l) is K K.outer_there) tt (omega arith)
    row_linked is K (Chain q) e = goes z s L c M (at (LoadLink r l)) is o i K (on (LoadValue q l)) (at (LoadValue q l)) refl (still_there (LoadLink r l) is K K.outer_there) tt (omega arith)
    row_linked is K Shut e = walks_again (LoadLink r l) is K (gone z s L c M (at (LoadLink r l)) is o i K o (head_node d.notice.old_head) K.outer_there.0 (λ head. walked_open z s L c d r l is (cc head) e))

  value_found : (r l : ℕ) (is : (s.callers c).point ≡ point.Many d (LoadValue r l)) → Keeps s (point.Many d (LoadValue r l)) o i → (v : ℕ)
      → Onward M z (step_at (lane_sizes z) s c (point.Many d (LoadValue r l))) (s.callers c) (stepped_with (s.callers c) (point.Many d (after_value r l)) ((s.callers c).values ++ v ∷ []) ((s.callers c).walked ++ r ∷ [])) o i
  value_found r zero is K v = goes z s L c M (at (LoadValue r zero)) is o i K (stepped_with me (at (LoadTail r)) (me.values ++ v ∷ []) (me.walked ++ r ∷ [])) (at (LoadTail r)) refl (still_there (LoadValue r zero) is K K.outer_there) tt (omega arith)
  value_found r (suc l) is K v = goes z s L c M (at (LoadValue r (suc l))) is o i K (stepped_with me (at (LoadLink r l)) (me.values ++ v ∷ []) (me.walked ++ r ∷ [])) (at (LoadLink r l)) refl (still_there (LoadValue r (suc l)) is K K.outer_there) tt (omega arith)

  module _ (r : ℕ) where
    tail_found : (is : (s.callers c).point ≡ point.Many d (LoadTail r)) → Keeps s (point.Many d (LoadTail r)) o i → (b : Bool) → nat_le d.notice.counts.deqs (s.memory.tail.count - d.notice.old_head.count) ≡ b
        → Onward M z (step_at (lane_sizes z) s c (point.Many d (LoadTail r))) (s.callers c) (stepped (s.callers c) (cond b (point.Many d (MoveHead r)) (point.Guard (guard.ManyTail d s.memory.tail) StoreHazard))) o i
    tail_found is K true e = goes z s L c M (at (LoadTail r)) is o i K (on (MoveHead r)) (at (MoveHead r)) refl (still_there (LoadTail r) is K K.outer_there) tt (omega arith)
    tail_found is K false e = let t = point.Guard (guard.ManyTail d s.memory.tail) StoreHazard in goes z s L c M (at (LoadTail r)) is o i K (stepped me t) t refl
        (carry z s L c M (at (LoadTail r)) is o i K (tail_at s.memory.tail ∷ link_ahead ∷ []) (tt, (tt, tt)) (inl refl, (by K.outer_there.0, tt))) tt (omega arith) where
          by : IsThere s.memory (head_node d.notice.old_head) ⊎ (o < rank s) → IsThere s.memory link_ahead ⊎ (o < rank s)
          by (inl head) = inl (some_behind z s L c d r is e (cc head))
          by (inr below) = inr below

    moves : (is : (s.callers c).point ≡ point.Many d (MoveHead r)) → Keeps s (point.Many d (MoveHead r)) o i → (b : Bool) → is_node s.memory.head d.notice.old_head ≡ b
        → Onward M z (step_at (lane_sizes z) s c (point.Many d (MoveHead r))) (s.callers c) (followed (lane_sizes z) n c (s.callers c) (cond b (Moves d.notice.old_head d.notice.counts.deqs) (GoesOn (point.Many d LoadHead)))) o i
    moves is K true e = ends_light z s L c M (at (MoveHead r)) is o i K (marks_all n c me (Batch d.notice.counts.deqs) false d.notice.old_head) (omega arith) (marks_light M z n c me short early (Batch d.notice.counts.deqs) false d.notice.old_head)
    moves is K false e = walks_again (MoveHead r) is K (gone z s L c M (at (MoveHead r)) is o i K o (head_node d.notice.old_head) K.outer_there.0 (λ there. not_node s.memory.head d.notice.old_head e (cc there)))

  behind_linked : (p : Place) (is : (s.callers c).point ≡ point.Many d (LoadBehind p)) → Keeps s (point.Many d (LoadBehind p)) o i → (x : LinkWord) → s.memory.link p.row ≡ x
      → Onward M z (step_at (lane_sizes z) s c (point.Many d (LoadBehind p))) (s.callers c) (stepped (s.callers c) (point.Many d (after_behind p x))) o i
  behind_linked p is K Nil e = walks_again (LoadBehind p) is K (by K.outer_there.0) where
    by : IsThere s.memory (tail_at p) ⊎ (o < rank s) → o < rank (step_at (lane_sizes z) s c (point.Many d (LoadBehind p)))
    by (inl there) = let same : s.memory.tail ≡ p = cc there in gone z s L c M (at (LoadBehind p)) is o i K o link_ahead K.outer_there.1.0 (λ some. some (ap (λ (q : Place). s.memory.link q.row) same ∙ e))
    by (inr below) = above z s L c M (at (LoadBehind p)) is o i K o below
  behind_linked p is K (Single r) e = goes z s L c M (at (LoadBehind p)) is o i K (on (PassTail p r)) (at (PassTail p r)) refl (carry z s L c M (at (LoadBehind p)) is o i K (tail_at p ∷ []) (tt, tt) (K.outer_there.0, tt)) tt (omega arith)
  behind_linked p is K (Chain r) e = goes z s L c M (at (LoadBehind p)) is o i K (on LoadChained) (at LoadChained) refl (carry z s L c M (at (LoadBehind p)) is o i K (chain_ahead ∷ []) (tt, tt) (chain_there s o p r K.outer_there.0 e, tt)) tt (omega arith)
  behind_linked p is K Shut e = absurd (never_shut (lane_sizes z) s L c p (known (lane_sizes z) s L c (at (LoadBehind p)) is).here.1.0 e)

  -- where its dequeues are no more than M
  pub many_onward : d.notice.counts.deqs ≤ M → (p : ManyPoint) → (s.callers c).point ≡ point.Many d p → Keeps s (point.Many d p) o i
      → Onward M z (step_at (lane_sizes z) s c (point.Many d p)) (s.callers c) (after (lane_sizes z) n c (s.callers c) (point.Many d p) (read s.memory (target c (point.Many d p)))) o i
  many_onward few LoadHead is K = head_found is K s.memory.head refl
  many_onward few LoadDummy is K = dummy_linked few is K (s.memory.link d.notice.old_head.row) refl
  many_onward few (LoadLink r l) is K = row_linked r l is K (s.memory.link r) refl
  many_onward few (LoadValue r l) is K = value_found r l is K (s.memory.value r)
  many_onward few (LoadTail r) is K = tail_found r is K (nat_le d.notice.counts.deqs (s.memory.tail.count - d.notice.old_head.count)) refl
  many_onward few (MoveHead r) is K = moves r is K (is_node s.memory.head d.notice.old_head) refl
  many_onward few (LoadBehind p) is K = behind_linked p is K (s.memory.link p.row) refl
  many_onward few (PassTail p r) is K = walks_again (PassTail p r) is K (went z s L c M (at (PassTail p r)) is o i K o (tail_at p) tt K.outer_past K.outer_there.0 (not_tail s.memory.tail p r))
  many_onward few LoadChained is K = head_chained is K s.memory.head refl
