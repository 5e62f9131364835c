-- A caller makes sure of a row or an announcement: it names that in its hazard word, and holds it from a second load on that
-- finds the head or the tail as it was.
use Rattle.std.proofs.Common.{◌≡◌, ◌⊎◌, inl, ℕ, ◌+◌, ◌<◌, ◌≤◌, Bool, true, false, cond, length, sym, refl, ap, ◌∙◌, subst, arith, le_refl, Option, Some, None}
use Rattle.word_rows.specs.declared.place.Place.{Place}
use Rattle.word_rows.specs.declared.head_word.HeadWord.TheVariants.{Node, Ann}
use Rattle.word_rows.specs.declared.content.Content.{Content}
use Rattle.word_rows.specs.declared.content.Content.TheVariants.{OfHead, OfTail}
use Rattle.lane_steps.specs.declared.point.Back.{Back}
use Rattle.lane_steps.specs.declared.point.Back.TheVariants as back
use Rattle.lane_steps.specs.declared.point.Help.{Help}
use Rattle.lane_steps.specs.declared.point.Guarding.{Guarding}
use Rattle.lane_steps.specs.declared.point.Guarding.TheVariants as guard
use Rattle.lane_steps.specs.declared.point.GuardPoint.{GuardPoint}
use Rattle.lane_steps.specs.declared.point.GuardPoint.TheVariants.{StoreHazard, LoadAgain}
use Rattle.lane_steps.specs.declared.point.Hold.TheVariants.{Names, Held}
use Rattle.lane_steps.specs.declared.point.Point.{Point}
use Rattle.lane_steps.specs.declared.point.Point.TheVariants as point
use Rattle.lane_steps.specs.declared.course.Course.TheVariants.{GoesOn}
use Rattle.lane_steps.specs.Functions.{put}
use Rattle.lane_steps.specs.LaneSizes.{LaneSizes}
use Rattle.lane_steps.specs.Guard as guarding_of
use Rattle.lane_steps.specs.State.{Memory, Caller, command, State, read, head_in}
use Rattle.lane_steps.specs.Act.{same_content}
use Rattle.lane_steps.specs.Help.{back_facts, back_point}
use Rattle.lane_steps.specs.Guard.{guarded, source, expected, held, again, rehold}
use Rattle.lane_steps.specs.Fact.{helps, tail_over}
use Rattle.lane_steps.specs.Step.{stepped, holding, followed, step_at}
use Rattle.bq_model.specs.declared.shape.Shape.{Shape}
use Rattle.lane_steps.specs.Fits.{BackFits, HelpFits}
use Rattle.lane_steps.specs.Coded.{GuardingFits, PointFits, CourseFits}
use Rattle.core_model.proofs.Fitting.{course_either}
use Rattle.core_model.specs.Facts.{Holds, Each, AtPoint, IsOwn, Linked}
use Rattle.core_model.specs.Ghost.{Stage, unused, waiting, decided, positions, at, Installed}
use Rattle.core_model.specs.Lawful.{HelpsOwn, Lawful}
use Rattle.core_model.proofs.Puts.{put_here}
use Rattle.core_model.proofs.Rely.{world}
use Rattle.core_model.proofs.Preserves.{Plain, known, changed, plain_or_own, point_changes}
use Rattle.core_model.proofs.StoredAgain.{write_read, same_places}
use Rattle.core_model.proofs.Sames.{same_is}
use Rattle.core_model.proofs.Lookups.{on_list, node_found, ann_stands, not_there}
use Rattle.core_model.proofs.Known.{back_known}
use Rattle.core_model.proofs.HelpWalk.{goes_back}
use Rattle.core_model.proofs.Reholds.{Rehold, reheld, left, back_leaves, row_named, row_hazard_stored, ann_named, ann_hazard_stored, row_taken, row_hold_begun, ann_taken, ann_hold_begun}

module _ (z : LaneSizes) (s : State) (L : Lawful z s) (c : ℕ) where
  abbrev me : Caller
  me = s.callers c

  -- the store of a hazard word
  row_names : (n : ℕ) (t : Guarding) → AtPoint z (world s L.ghost) c (s.callers c) (point.Guard t StoreHazard) → AtPoint z (reheld z s L c (row_named z s L c (Some n))) c (holding (s.callers c) (point.Guard t LoadAgain) (Names n)) (point.Guard t LoadAgain)
      → Lawful z (changed s c (record s.memory { node_hazard = put s.memory.node_hazard c (Some n) }) s.history (holding (s.callers c) (point.Guard t LoadAgain) (Names n)))
  row_names n t f knows = row_hazard_stored z s L c (Some n) (Names n) refl refl (point.Guard t LoadAgain) (plain_or_own z s L c me (point.Guard t StoreHazard) f) knows

  abbrev N : ℕ → Rehold z s L c
  N n = row_named z s L c (Some n)

  abbrev word : (n : ℕ) → put s.memory.node_hazard c (Some n) c ≡ Some n
  word n = put_here s.memory.node_hazard c (Some n)

  stores : (t : Guarding) → AtPoint z (world s L.ghost) c (s.callers c) (point.Guard t StoreHazard) → Lawful z (step_at z s c (point.Guard t StoreHazard))
  stores (guard.Enqueue x p) f = row_names p.row (guard.Enqueue x p) f (record { call = left z s L c (N p.row) (guarding_of.call_knows c me (guard.Enqueue x p)) (tt, (tt, (tt, (tt, tt)))) f.call; here = (word p.row, tt) })
  stores (guard.Dequeue p) f = row_names p.row (guard.Dequeue p) f (record { call = left z s L c (N p.row) (guarding_of.call_knows c me (guard.Dequeue p)) (tt, (tt, tt)) f.call; here = (word p.row, tt) })
  stores (guard.Many d) f = row_names d.notice.old_head.row (guard.Many d) f
      (record { call = left z s L c (N d.notice.old_head.row) (guarding_of.call_knows c me (guard.Many d)) (tt, (tt, (tt, (tt, (tt, tt))))) f.call; here = (word d.notice.old_head.row, left z s L c (N d.notice.old_head.row) (guarding_of.seen (guard.Many d)) (tt, tt) f.here) })
  stores (guard.ManyTail d p) f = row_names p.row (guard.ManyTail d p) f
      (record { call = left z s L c (N p.row) (guarding_of.call_knows c me (guard.ManyTail d p)) (tt, (tt, (tt, (tt, (tt, tt))))) f.call; here = (word p.row, left z s L c (N p.row) (guarding_of.seen (guard.ManyTail d p)) (tt, tt) f.here) })
  stores (guard.HelpTail h p) f = row_names p.row (guard.HelpTail h p) f
      (record { call = left z s L c (N p.row) (guarding_of.call_knows c me (guard.HelpTail h p)) (refl, back_leaves z s L c (N p.row) (command me) h.ann h.back) f.call; here = (word p.row, tt) })
  stores (guard.Help h) f = ann_hazard_stored z s L c (Some h.ann) (Names h.ann) refl refl (point.Guard (guard.Help h) LoadAgain) (plain_or_own z s L c me (point.Guard (guard.Help h) StoreHazard) f)
      (record { call = left z s L c (ann_named z s L c (Some h.ann)) (guarding_of.call_knows c me (guard.Help h)) (tt, back_leaves z s L c (ann_named z s L c (Some h.ann)) (command me) h.ann h.back) f.call; here = (put_here s.memory.ann_hazard c (Some h.ann), tt) })

  -- HEAD has changed: of an own announcement that is installed and has left HEAD OldTail is known
  has_left : (a : ℕ) → Installed (world s L.ghost) a → (L.ghost.ann ≡ Some a → ⊥) → Holds z (world s L.ghost) c (tail_over a)
  has_left a there gone = by (L.ghost.stage a) refl where
    known_tail : (i : ℕ) → L.ghost.stage a ≡ decided i → (x : Option Place) → s.memory.old_tail a ≡ x → (q : Place) × (s.memory.old_tail a ≡ Some q)
    known_tail i d None none = absurd (gone (L.announced.unrecorded a i d none).0)
    known_tail i d (Some q) some = (q, some)

    by : (x : Stage) → L.ghost.stage a ≡ x → Holds z (world s L.ghost) c (tail_over a)
    by unused u = absurd (there u)
    by waiting w = absurd (gone (L.announced.waits a w).0)
    by (decided i) d = record { position = i; is_decided = d; known = known_tail i d (s.memory.old_tail a) refl; past = λ at. absurd (gone at) }

  leaves : (h : Help) (b : Back) → IsOwn b ≡ IsOwn h.back → ((s.memory.notice h.ann).old_head ≡ h.old_head → L.ghost.ann ≡ Some h.ann → ⊥) → Holds z (world s L.ghost) c (helps h) → Each z (world s L.ghost) c (back_facts c (command (s.callers c)) h.ann b)
      → AtPoint z (world s L.ghost) c (stepped (s.callers c) (back_point h b)) (back_point h b)
  leaves h back.Own same gone f g = let r = (f (subst (λ (t : Type 0). t) same tt)).0 in let left = gone (r.old_head (omega arith)) in goes_back z s L c h back.Own left r (has_left h.ann r.installed left) g
  leaves h (back.Enqueue i) same gone f g = record { call = g; here = tt }
  leaves h back.Dequeue same gone f g = record { call = g; here = tt }
  leaves h (back.Batch d) same gone f g = record { call = (g.0, (g.1.0, (g.1.1.0, (g.1.1.1.0, tt)))); here = g.1.1.1.1 }
  leaves h (back.Many d) same gone f g = record { call = (g.1.0, (g.1.1.0, (g.1.1.1.0, (g.1.1.1.1.0, (g.0, tt))))); here = g.1.1.1.1.1 }

  -- the second load found something else: it looks again
  lost : (t : Guarding) → same_content (read s.memory (source t)) (expected t) ≡ false → AtPoint z (world s L.ghost) c (s.callers c) (point.Guard t LoadAgain) → AtPoint z (world s L.ghost) c (stepped (s.callers c) (again t)) (again t)
  lost (guard.Enqueue x p) _ f = record { call = f.call; here = tt }
  lost (guard.Dequeue p) _ f = record { call = f.call; here = tt }
  lost (guard.Many d) _ f = record { call = f.call; here = f.here.1 }
  lost (guard.ManyTail d p) _ f = record { call = f.call; here = f.here.1 }
  lost (guard.HelpTail h p) _ f = record { call = f.call; here = tt }
  lost (guard.Help h) apart f = leaves h h.back refl (λ old at. not_there z s L c h s.memory.head refl apart old at) f.call.0 f.call.1

  -- it found a row of the list at this position, which the caller holds now
  module _ (p : Place) (i : ℕ) (place : p ≡ at z.first L.ghost.path i) (from : L.ghost.head ≤ i) (below : i < positions L.ghost) where
    count : p.count ≡ z.first + i
    count = ap (λ (q : Place). q.count) place

    row : p.row ≡ L.ghost.path i
    row = ap (λ (q : Place). q.row) place

    pub spot_there : L.ghost.spot p.row ≡ Some i
    spot_there = (on_list z s L c p i count row from below).0.spot

    abbrev T : Rehold z s L c
    T = row_taken z s L c p.row i spot_there from

    pub linked_there : Linked z (reheld z s L c T) c p
    linked_there = let x = on_list z s L c p i count row from below in record { position = i; count = count; on = record { inside = x.0.inside; spot = x.0.spot; row = x.0.row; link = x.0.link }; inside = x.1; kept = put_here L.ghost.row_held c (Some p.row) }

  -- the tail, or the dummy
  tail_place : (p : Place) → same_content (OfTail s.memory.tail) (OfTail p) ≡ true → p ≡ at z.first L.ghost.path L.ghost.tail
  tail_place p e = sym (same_places s.memory.tail p e) ∙ L.list.tail.named

  tail_inside : L.ghost.tail < positions L.ghost
  tail_inside = let within = L.list.tail.within in omega arith

  head_place : (p : Place) → same_content (OfHead s.memory.head) (OfHead (Node p)) ≡ true → p ≡ at z.first L.ghost.path L.ghost.head
  head_place p e = (node_found z s L c p (ap head_in (same_is (OfHead s.memory.head) (OfHead (Node p)) e))).1

  -- it found it as before: it holds what it named
  module _ (p : Place) where
    module _ (e : same_content (OfTail s.memory.tail) (OfTail p) ≡ true) where
      abbrev T' : Rehold z s L c
      T' = T p L.ghost.tail (tail_place p e) L.list.tail.after_head tail_inside

      tail_held : c < z.callers → s.memory.node_hazard c ≡ Some p.row → (t : Point) → Plain z L.ghost c ⊎ HelpsOwn t → AtPoint z (reheld z s L c T') c (holding (s.callers c) t (Held p.row)) t
          → Lawful z (changed s c s.memory s.history (holding (s.callers c) t (Held p.row)))
      tail_held inside names t plain knows = row_hold_begun z s L c p.row L.ghost.tail (spot_there p L.ghost.tail (tail_place p e) L.list.tail.after_head tail_inside) L.list.tail.after_head inside names t plain knows

      tail_linked : Linked z (reheld z s L c T') c p
      tail_linked = linked_there p L.ghost.tail (tail_place p e) L.list.tail.after_head tail_inside

      seen_tail : p.count ≤ z.first + L.ghost.tail
      seen_tail = let count = ap (λ (q : Place). q.count) (tail_place p e) in omega arith

      behind_head : z.first + L.ghost.head ≤ p.count
      behind_head = let count = ap (λ (q : Place). q.count) (tail_place p e) in let from = L.list.tail.after_head in omega arith

    module _ (e : same_content (OfHead s.memory.head) (OfHead (Node p)) ≡ true) where
      abbrev H' : Rehold z s L c
      H' = T p L.ghost.head (head_place p e) (le_refl _) (omega arith)

      head_held : c < z.callers → s.memory.node_hazard c ≡ Some p.row → (t : Point) → Plain z L.ghost c ⊎ HelpsOwn t → AtPoint z (reheld z s L c H') c (holding (s.callers c) t (Held p.row)) t
          → Lawful z (changed s c s.memory s.history (holding (s.callers c) t (Held p.row)))
      head_held inside names t plain knows = row_hold_begun z s L c p.row L.ghost.head (spot_there p L.ghost.head (head_place p e) (le_refl _) (omega arith)) (le_refl _) inside names t plain knows

      head_linked : Linked z (reheld z s L c H') c p
      head_linked = linked_there p L.ghost.head (head_place p e) (le_refl _) (omega arith)

      seen_head : p.count ≤ z.first + L.ghost.head
      seen_head = let count = ap (λ (q : Place). q.count) (head_place p e) in omega arith

  found : (t : Guarding) → same_content (read s.memory (source t)) (expected t) ≡ true → AtPoint z (world s L.ghost) c (s.callers c) (point.Guard t LoadAgain)
      → Lawful z (changed s c s.memory s.history (followed z (length s.history) c (s.callers c) (rehold t (held t) (Held (guarded t)))))
  found (guard.Enqueue x p) e f = tail_held p e f.call.1.0.1 f.here.0 (held (guard.Enqueue x p)) (plain_or_own z s L c me (point.Guard (guard.Enqueue x p) LoadAgain) f)
      (record { call = left z s L c (T' p e) (guarding_of.call_knows c me (guard.Enqueue x p)) (tt, (tt, (tt, (tt, tt)))) f.call; here = (tail_linked p e, (seen_tail p e, tt)) })
  found (guard.Dequeue p) e f = head_held p e f.call.1.0.1 f.here.0 (held (guard.Dequeue p)) (plain_or_own z s L c me (point.Guard (guard.Dequeue p) LoadAgain) f)
      (record { call = left z s L c (H' p e) (guarding_of.call_knows c me (guard.Dequeue p)) (tt, (tt, tt)) f.call; here = (head_linked p e, (seen_head p e, tt)) })
  found (guard.Many d) e f = let p = d.notice.old_head in head_held p e f.call.1.0.known f.here.0 (held (guard.Many d)) (plain_or_own z s L c me (point.Guard (guard.Many d) LoadAgain) f)
      (record { call = left z s L c (H' p e) (guarding_of.call_knows c me (guard.Many d)) (tt, (tt, (tt, (tt, (tt, tt))))) f.call; here = ((left z s L c (H' p e) (guarding_of.seen (guard.Many d)) (tt, tt) f.here.1).0, (head_linked p e, (seen_head p e, tt))) })
  found (guard.ManyTail d p) e f = tail_held p e f.call.1.0.known f.here.0 (held (guard.ManyTail d p)) (plain_or_own z s L c me (point.Guard (guard.ManyTail d p) LoadAgain) f)
      (record { call = left z s L c (T' p e) (guarding_of.call_knows c me (guard.ManyTail d p)) (tt, (tt, (tt, (tt, (tt, tt))))) f.call; here = ((left z s L c (T' p e) (guarding_of.seen (guard.ManyTail d p)) (tt, tt) f.here.1).0, (tail_linked p e, tt)) })
  found (guard.HelpTail h p) e f = let r = f.call.0 in tail_held p e (back_known z s L c h (command me) h.back (λ _. r.inside) f.call.1) f.here.0 (held (guard.HelpTail h p)) (plain_or_own z s L c me (point.Guard (guard.HelpTail h p) LoadAgain) f)
      (record { call = left z s L c (T' p e) (guarding_of.call_knows c me (guard.HelpTail h p)) (refl, back_leaves z s L c (T' p e) (command me) h.ann h.back) f.call; here = (tail_linked p e, (seen_tail p e, ((r.installed, (λ _. behind_head p e)), tt))) })
  found (guard.Help h) e f = let at = ann_stands z s L c h.ann h.old_head.count (ap head_in (same_is (OfHead s.memory.head) (OfHead (Ann h.ann h.old_head.count)) e)) in
      ann_hold_begun z s L c h.ann at (back_known z s L c h (command me) h.back (λ own. (f.call.0 own).0.inside) f.call.1) f.here.0 (held (guard.Help h)) (plain_or_own z s L c me (point.Guard (guard.Help h) LoadAgain) f)
      (record {
        call = (
          record { installed = L.announced.installed h.ann at; kept = inl (put_here L.ghost.held c (Some h.ann)); inside = L.announced.inside h.ann at; old_head = λ l. absurd (omega arith); first = λ l. absurd (omega arith); last = λ l. absurd (omega arith); counts = λ l. absurd (omega arith) },
          left z s L c (ann_taken z s L c h.ann at) (back_facts c (command me) h.ann h.back) (back_leaves z s L c (ann_taken z s L c h.ann at) (command me) h.ann h.back) f.call.1,
        );
        here = tt;
      })

  again_loaded : (t : Guarding) (b : Bool) → same_content (read s.memory (source t)) (expected t) ≡ b → AtPoint z (world s L.ghost) c (s.callers c) (point.Guard t LoadAgain)
      → Lawful z (changed s c s.memory s.history (followed z (length s.history) c (s.callers c) (cond b (rehold t (held t) (Held (guarded t))) (GoesOn (again t)))))
  again_loaded t true e f = found t e f
  again_loaded t false e f = point_changes z s L c (again t) (lost t e f)

  -- each step of a caller that makes sure of something
  pub preserves_guard : (t : Guarding) (p : GuardPoint) → (s.callers c).point ≡ point.Guard t p → Lawful z (step_at z s c (point.Guard t p))
  preserves_guard t StoreHazard is = stores t (known z s L c (point.Guard t StoreHazard) is)
  preserves_guard t LoadAgain is = subst (λ (m : Memory). Lawful z (changed s c m s.history (followed z (length s.history) c me (cond (same_content (read s.memory (source t)) (expected t)) (rehold t (held t) (Held (guarded t))) (GoesOn (again t))))))
      (sym (write_read s.memory (source t))) (again_loaded t (same_content (read s.memory (source t)) (expected t)) refl (known z s L c (point.Guard t LoadAgain) is))

-- and it goes on with what fits
module _ (s : Shape) where
  back_fits : (h : Help) (b : Back) → HelpFits s h → BackFits s b → PointFits s (back_point h b)
  back_fits h back.Own a b = a
  back_fits h (back.Enqueue i) a b = (b, tt)
  back_fits h back.Dequeue a b = tt
  back_fits h (back.Batch d) a b = b
  back_fits h (back.Many d) a b = (b, tt)

  held_fits : (t : Guarding) → GuardingFits s t → guarding_of.fits s t → CourseFits s (rehold t (held t) (Held (guarded t)))
  held_fits (guard.Enqueue x p) a b = (a, b)
  held_fits (guard.Dequeue p) a b = b
  held_fits (guard.Many d) a b = (a, tt)
  held_fits (guard.ManyTail d p) a b = (a, b)
  held_fits (guard.Help h) a b = (a, tt)
  held_fits (guard.HelpTail h p) a b = (a, b)

  again_fits : (t : Guarding) → GuardingFits s t → PointFits s (again t)
  again_fits (guard.Enqueue x p) a = (a, tt)
  again_fits (guard.Dequeue p) a = tt
  again_fits (guard.Many d) a = (a, tt)
  again_fits (guard.ManyTail d p) a = (a, tt)
  again_fits (guard.Help h) a = back_fits h h.back a a.goes_back
  again_fits (guard.HelpTail h p) a = (a, tt)

  stored_fits : (t : Guarding) → GuardingFits s t → guarding_of.fits s t → CourseFits s (rehold t (point.Guard t LoadAgain) (Names (guarded t)))
  stored_fits (guard.Help h) a b = (a, b)
  stored_fits (guard.Enqueue x p) a b = (a, b)
  stored_fits (guard.Dequeue p) a b = (a, b)
  stored_fits (guard.Many d) a b = (a, b)
  stored_fits (guard.ManyTail d p) a b = (a, b)
  stored_fits (guard.HelpTail h p) a b = (a, b)

  pub guard_fits : (t : Guarding) (p : GuardPoint) (x : Content) → GuardingFits s t → guarding_of.fits s t → CourseFits s (guarding_of.course t p x)
  guard_fits t StoreHazard x a b = stored_fits t a b
  guard_fits t LoadAgain x a b = course_either s (same_content x (expected t)) (rehold t (held t) (Held (guarded t))) (GoesOn (again t)) (held_fits t a b) (again_fits t a)
