-- A caller that makes sure of a row or an announcement goes on, or looks again as the rank has risen.
use Rattle.std.proofs.Common.{◌≡◌, ◌⊎◌, ℕ, ◌<◌, Bool, true, false, cond, [], ◌∷◌, refl, arith}
use Rattle.bq_model.specs.declared.shape.Shape.{Shape}
use Rattle.lane_steps.specs.declared.course.Course.TheVariants.{GoesOn}
use Rattle.lane_steps.specs.declared.point.Back.{Back}
use Rattle.lane_steps.specs.declared.point.Back.TheVariants as back
use Rattle.lane_steps.specs.declared.point.EnqueuePoint.TheVariants as enq
use Rattle.lane_steps.specs.declared.point.DequeuePoint.TheVariants as deq
use Rattle.lane_steps.specs.declared.point.BatchPoint.TheVariants as batch
use Rattle.lane_steps.specs.declared.point.ManyPoint.TheVariants as many
use Rattle.lane_steps.specs.declared.point.HelpPoint.TheVariants as help
use Rattle.lane_steps.specs.declared.point.AnswerPoint.TheVariants as answer
use Rattle.lane_steps.specs.declared.point.Help.{Help}
use Rattle.lane_steps.specs.declared.point.Hold.TheVariants.{Held, Names}
use Rattle.lane_steps.specs.declared.point.Guarding.{Guarding}
use Rattle.lane_steps.specs.declared.point.Guarding.TheVariants as guard
use Rattle.lane_steps.specs.declared.point.GuardPoint.{GuardPoint}
use Rattle.lane_steps.specs.declared.point.GuardPoint.TheVariants.{StoreHazard, LoadAgain}
use Rattle.lane_steps.specs.declared.point.Point.{Point}
use Rattle.lane_steps.specs.declared.point.Point.TheVariants as point
use Rattle.lane_steps.specs.LaneSizes.{lane_sizes}
use Rattle.lane_steps.specs.State.{State, read}
use Rattle.lane_steps.specs.Act.{same_content}
use Rattle.lane_steps.specs.Guard.{source, expected, guarded, held, again, rehold}
use Rattle.lane_steps.specs.Help.{back_point}
use Rattle.lane_steps.specs.Step.{target, stepped, guarding, holding, followed, after, step_at}
use Rattle.core_model.specs.Lawful.{Lawful}
use Rattle.lane_rank.specs.Expected.{has, IsThere, helped, tail_at, outer_guard, inner_guard, kept_in_guard, Keeps}
use Rattle.lane_rank.specs.Rank.{rank}
use Rattle.lane_rank.specs.Return.{Onward}
use Rattle.lane_rank.proofs.Expecting.{guard_safe, guard_safe_in}
use Rattle.lane_rank.proofs.Onwards.{carry, carry_in, gone, goes, restarts}
use Rattle.lane_rank.proofs.Onwards as onwards
use Rattle.lane_rank.proofs.Together.{not_same}

-- the word that it loads again is the first that it expects
pub found_else : (s : State) (o i : ℕ) (g : Guarding) → Keeps s (point.Guard g LoadAgain) o i → (IsThere s.memory (has (source g) (expected g))) ⊎ (kept_in_guard g o i < rank s)
found_else s o i (guard.Enqueue x p) K = K.outer_there.0
found_else s o i (guard.Dequeue p) K = K.outer_there.0
found_else s o i (guard.Many d) K = K.outer_there.0
found_else s o i (guard.ManyTail d p) K = K.outer_there.0
found_else s o i (guard.Help h) K = K.outer_there.0
found_else s o i (guard.HelpTail h p) K = K.inner_there.0

module _ (z : Shape) (s : State) (L : Lawful (lane_sizes z) s) (c M : ℕ) where
  -- a help is over, or finds that it isn't needed: its caller begins its round again
  module _ (t : Point) (is : (s.callers c).point ≡ t) (o i : ℕ) (K : Keeps s t o i) (h : Help) where
    pub to_back : (b : Back) → o < rank (step_at (lane_sizes z) s c t) → Onward M z (step_at (lane_sizes z) s c t) (s.callers c) (stepped (s.callers c) (back_point h b)) o i
    to_back back.Own up = restarts z s L c M t is o i K (stepped (s.callers c) (point.Answer (answer.LoadOldTail h))) (point.Answer (answer.LoadOldTail h)) refl tt tt up (omega arith)
    to_back (back.Enqueue x) up = restarts z s L c M t is o i K (stepped (s.callers c) (point.Enqueue x enq.LoadTail)) (point.Enqueue x enq.LoadTail) refl tt tt up (omega arith)
    to_back back.Dequeue up = restarts z s L c M t is o i K (stepped (s.callers c) (point.Dequeue deq.LoadHead)) (point.Dequeue deq.LoadHead) refl tt tt up (omega arith)
    to_back (back.Batch d) up = restarts z s L c M t is o i K (stepped (s.callers c) (point.Batch d batch.LoadHead)) (point.Batch d batch.LoadHead) refl tt tt up (omega arith)
    to_back (back.Many d) up = restarts z s L c M t is o i K (stepped (s.callers c) (point.Many d many.LoadHead)) (point.Many d many.LoadHead) refl tt tt up (omega arith)

  module _ (n o i : ℕ) where
    -- it stores its hazard word
    stores : (g : Guarding) → (s.callers c).point ≡ point.Guard g StoreHazard → Keeps s (point.Guard g StoreHazard) o i
        → Onward M z (step_at (lane_sizes z) s c (point.Guard g StoreHazard)) (s.callers c) (followed (lane_sizes z) n c (s.callers c) (rehold g (point.Guard g LoadAgain) (Names (guarded g)))) o i
    stores g is K = goes z s L c M (point.Guard g StoreHazard) is o i K (followed (lane_sizes z) n c (s.callers c) (rehold g (point.Guard g LoadAgain) (Names (guarded g)))) (point.Guard g LoadAgain) (at g)
        (carry z s L c M (point.Guard g StoreHazard) is o i K (outer_guard g) (guard_safe (lane_sizes z) s L (point.Guard g StoreHazard) g) K.outer_there)
        (carry_in z s L c M (point.Guard g StoreHazard) is o i K (inner_guard g) (guard_safe_in (lane_sizes z) s L (point.Guard g StoreHazard) g) K.inner_there) (omega arith) where
          at : (g' : Guarding) → (followed (lane_sizes z) n c (s.callers c) (rehold g' (point.Guard g LoadAgain) (Names (guarded g)))).point ≡ point.Guard g LoadAgain
          at (guard.Help h) = refl
          at (guard.Enqueue x p) = refl
          at (guard.Dequeue p) = refl
          at (guard.Many d) = refl
          at (guard.ManyTail d p) = refl
          at (guard.HelpTail h p) = refl

    -- it loads the word again, and finds what it expects
    finds : (g : Guarding) (is : (s.callers c).point ≡ point.Guard g LoadAgain) → Keeps s (point.Guard g LoadAgain) o i
        → Onward M z (step_at (lane_sizes z) s c (point.Guard g LoadAgain)) (s.callers c) (followed (lane_sizes z) n c (s.callers c) (rehold g (held g) (Held (guarded g)))) o i
    finds (guard.Enqueue x p) is K = let t = point.Guard (guard.Enqueue x p) LoadAgain in let y = point.Enqueue x (enq.LoadLink p) in
        goes z s L c M t is o i K (holding (s.callers c) y (Held p.row)) y refl (carry z s L c M t is o i K (tail_at p ∷ []) (tt, tt) K.outer_there) tt (omega arith)
    finds (guard.Dequeue p) is K = let t = point.Guard (guard.Dequeue p) LoadAgain in let y = point.Dequeue (deq.LoadLink p) in
        goes z s L c M t is o i K (holding (s.callers c) y (Held p.row)) y refl (carry z s L c M t is o i K (outer_guard (guard.Dequeue p)) (tt, tt) K.outer_there) tt (omega arith)
    finds (guard.Many d) is K = let t = point.Guard (guard.Many d) LoadAgain in let y = point.Many d many.LoadDummy in
        goes z s L c M t is o i K (holding (s.callers c) y (Held d.notice.old_head.row)) y refl (carry z s L c M t is o i K (outer_guard (guard.Many d)) (tt, tt) K.outer_there) tt (omega arith)
    finds (guard.ManyTail d p) is K = let t = point.Guard (guard.ManyTail d p) LoadAgain in let y = point.Many d (many.LoadBehind p) in
        goes z s L c M t is o i K (holding (s.callers c) y (Held p.row)) y refl (carry z s L c M t is o i K (outer_guard (guard.ManyTail d p)) (tt, (tt, tt)) K.outer_there) tt (omega arith)
    finds (guard.Help h) is K = let t = point.Guard (guard.Help h) LoadAgain in let y = point.Help h help.LoadOldHead in
        goes z s L c M t is o i K (guarding (s.callers c) y (Held h.ann)) y refl (carry z s L c M t is o i K (helped h ∷ []) (tt, tt) K.outer_there) tt (omega arith)
    finds (guard.HelpTail h p) is K = let t = point.Guard (guard.HelpTail h p) LoadAgain in let y = point.Help h (help.LoadOldTail p) in
        goes z s L c M t is o i K (holding (s.callers c) y (Held p.row)) y refl (carry z s L c M t is o i K (helped h ∷ []) (tt, tt) K.outer_there) (carry_in z s L c M t is o i K (tail_at p ∷ []) (tt, tt) K.inner_there) (omega arith)

    -- it finds another word, so the rank is greater, and looks again
    module _ (g : Guarding) (is : (s.callers c).point ≡ point.Guard g LoadAgain) (K : Keeps s (point.Guard g LoadAgain) o i) (off : same_content (read s.memory (source g)) (expected g) ≡ false) where
      up : kept_in_guard g o i < rank (step_at (lane_sizes z) s c (point.Guard g LoadAgain))
      up = gone z s L c M (point.Guard g LoadAgain) is o i K (kept_in_guard g o i) (has (source g) (expected g)) (found_else s o i g K) (not_same (read s.memory (source g)) (expected g) off)

    looks : (g : Guarding) (is : (s.callers c).point ≡ point.Guard g LoadAgain) (K : Keeps s (point.Guard g LoadAgain) o i) → kept_in_guard g o i < rank (step_at (lane_sizes z) s c (point.Guard g LoadAgain))
        → Onward M z (step_at (lane_sizes z) s c (point.Guard g LoadAgain)) (s.callers c) (stepped (s.callers c) (again g)) o i
    looks (guard.Enqueue x p) is K up = restarts z s L c M (point.Guard (guard.Enqueue x p) LoadAgain) is o i K (stepped (s.callers c) (point.Enqueue x enq.LoadTail)) (point.Enqueue x enq.LoadTail) refl tt tt up (omega arith)
    looks (guard.Dequeue p) is K up = restarts z s L c M (point.Guard (guard.Dequeue p) LoadAgain) is o i K (stepped (s.callers c) (point.Dequeue deq.LoadHead)) (point.Dequeue deq.LoadHead) refl tt tt up (omega arith)
    looks (guard.Many d) is K up = restarts z s L c M (point.Guard (guard.Many d) LoadAgain) is o i K (stepped (s.callers c) (point.Many d many.LoadHead)) (point.Many d many.LoadHead) refl tt tt up (omega arith)
    looks (guard.ManyTail d p) is K up = restarts z s L c M (point.Guard (guard.ManyTail d p) LoadAgain) is o i K (stepped (s.callers c) (point.Many d many.LoadHead)) (point.Many d many.LoadHead) refl tt tt up (omega arith)
    looks (guard.Help h) is K up = to_back (point.Guard (guard.Help h) LoadAgain) is o i K h h.back up
    looks (guard.HelpTail h p) is K up = let t = point.Guard (guard.HelpTail h p) LoadAgain in
        onwards.again z s L c M t is o i K (stepped (s.callers c) (point.Help h help.LoadTail)) (point.Help h help.LoadTail) refl (carry z s L c M t is o i K (helped h ∷ []) (tt, tt) K.outer_there) tt up (omega arith)

  pub guard_onward : (n : ℕ) (g : Guarding) (p : GuardPoint) → (s.callers c).point ≡ point.Guard g p → (o i : ℕ) → Keeps s (point.Guard g p) o i
      → Onward M z (step_at (lane_sizes z) s c (point.Guard g p)) (s.callers c) (after (lane_sizes z) n c (s.callers c) (point.Guard g p) (read s.memory (target c (point.Guard g p)))) o i
  guard_onward n g StoreHazard is o i K = stores n o i g is K
  guard_onward n g LoadAgain is o i K = by (same_content (read s.memory (source g)) (expected g)) refl where
    by : (b : Bool) → same_content (read s.memory (source g)) (expected g) ≡ b
        → Onward M z (step_at (lane_sizes z) s c (point.Guard g LoadAgain)) (s.callers c) (followed (lane_sizes z) n c (s.callers c) (cond b (rehold g (held g) (Held (guarded g))) (GoesOn (again g)))) o i
    by true e = finds n o i g is K
    by false e = looks n o i g is K (up n o i g is K e)
