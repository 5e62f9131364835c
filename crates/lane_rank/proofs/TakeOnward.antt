-- While a caller looks for a free row and takes it, fewer steps are left after each step.
use Rattle.std.proofs.Common.{◌≡◌, ◌==◌, ℕ, zero, suc, ◌≤◌, [], ◌∷◌, length, Bool, true, false, refl, arith}
use Rattle.bq_model.specs.declared.shape.Shape.{Shape}
use Rattle.lane_steps.specs.Batches.{with_rows}
use Rattle.lane_steps.specs.LaneSizes.{lane_sizes}
use Rattle.lane_steps.specs.Take.{after_mark, after_take}
use Rattle.lane_steps.specs.declared.point.Closing.TheVariants.{Full}
use Rattle.lane_steps.specs.declared.point.Item.{Item}
use Rattle.lane_steps.specs.declared.point.Taking.{Taking}
use Rattle.lane_steps.specs.declared.point.Taking.TheVariants.{Enqueue, Batch, Stopper}
use Rattle.lane_steps.specs.declared.point.TakePoint.{TakePoint}
use Rattle.lane_steps.specs.declared.point.TakePoint.TheVariants.{LoadMark, ClearMark, ClearLink}
use Rattle.lane_steps.specs.declared.point.EnqueuePoint.TheVariants as enq
use Rattle.lane_steps.specs.declared.point.FillPoint.TheVariants as fill
use Rattle.lane_steps.specs.declared.point.Point.TheVariants as point
use Rattle.lane_steps.specs.State.{Caller, State, read}
use Rattle.lane_steps.specs.Step.{target, after, followed, step_at, closes, stepped}
use Rattle.core_model.specs.Few.{IsEarly}
use Rattle.core_model.specs.Lawful.{Lawful}
use Rattle.lane_rank.specs.Expected.{AllThere, Keeps, outer_take, outer_scan}
use Rattle.lane_rank.specs.Return.{Onward}
use Rattle.lane_rank.specs.Weight.{taken_weight, whole_close}
use Rattle.lane_rank.proofs.Endings.{closes_light, ends_light}
use Rattle.lane_rank.proofs.Expecting.{AllSafe}
use Rattle.lane_rank.proofs.FillOnward.{listens}
use Rattle.lane_rank.proofs.Onwards.{carry, goes}

-- the end of a call weighs less than what is left once the row is taken
end_below : (M : ℕ) (z : Shape) (k : Caller) (t : Taking) → whole_close M z ≤ taken_weight M z k t
end_below M z k (Enqueue v) = omega arith
end_below M z k (Batch n v) = omega arith
end_below M z k (Stopper n) = omega arith

module _ (z : Shape) (s : State) (L : Lawful (lane_sizes z) s) (c M n o i : ℕ) (short : length (s.callers c).ops ≤ z.batch) (early : IsEarly z c (s.callers c)) where
  abbrev me : Caller
  me = s.callers c

  -- what it expects goes on to be so
  still_there : (t : Taking) (p : TakePoint) (is : (s.callers c).point ≡ point.Take t p) → Keeps s (point.Take t p) o i → AllThere (step_at (lane_sizes z) s c (point.Take t p)) o (outer_take t)
  still_there t p is K = carry z s L c M (point.Take t p) is o i K (outer_take t) (safe t) K.outer_there where
    safe : (u : Taking) → AllSafe (lane_sizes z) s L (point.Take t p) (outer_take u)
    safe (Enqueue v) = tt
    safe (Batch m v) = tt
    safe (Stopper m) = (tt, tt)

  looks_on : (t : Taking) (r l : ℕ) (is : (s.callers c).point ≡ point.Take t (LoadMark r l)) → Keeps s (point.Take t (LoadMark r l)) o i → (b : Bool)
      → Onward M z (step_at (lane_sizes z) s c (point.Take t (LoadMark r l))) (s.callers c) (followed (lane_sizes z) n c (s.callers c) (after_mark t r l b)) o i
  looks_on t r l is K true = goes z s L c M (point.Take t (LoadMark r l)) is o i K (stepped me (point.Take t (ClearMark r))) (point.Take t (ClearMark r)) refl (still_there t (LoadMark r l) is K) tt (omega arith)
  looks_on t r zero is K false = let below = end_below M z me t in ends_light z s L c M (point.Take t (LoadMark r zero)) is o i K (closes n c me Full) (omega (arith, below)) (closes_light M z n c me short early Full)
  looks_on t r (suc l) is K false = goes z s L c M (point.Take t (LoadMark r (suc l))) is o i K (stepped me (point.Take t (LoadMark (suc r) l))) (point.Take t (LoadMark (suc r) l)) refl (still_there t (LoadMark r (suc l)) is K) tt (omega arith)

  takes : (t : Taking) (r : ℕ) (is : (s.callers c).point ≡ point.Take t (ClearLink r)) → Keeps s (point.Take t (ClearLink r)) o i
      → Onward M z (step_at (lane_sizes z) s c (point.Take t (ClearLink r))) (s.callers c) (followed (lane_sizes z) n c (s.callers c) (after_take t r)) o i
  takes (Enqueue v) r is K = let x : Item = record { row = r; value = v } in goes z s L c M (point.Take (Enqueue v) (ClearLink r)) is o i K (stepped me (point.Enqueue x enq.StoreValue)) (point.Enqueue x enq.StoreValue) refl tt tt (omega arith)
  takes (Batch m v) r is K = goes z s L c M (point.Take (Batch m v) (ClearLink r)) is o i K (stepped me (point.Fill m (fill.StoreValue r v))) (point.Fill m (fill.StoreValue r v)) refl tt tt (omega arith)
  takes (Stopper m) r is K = listens z s L c M (point.Take (Stopper m) (ClearLink r)) is o i K (record me { rows = r ∷ [] }) (with_rows m (r ∷ [])) 0 [] (of (m.counts.enqs == 0)) (omega arith) where
    of : (b : Bool) → AllThere (step_at (lane_sizes z) s c (point.Take (Stopper m) (ClearLink r))) o (outer_scan b (with_rows m (r ∷ [])))
    of true = still_there (Stopper m) (ClearLink r) is K
    of false = tt

  pub take_onward : (t : Taking) (p : TakePoint) → (s.callers c).point ≡ point.Take t p → Keeps s (point.Take t p) o i
      → Onward M z (step_at (lane_sizes z) s c (point.Take t p)) (s.callers c) (after (lane_sizes z) n c (s.callers c) (point.Take t p) (read s.memory (target c (point.Take t p)))) o i
  take_onward t (LoadMark r l) is K = looks_on t r l is K (s.memory.mark r).free
  take_onward t (ClearMark r) is K = goes z s L c M (point.Take t (ClearMark r)) is o i K (stepped me (point.Take t (ClearLink r))) (point.Take t (ClearLink r)) refl (still_there t (ClearMark r) is K) tt (omega arith)
  take_onward t (ClearLink r) is K = takes t r is K
