-- At the end of a call each step ends the command, or fewer steps are left.
use Rattle.std.proofs.Common.{◌≡◌, ◌==◌, ℕ, suc, ◌+◌, ◌*◌, ◌<◌, ◌++◌, [], ◌∷◌, length, Bool, true, false, cond, Option, refl, arith, length-append, inr}
use Rattle.bq_model.specs.declared.shape.Shape.{Shape}
use Rattle.word_rows.specs.declared.place.Place.{Place}
use Rattle.lane_steps.specs.Close.{both_set}
use Rattle.lane_steps.specs.Fill.{noted}
use Rattle.lane_steps.specs.LaneSizes.{lane_sizes}
use Rattle.lane_steps.specs.declared.point.Closing.{Closing}
use Rattle.lane_steps.specs.declared.point.ClosePoint.{ClosePoint}
use Rattle.lane_steps.specs.declared.point.ClosePoint.TheVariants.{MarkRow, MarkLoose, ClearNode, ClearAnn, LoadHazard, MarkFree}
use Rattle.lane_steps.specs.declared.point.Hold.TheVariants.{Free}
use Rattle.lane_steps.specs.declared.point.Point.{Point}
use Rattle.lane_steps.specs.declared.point.Point.TheVariants as point
use Rattle.lane_steps.specs.State.{Caller, State, read}
use Rattle.lane_steps.specs.Step.{target, marks_on, retires, scans_on, after, step_at, frees_next, stepped}
use Rattle.node_guard.specs.Retired.{without_first_unheld}
use Rattle.core_model.specs.Lawful.{Lawful}
use Rattle.core_model.proofs.Preserves.{known}
use Rattle.lane_rank.specs.Expected.{Keeps}
use Rattle.lane_rank.specs.Return.{Onward}
use Rattle.lane_rank.specs.Weight.{close_weight}
use Rattle.lane_rank.proofs.Endings.{Ending, fewer_retired, ends_freeing, ends_scanning, ends_clearing, ends_losing, ends_marking, ending_more, ends}

module _ (M : ℕ) (s : Shape) (n c : ℕ) where
  after_mark : (k : Caller) (a : Closing) (q : Place) (read passed stopped : Bool) (both : Bool) → Ending M s (close_weight M s k (MarkRow q read passed stopped)) (marks_on n c (retires k q.row both) a stopped q (retires k q.row both).walked)
  after_mark k a q read passed stopped true = let all = length-append k.retired (q.row ∷ []) in ends_marking M s n c _ (retires k q.row true) a stopped q k.walked (omega (arith, all))
  after_mark k a q read passed stopped false = ends_marking M s n c _ k a stopped q k.walked (omega arith)

  after_hazard : (k : Caller) (a : Closing) (d : ℕ) (x : Option ℕ) → d < s.callers → Ending M s (close_weight M s k (LoadHazard d)) (scans_on (lane_sizes s) n c (record k { named = noted k.named x }) a d)
  after_hazard k a d x inside = by (suc d == s.callers) where
    by : (b : Bool) → Ending M s (close_weight M s k (LoadHazard d)) (cond b (frees_next n c (record k { named = noted k.named x }) a) (stepped (record k { named = noted k.named x }) (point.Close a (LoadHazard (suc d)))))
    by true = ends_freeing M s n c _ (record k { named = noted k.named x }) a (omega arith)
    by false = inr (a, LoadHazard (suc d), refl, omega (arith, inside))

module _ (z : Shape) (s : State) (L : Lawful (lane_sizes z) s) (c M n o i : ℕ) where
  -- what the caller keeps after its step at this point
  abbrev then : Point → Caller
  then t = after (lane_sizes z) n c (s.callers c) t (read s.memory (target c t))

  pub close_onward : (a : Closing) (p : ClosePoint) → (s.callers c).point ≡ point.Close a p → Keeps s (point.Close a p) o i
      → Onward M z (step_at (lane_sizes z) s c (point.Close a p)) (s.callers c) (after (lane_sizes z) n c (s.callers c) (point.Close a p) (read s.memory (target c (point.Close a p)))) o i
  close_onward a p is K = ends z s L c M (point.Close a p) is o i K (then (point.Close a p)) (by p is) where
    by : (p : ClosePoint) → (s.callers c).point ≡ point.Close a p → Ending M z (close_weight M z (s.callers c) p) (then (point.Close a p))
    by (MarkRow q read passed stopped) is = after_mark M z n c (s.callers c) a q read passed stopped (both_set (s.memory.mark q.row) read passed)
    by (MarkLoose r) is = let k = s.callers c in let all = length-append k.retired (r ∷ []) in
        ending_more M z n c (length (k.retired ++ r ∷ []) + z.callers + 4 + 2 * length k.rows) (close_weight M z k (MarkLoose r)) (then (point.Close a (MarkLoose r))) (omega (arith, all)) (ends_losing M z n c (record k { retired = k.retired ++ r ∷ [] }) a k.rows)
    by ClearNode is = let k = s.callers c in ends_clearing M z n c (record k { row_hold = Free }) a k.hold
    by ClearAnn is = let k = s.callers c in ends_scanning M z n c (record k { hold = Free }) a
    by (LoadHazard d) is = after_hazard M z n c (s.callers c) a d (s.memory.node_hazard d) (known (lane_sizes z) s L c (point.Close a (LoadHazard d)) is).here.1.1.0
    by (MarkFree r) is = let k = s.callers c in let less = fewer_retired k.named k.retired r (known (lane_sizes z) s L c (point.Close a (MarkFree r)) is).here.1.0 in
        ends_freeing M z n c (length k.retired) (record k { retired = without_first_unheld k.named k.retired }) a (omega (arith, less))
