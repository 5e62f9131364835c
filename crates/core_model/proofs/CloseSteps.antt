-- At the end of its call a caller clears its hazard words, and scans those of all callers for the rows that it has retired.
use Rattle.std.proofs.Common.{◌≡◌, ℕ, suc, Bool, true, false, cond, [], ◌∷◌, length, sym, refl, subst, eqb, None, inl, arith}
use Rattle.std.proofs.lemmas.Bool.{eqb-true, eqb-false}
use mathlib.Core.Logic.{dite}
use native.Mathlib.Decide.{dec_le}
use Rattle.lane_steps.specs.declared.point.Closing.{Closing}
use Rattle.lane_steps.specs.declared.point.Closing.TheVariants.{Plain, Batch, Full}
use Rattle.lane_steps.specs.declared.point.ClosePoint.TheVariants as close
use Rattle.lane_steps.specs.declared.point.Hold.TheVariants.{Free}
use Rattle.lane_steps.specs.declared.point.Point.TheVariants as point
use Rattle.word_rows.specs.declared.location.Location.TheVariants.{NodeHazard}
use Rattle.lane_steps.specs.Functions.{put}
use Rattle.lane_steps.specs.LaneSizes.{LaneSizes}
use Rattle.lane_steps.specs.State.{Memory, Caller, State}
use Rattle.lane_steps.specs.Fill.{noted}
use Rattle.lane_steps.specs.Close.{is_done, answer_known}
use Rattle.lane_steps.specs.Fact.{linearized_is, lets_go}
use Rattle.lane_steps.specs.Step.{stepped, guarding, holding, clears_ann, scans, frees_next, scans_on, step_at}
use Rattle.core_model.specs.Facts.{Holds, Each, AtPoint}
use Rattle.core_model.specs.Lawful.{Lawful}
use Rattle.core_model.proofs.Rely.{world}
use Rattle.core_model.proofs.Preserves.{known, changed}
use Rattle.core_model.proofs.StoredAgain.{write_read}
use Rattle.core_model.proofs.Reholds.{Rehold, left, reheld, row_named, row_hazard_stored, ann_named, ann_hazard_stored}
use Rattle.core_model.proofs.Closes.{MayClose, may_name, goes_to, answers_so, clears_ann_so, scans_so, frees_so, knows_there, may_close_there, goes_there}
use Rattle.core_model.proofs.Scans.{heard}

module _ (z : LaneSizes) (s : State) (L : Lawful z s) (c : ℕ) (a : Closing) where
  abbrev me : Caller
  me = s.callers c

  -- the answers don't speak of the hazard words
  answers_left : (R : Rehold z s L c) (b : Closing) → Each z (world s L.ghost) c (answer_known c me b) → Each z (reheld z s L c R) c (answer_known c me b)
  answers_left R (Plain x) f = f
  answers_left R (Batch m) f = f
  answers_left R Full f = f

  -- the NODE_HAZARD is cleared
  pub preserves_clear_node : (s.callers c).point ≡ point.Close a close.ClearNode → Lawful z (step_at z s c (point.Close a close.ClearNode))
  preserves_clear_node is = goes_there z s c memory' s.history k L' (clears_ann (length s.history) c (record me { row_hold = Free }) a me.hold)
      (clears_ann_so z (changed s c memory' s.history k) L' c a f'.call.0 (record me { row_hold = Free }) (may_close_there z s c memory' s.history k L' a me.point me.rows me.walked me.named f'.call.1) refl) where
        memory' : Memory
        memory' = record s.memory { node_hazard = put s.memory.node_hazard c None }

        k : Caller
        k = holding me (point.Close a close.ClearAnn) Free

        L' : Lawful z (changed s c memory' s.history k)
        L' = let f = known z s L c (point.Close a close.ClearNode) is in row_hazard_stored z s L c None Free refl refl (point.Close a close.ClearAnn) (inl f.call.0.1)
            (record { call = ((left z s L c (row_named z s L c None) (linearized_is (is_done a) [] [] [] ∷ []) (tt, tt) (f.call.0, tt)).0, answers_left (row_named z s L c None) a f.call.1); here = ((refl, refl), tt) })

        f' : AtPoint z (world (changed s c memory' s.history k) L'.ghost) c k (point.Close a close.ClearAnn)
        f' = knows_there z s c memory' s.history k L' (point.Close a close.ClearAnn) refl

  -- the ANN_HAZARD is cleared, after that
  pub preserves_clear_ann : (s.callers c).point ≡ point.Close a close.ClearAnn → Lawful z (step_at z s c (point.Close a close.ClearAnn))
  preserves_clear_ann is = goes_there z s c memory' s.history k L' (scans (length s.history) c (record me { hold = Free }) a me.retired)
      (scans_so z (changed s c memory' s.history k) L' c a f'.call.0 (record me { hold = Free }) (may_close_there z s c memory' s.history k L' a me.point me.rows me.walked me.named f'.call.1) refl f'.here.0.1) where
        memory' : Memory
        memory' = record s.memory { ann_hazard = put s.memory.ann_hazard c None }

        k : Caller
        k = guarding me (point.Close a close.ClearAnn) Free

        L' : Lawful z (changed s c memory' s.history k)
        L' = let f = known z s L c (point.Close a close.ClearAnn) is in ann_hazard_stored z s L c None Free refl refl (point.Close a close.ClearAnn) (inl f.call.0.1)
            (record { call = ((left z s L c (ann_named z s L c None) (linearized_is (is_done a) [] [] [] ∷ []) (tt, tt) (f.call.0, tt)).0, answers_left (ann_named z s L c None) a f.call.1); here = ((refl, f.here.0.1), tt) })

        f' : AtPoint z (world (changed s c memory' s.history k) L'.ghost) c k (point.Close a close.ClearAnn)
        f' = knows_there z s c memory' s.history k L' (point.Close a close.ClearAnn) refl

  -- the NODE_HAZARD of caller d is loaded
  heard_one : (d : ℕ) (b : Bool) → eqb (suc d) z.callers ≡ b → AtPoint z (world s L.ghost) c (s.callers c) (point.Close a (close.LoadHazard d))
      → Lawful z (changed s c s.memory s.history (cond b (frees_next (length s.history) c (record (s.callers c) { named = noted (s.callers c).named (s.memory.node_hazard d) }) a) (stepped (record (s.callers c) { named = noted (s.callers c).named (s.memory.node_hazard d) }) (point.Close a (close.LoadHazard (suc d))))))
  heard_one d b last f = by b last where
    k : Caller
    k = record me { named = noted me.named (s.memory.node_hazard d) }

    K : MayClose z s L c a k
    K = may_name z s L c a (noted me.named (s.memory.node_hazard d)) f.call.1

    lets : Holds z (world s L.ghost) c (lets_go (suc d) me.retired k.named)
    lets = heard z s L c d me.retired me.named (s.memory.node_hazard d) refl (L.callers c).knows.retired.each f.here.0

    by : (b : Bool) → eqb (suc d) z.callers ≡ b → Lawful z (changed s c s.memory s.history (cond b (frees_next (length s.history) c k a) (stepped k (point.Close a (close.LoadHazard (suc d))))))
    by true e = frees_so z s L c a f.call.0 k K f.here.1.0.0 f.here.1.0.1 (subst (λ (y : ℕ). Holds z (world s L.ghost) c (lets_go y me.retired k.named)) (eqb-true (suc d) z.callers e) lets)
    by false e = goes_to z s L c a k K (point.Close a (close.LoadHazard (suc d))) me.rows me.walked k.named f.call.0.1
        (record { call = (f.call.0, answers_so z (world s L.ghost) c me (point.Close a (close.LoadHazard (suc d))) me.rows me.walked me.retired k.named me.hold me.row_hold a f.call.1); here = (lets, (f.here.1.0, (dite (dec_le (suc (suc d)) z.callers) (λ below. below) (λ over. let inside = f.here.1.1.0 in absurd (eqb-false (suc d) z.callers e (omega arith))), tt))) })

  pub preserves_find : (d : ℕ) → (s.callers c).point ≡ point.Close a (close.LoadHazard d) → Lawful z (step_at z s c (point.Close a (close.LoadHazard d)))
  preserves_find d is = subst (λ (m : Memory). Lawful z (changed s c m s.history (scans_on z (length s.history) c (record me { named = noted me.named (s.memory.node_hazard d) }) a d)))
      (sym (write_read s.memory (NodeHazard d))) (heard_one d (eqb (suc d) z.callers) refl (known z s L c (point.Close a (close.LoadHazard d)) is))
