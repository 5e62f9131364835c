-- Which commands can start, and that they run then.
use Rattle.std.proofs.Common.{◌≡◌, ◌≢◌, ◌==◌, ℕ, ◌<◌, ◌≤◌, leb, ltb, ◌&&◌, Bool, true, false, List, [], ◌∷◌, length, refl, sym, ap, ◌∙◌, arith}
use Rattle.std.proofs.lemmas.Bool.{ltb-true, leb-true, and_parts}
use Rattle.bq_model.specs.declared.op.Op.{Op}
use Rattle.bq_model.specs.declared.op.Op.TheVariants.{Enq, Deq, Shut}
use Rattle.excess_count.specs.Excess.{enqueue_count}
use Rattle.lane_steps.specs.declared.point.Notice.{Notice}
use Rattle.lane_steps.specs.declared.point.Point.TheVariants.{Idle}
use Rattle.lane_steps.specs.LaneSizes.{LaneSizes}
use Rattle.lane_steps.specs.State.{Caller, State}
use Rattle.lane_steps.specs.Start.{IsCommand, begun, first_point, batch_point, draft_of, start}
use Rattle.core_model.proofs.Puts.{put_here}
use Rattle.step_core.specs.Due.{is_idle}
use Rattle.step_core.specs.Commands.{none_shuts, is_command}
use Rattle.step_core.proofs.Shuts.{no_shut}

pub command_is : (most : ℕ) (ops : List Op) → is_command most ops ≡ true → IsCommand ops × (length ops ≤ most)
command_is most ops is = let parts = and_parts (ltb 0 (length ops) && leb (length ops) most) (none_shuts ops) is in let both = and_parts (ltb 0 (length ops)) (leb (length ops) most) parts.0 in
    ((ltb-true _ _ both.0, no_shut ops parts.1), leb-true _ _ both.1)

-- a command that has started runs
goes_batch : (z : LaneSizes) (c : ℕ) (os : List Op) (m : Notice) (b : Bool) → is_idle (batch_point z c os m b) ≡ false
goes_batch z c os m true = refl
goes_batch z c os m false = refl

pub goes : (z : LaneSizes) (c : ℕ) (k : Caller) (ops : List Op) → IsCommand ops → is_idle (first_point z c k ops) ≡ false
goes z c k [] is = absurd (let some = is.0 in let e : ⊥ = omega arith in e)
goes z c k (Enq v ∷ []) is = refl
goes z c k (Deq ∷ []) is = refl
goes z c k (Shut ∷ []) is = absurd is.1
goes z c k (op ∷ next ∷ ops) is = goes_batch z c (op ∷ next ∷ ops) (draft_of c k (op ∷ next ∷ ops)) (enqueue_count (op ∷ next ∷ ops) == 0)

pub start_runs : (z : LaneSizes) (s : State) (c : ℕ) (ops : List Op) → IsCommand ops → ((start z s c ops).callers c).point ≢ Idle
start_runs z s c ops is idle = differ (sym (goes z c (s.callers c) ops is) ∙ (sym (ap (λ (k : Caller). is_idle k.point) (put_here s.callers c (begun z (length s.history) c (s.callers c) ops))) ∙ ap is_idle idle)) where
  differ : false ≡ true → ⊥
  differ e = cc e
