-- Each event that can happen keeps the lane lawful, and so does each list of them.
use Rattle.std.proofs.Common.{◌≡◌, ℕ, suc, ◌+◌, ltb, Bool, true, false, cond, List, [], ◌∷◌, length, Option, Some, None, Result, Ok, refl, subst, arith}
use Rattle.std.proofs.lemmas.Bool.{ltb-true, ltb-false}
use Rattle.bq_model.specs.declared.shape.Shape.{Shape}
use Rattle.bq_model.specs.History.{operations}
use Rattle.lane_steps.specs.LaneSizes.{lane_sizes}
use Rattle.lane_steps.specs.Start.{start}
use Rattle.lane_steps.specs.State.{State}
use Rattle.core_model.specs.Lawful.{Lawful}
use Rattle.core_model.proofs.Steps.{preserves_next, preserves_start}
use Rattle.step_core.specs.declared.schedule.Event.{Event}
use Rattle.step_core.specs.declared.schedule.Event.TheVariants as event
use Rattle.step_core.specs.declared.schedule.EventCause.{EventCause}
use Rattle.step_core.specs.declared.schedule.EventCause.TheVariants.{BadCaller, BadBatch, BusyCaller, IdleCaller}
use Rattle.step_core.specs.Commands.{is_command}
use Rattle.step_core.specs.Due.{is_idle}
use Rattle.step_core.specs.Schedule.{cause_of, after_event, refused_or, schedule}
use Rattle.step_core.proofs.Landings.{idle_is}
use Rattle.step_core.proofs.Begins.{command_is}

-- a start that has no cause is of a command
pub start_taken : (known takes idle : Bool) → cond known (cond takes (cond idle None (Some BusyCaller)) (Some BadBatch)) (Some BadCaller) ≡ None → takes ≡ true
start_taken true true idle e = refl
start_taken true false idle e = absurd (cc e)
start_taken false takes idle e = absurd (cc e)

module _ (shape : Shape) (s : State) (L : Lawful (lane_sizes shape) s) where
  -- a start that has no cause is of an idle caller, with a command
  pub can_start : (known takes idle : Bool) → cond known (cond takes (cond idle None (Some BusyCaller)) (Some BadBatch)) (Some BadCaller) ≡ None → (known ≡ true) × (takes ≡ true) × (idle ≡ true)
  can_start true true true e = (refl, refl, refl)
  can_start true true false e = absurd (cc e)
  can_start true false idle e = absurd (cc e)
  can_start false takes idle e = absurd (cc e)

  -- a step that has no cause is of a caller whose command runs
  pub can_step : (known idle : Bool) → cond known (cond idle (Some IdleCaller) None) (Some BadCaller) ≡ None → idle ≡ false
  can_step true true e = absurd (cc e)
  can_step true false e = refl
  can_step false idle e = absurd (cc e)

  pub event_lawful : (e : Event) → cause_of shape s e ≡ None → Lawful (lane_sizes shape) (after_event shape s e)
  event_lawful (event.Start c ops) none = by (ltb shape.allowance (length (operations (s.callers c).mine) + length ops)) refl where
    can : (ltb c shape.callers ≡ true) × (is_command shape.batch ops ≡ true) × (is_idle (s.callers c).point ≡ true)
    can = can_start (ltb c shape.callers) (is_command shape.batch ops) (is_idle (s.callers c).point) none

    by : (b : Bool) → ltb shape.allowance (length (operations (s.callers c).mine) + length ops) ≡ b → Lawful (lane_sizes shape) (cond b s (start (lane_sizes shape) s c ops))
    by true spent = L
    by false left = preserves_start (lane_sizes shape) s L c ops (command_is shape.batch ops can.1).0 (idle_is (s.callers c).point can.2) (ltb-true _ _ can.0) (λ passes. let within = ltb-false shape.allowance _ left in omega arith)
  event_lawful (event.Step c) none = preserves_next (lane_sizes shape) s L c

pub same_state : {s t : State} → ◌≡◌ {A = Result State (ℕ × EventCause)} (Ok s) (Ok t) → s ≡ t
same_state e = cc e

pub schedule_lawful : (z : Shape) (s : State) (n : ℕ) (es : List Event) (t : State) → Lawful (lane_sizes z) s → schedule z s n es ≡ Ok t → Lawful (lane_sizes z) t
schedule_lawful z s n [] t L is = subst (Lawful (lane_sizes z)) (same_state is) L
schedule_lawful z s n (e ∷ es) t L is = by (cause_of z s e) refl (λ none ran. schedule_lawful z (after_event z s e) (suc n) es t (event_lawful z s L e none) ran) is where
  by : (o : Option EventCause) → cause_of z s e ≡ o → (cause_of z s e ≡ None → schedule z (after_event z s e) (suc n) es ≡ Ok t → Lawful (lane_sizes z) t) → refused_or o n (schedule z (after_event z s e) (suc n) es) ≡ Ok t → Lawful (lane_sizes z) t
  by None none rest is = rest none is
  by (Some cause) some rest is = absurd (cc is)
