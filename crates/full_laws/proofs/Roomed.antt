-- Each list of events that can happen keeps it known how far each search has come, and what each caller keeps back.
use Rattle.std.proofs.Common.{◌≡◌, ℕ, suc, ◌+◌, ltb, ltb-true, ltb-false, Bool, true, false, cond, List, [], ◌∷◌, length, Option, Some, None, Ok, refl, subst, arith}
use Rattle.bq_model.specs.declared.shape.Shape.{Shape}
use Rattle.bq_model.specs.History.{operations}
use Rattle.lane_steps.specs.LaneSizes.{lane_sizes}
use Rattle.lane_steps.specs.Start.{start}
use Rattle.lane_steps.specs.State.{State}
use Rattle.lane_room.specs.Roomy.{Roomy}
use Rattle.lane_room.proofs.Roomy.{roomy_next, roomy_starts}
use Rattle.step_core.specs.declared.schedule.Event.{Event}
use Rattle.step_core.specs.declared.schedule.Event.TheVariants as event
use Rattle.step_core.specs.declared.schedule.EventCause.{EventCause}
use Rattle.step_core.specs.Commands.{is_command}
use Rattle.step_core.specs.Due.{is_idle}
use Rattle.step_core.specs.Schedule.{cause_of, after_event, refused_or, schedule}
use Rattle.step_core.proofs.Begins.{command_is}
use Rattle.step_core.proofs.Landings.{idle_is}
use Rattle.step_core.proofs.Runs.{can_start, same_state}

event_roomy : (z : Shape) (s : State) → Roomy z s → (e : Event) → cause_of z s e ≡ None → Roomy z (after_event z s e)
event_roomy z s R (event.Start c ops) none = by (ltb z.allowance (length (operations (s.callers c).mine) + length ops)) refl where
  can : (ltb c z.callers ≡ true) × (is_command z.batch ops ≡ true) × (is_idle (s.callers c).point ≡ true)
  can = can_start z s R.lawful (ltb c z.callers) (is_command z.batch ops) (is_idle (s.callers c).point) none

  by : (b : Bool) → ltb z.allowance (length (operations (s.callers c).mine) + length ops) ≡ b → Roomy z (cond b s (start (lane_sizes z) s c ops))
  by true spent = R
  by false left = let command = command_is z.batch ops can.1 in roomy_starts z s R c ops (ltb-true _ _ can.0) (idle_is (s.callers c).point can.2) command.0 command.1 (λ passes. let within = ltb-false z.allowance _ left in omega arith)
event_roomy z s R (event.Step c) none = roomy_next z s R c

pub schedule_roomy : (z : Shape) (s : State) (n : ℕ) (es : List Event) (t : State) → Roomy z s → schedule z s n es ≡ Ok t → Roomy z t
schedule_roomy z s n [] t R is = subst (Roomy z) (same_state is) R
schedule_roomy z s n (e ∷ es) t R is = by (cause_of z s e) refl (λ none ran. schedule_roomy z (after_event z s e) (suc n) es t (event_roomy z s R e none) ran) is where
  by : (o : Option EventCause) → cause_of z s e ≡ o → (cause_of z s e ≡ None → schedule z (after_event z s e) (suc n) es ≡ Ok t → Roomy z t) → refused_or o n (schedule z (after_event z s e) (suc n) es) ≡ Ok t → Roomy z t
  by None none rest is = rest none is
  by (Some cause) some rest is = absurd (cc is)
