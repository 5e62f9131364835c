-- Lists of events, and what a machine makes of them.
use Rattle.std.specs.Prelude.{ℕ, suc, ◌+◌, nat_lt, if◌then◌else◌, List, [], ◌∷◌, length, Option, Some, None, Result, Ok, Err}
use Rattle.bq_model.specs.History.{operations}
use Rattle.bq_model.specs.declared.shape.Shape.{Shape}
use Rattle.lane_steps.specs.LaneSizes.{lane_sizes}
use Rattle.lane_steps.specs.Start.{start}
use Rattle.lane_steps.specs.State.{State}
use Rattle.lane_steps.specs.Step.{next}
use Rattle.step_core.specs.declared.schedule.Event.{Event}
use Rattle.step_core.specs.declared.schedule.Event.TheVariants as event
use Rattle.step_core.specs.declared.schedule.EventCause.{EventCause}
use Rattle.step_core.specs.declared.schedule.EventCause.TheVariants.{BadCaller, BadBatch, BusyCaller, IdleCaller}
use Rattle.step_core.specs.Commands.{is_command}
use Rattle.step_core.specs.Due.{is_idle}

-- why the event cannot happen, if it cannot
abbrev pub cause_of : Shape → State → Event → Option EventCause
cause_of z s (event.Start c ops) =
    if nat_lt c z.callers then (if is_command z.batch ops then (if is_idle (s.callers c).point then None else Some BusyCaller) else Some BadBatch) else Some BadCaller
cause_of z s (event.Step c) = if nat_lt c z.callers then (if is_idle (s.callers c).point then Some IdleCaller else None) else Some BadCaller

-- what it makes of the lane; a start that would pass the allowance changes nothing
abbrev pub after_event : Shape → State → Event → State
after_event z s (event.Start c ops) = if nat_lt z.allowance (length (operations (s.callers c).mine) + length ops) then s else start (lane_sizes z) s c ops
after_event z s (event.Step c) = next (lane_sizes z) s c

-- the event numbered n is refused, or the schedule goes on
abbrev pub refused_or : Option EventCause → ℕ → Result State (ℕ × EventCause) → Result State (ℕ × EventCause)
refused_or None n rest = rest
refused_or (Some cause) n rest = Err (n, cause)

-- The last state of the events, of which the first is numbered n, or the first of them that has a cause.
abbrev pub schedule : Shape → State → ℕ → List Event → Result State (ℕ × EventCause)
schedule z s n [] = Ok s
schedule z s n (e ∷ es) = refused_or (cause_of z s e) n (schedule z (after_event z s e) (suc n) es)
