-- The events of a schedule, and what becomes of a machine by them.
use Rattle.std.specs.Prelude.{ℕ, zero, suc, ◌+◌, ◌-◌, Bool, true, false, ◌&&◌, ◌||◌, ◌==◌, nat_lt, if◌then◌else◌, List, [], ◌∷◌, ◌++◌, length, count_by, Option, None, Some, Result, Ok, Err, bytes_eq, is_none}
use Rattle.bq_model.specs.declared.error.Refusal.TheVariants.{Spent, Full}
use Rattle.bq_model.specs.declared.fault.TextCause.{TextCause}
use Rattle.bq_model.specs.declared.fault.TextCause.TheVariants.{BusyCaller, BlockTooLong, TooMany}
use Rattle.bq_model.specs.declared.op.Op.{Op}
use Rattle.bq_model.specs.declared.shape.Shape.{Shape}
use Rattle.bq_model.specs.History.{operations}
use Rattle.lane_steps.specs.declared.kind.StepKind.{StepKind}
use Rattle.lane_steps.specs.declared.point.CallEnd.{CallEnd}
use Rattle.lane_steps.specs.declared.point.CallEnd.TheVariants as outcome
use Rattle.lane_steps.specs.Kind.{kind_of}
use Rattle.lane_steps.specs.LaneSizes.{lane_sizes}
use Rattle.lane_steps.specs.Start.{opening}
use Rattle.lane_steps.specs.State.{State}
use Rattle.lane_steps.specs.Step.{next}
use Rattle.step_core.specs.declared.schedule.Event.{Event}
use Rattle.step_core.specs.declared.schedule.Event.TheVariants as event
use Rattle.step_core.specs.Schedule.{after_event}
use Rattle.trace_text.specs.declared.play.Refused.{Refused}
use Rattle.trace_text.specs.Kinds.{kind_name}

-- the most steps of a schedule
abbrev pub most_steps : ℕ
most_steps = 1000000

-- what a schedule says so far: the shape of a lane, and what happens to its machine
pub record Playing : Type 0 where
  pub shape : Shape
  pub events : List Event

-- the state of a machine after events
abbrev pub after_events : Shape → State → List Event → State
after_events z s [] = s
after_events z s (e ∷ es) = after_events z (after_event z s e) es

abbrev pub opened : Shape → State
opened z = opening (lane_sizes z)

abbrev pub state_of : Playing → State
state_of p = after_events p.shape (opened p.shape) p.events

-- whether caller c is idle: it has no next step
abbrev pub is_idle : State → ℕ → Bool
is_idle s c = is_none (kind_of (s.callers c).point)

-- whether a command ended with Full
abbrev pub was_full : Option CallEnd → Bool
was_full None = false
was_full (Some outcome.Done) = false
was_full (Some outcome.Full) = true

-- whether caller c is idle and its last command ended with Full
abbrev pub ended_full : State → ℕ → Bool
ended_full s c = is_idle s c && was_full (s.callers c).outcome

-- The refusal of a command that would pass the allowance, at its start, or of one that finds no free row, at its last step.
-- A step is of a caller that isn't idle.
abbrev pub refusal : Shape → State → Event → List Refused
refusal z s (event.Start c ops) = if nat_lt z.allowance (length (operations (s.callers c).mine) + length ops) then record { caller = c; reason = Spent } ∷ [] else []
refusal z s (event.Step c) = if ended_full (next (lane_sizes z) s c) c then record { caller = c; reason = Full } ∷ [] else []

-- the refusals of events, in their order
abbrev pub refusals_from : Shape → State → List Event → List Refused
refusals_from z s [] = []
refusals_from z s (e ∷ es) = refusal z s e ++ refusals_from z (after_event z s e) es

abbrev pub refusals_of : Playing → List Refused
refusals_of p = refusals_from p.shape (opened p.shape) p.events

abbrev pub is_step : Event → Bool
is_step (event.Start c ops) = false
is_step (event.Step c) = true

-- how many steps were made
abbrev pub steps_of : Playing → ℕ
steps_of p = count_by is_step p.events

-- one more event
abbrev pub happened : Playing → Event → Playing
happened p e = record { shape = p.shape; events = p.events ++ e ∷ [] }

-- the command of caller c starts, if it is idle and the operations are no more than a batch's
abbrev pub begun : Playing → ℕ → List Op → Result Playing TextCause
begun p c ops =
    if is_idle (state_of p) c then (if nat_lt p.shape.batch (length ops) then Err BlockTooLong else Ok (happened p (event.Start c ops)))
    else Err BusyCaller

-- whether a next step is of the kind of this name; an idle caller has none
abbrev pub stops_at : List ℕ → Option StepKind → Bool
stops_at name None = true
stops_at name (Some kind) = bytes_eq (kind_name kind) name

abbrev pub stops : List ℕ → ℕ → Playing → Bool
stops name c p = stops_at name (kind_of ((state_of p).callers c).point)

-- caller c makes a step, if one may still be made
abbrev pub stepped : Playing → ℕ → Result Playing TextCause
stepped p c = if nat_lt (steps_of p) most_steps then Ok (happened p (event.Step c)) else Err TooMany

-- Caller c makes steps until its next step is of the kind of this name, it is idle, or it has made as many as the limit.
-- The schedule may have so many more steps, and no more.
abbrev pub walk : List ℕ → ℕ → ℕ → ℕ → Playing → Result Playing TextCause
walk name limit c zero p = if limit == 0 || stops name c p then Ok p else Err TooMany
walk name limit c (suc left) p = if limit == 0 || stops name c p then Ok p else walk name (limit - 1) c left (happened p (event.Step c))

abbrev pub ran : List ℕ → ℕ → ℕ → Playing → Result Playing TextCause
ran name limit c p = walk name limit c (most_steps - steps_of p) p
