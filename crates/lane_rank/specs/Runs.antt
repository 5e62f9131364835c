-- Runs of a lane, event by event.
use Rattle.std.specs.Prelude.{◌≡◌, ◌≢◌, ◌<◌, ◌≤◌, ◌^◌, ℕ, suc, ◌+◌, ◌*◌, ◌==◌, cond, List, [], ◌∷◌, length, get_or}
use Rattle.bq_model.specs.declared.op.Op.{Op}
use Rattle.bq_model.specs.declared.shape.Shape.{Shape}
use Rattle.bq_model.specs.Values.{enqueued}
use Rattle.lane_steps.specs.declared.point.Point.TheVariants.{Idle}
use Rattle.lane_steps.specs.LaneSizes.{lane_sizes}
use Rattle.lane_steps.specs.Start.{PassesAllowance, IsCommand, start}
use Rattle.lane_steps.specs.State.{State}
use Rattle.lane_steps.specs.Step.{next}
use Rattle.lane_rank.specs.Rank.{most_rank}
use Rattle.lane_rank.specs.Weight.{row_weight, most_weight}
use Rattle.lane_rank.specs.Return.{most_count}

-- A caller of the lane is idle, and may start this command: it has no more operations than a batch may have and than are left of
-- the caller's allowance, and its values are words.
pub record MayBegin (z : Shape) (s : State) (c : ℕ) (ops : List Op) : Type 0 where
  pub caller : c < z.callers
  pub idle : (s.callers c).point ≡ Idle
  pub command : IsCommand ops
  pub short : length ops ≤ z.batch
  pub allowed : ¬ (PassesAllowance (lane_sizes z) (s.callers c) (length ops))
  pub words : (j : ℕ) → get_or (enqueued ops) j 0 < 2 ^ 64

-- a caller makes its next step, or its command starts
pub data Event : Type 0 where
  steps : ℕ → Event
  begins : ℕ → List Op → Event

-- these events of the lane's callers can follow one another from the state s on
abbrev pub IsRun : Shape → State → List Event → Type 0
IsRun z s [] = Unit {0}
IsRun z s (steps d ∷ es) = (d < z.callers) × IsRun z (next (lane_sizes z) s d) es
IsRun z s (begins d ops ∷ es) = MayBegin z s d ops × IsRun z (start (lane_sizes z) s d ops) es

-- the state after them
abbrev pub state_after : Shape → State → List Event → State
state_after z s [] = s
state_after z s (steps d ∷ es) = state_after z (next (lane_sizes z) s d) es
state_after z s (begins d ops ∷ es) = state_after z (start (lane_sizes z) s d ops) es

-- They can do so while the command of caller c runs, which has begun before.
abbrev pub GoesOn : Shape → ℕ → State → List Event → Type 0
GoesOn z c s [] = Unit {0}
GoesOn z c s (steps d ∷ es) = (d < z.callers) × ((s.callers c).point ≢ Idle) × GoesOn z c (next (lane_sizes z) s d) es
GoesOn z c s (begins d ops ∷ es) = (d ≢ c) × MayBegin z s d ops × GoesOn z c (start (lane_sizes z) s d ops) es

-- how many of the events are steps of caller c
abbrev pub steps_of : ℕ → List Event → ℕ
steps_of c [] = 0
steps_of c (steps d ∷ es) = cond (d == c) 1 0 + steps_of c es
steps_of c (begins d ops ∷ es) = steps_of c es

-- a call weighs no more as it begins
abbrev pub first_weight : Shape → ℕ
first_weight z = most_weight most_count z + z.batch + 3 + z.batch * row_weight most_count z

-- and takes no more steps of its caller until it ends
abbrev pub most_steps : Shape → ℕ
most_steps z = suc (2 * most_rank (lane_sizes z) * suc (most_weight most_count z) + first_weight z)
