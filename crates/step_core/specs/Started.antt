-- The commands that a schedule starts.
use Rattle.std.specs.Prelude.{ℕ, ◌+◌, ◌==◌, ◌&&◌, ◌++◌, nat_lt, not, Bool, if◌then◌else◌, List, [], ◌∷◌, length}
use Rattle.bq_model.specs.declared.op.Op.{Op}
use Rattle.bq_model.specs.declared.shape.Shape.{Shape}
use Rattle.bq_model.specs.History.{operations}
use Rattle.lane_steps.specs.State.{Caller, State}
use Rattle.step_core.specs.declared.schedule.Event.{Event}
use Rattle.step_core.specs.declared.schedule.Event.TheVariants as event
use Rattle.step_core.specs.Due.{is_idle}
use Rattle.step_core.specs.Schedule.{after_event}

-- a command of caller c passes no allowance, so it doesn't end as Spent
abbrev pub is_taken : Shape → State → ℕ → List Op → Bool
is_taken z s c ops = not (nat_lt z.allowance (length (operations (s.callers c).mine) + length ops))

-- the caller's command has ended and made no group: it has ended with Full
abbrev pub ends_full : Caller → Caller → Bool
ends_full old new = is_idle new.point && (length new.mine == length old.mine)

-- all but the last one
abbrev pub without_last : List (List Op) → List (List Op)
without_last [] = []
without_last (x ∷ []) = []
without_last (x ∷ y ∷ xs) = x ∷ without_last (y ∷ xs)

-- the commands of caller c that it started and that ended neither as Spent nor with Full, where these were they before the event
abbrev pub started_by : Shape → State → ℕ → List (List Op) → Event → List (List Op)
started_by z s c before (event.Start d ops) = if (d == c) && is_taken z s d ops then before ++ ops ∷ [] else before
started_by z s c before (event.Step d) = if (d == c) && ends_full (s.callers d) ((after_event z s (event.Step d)).callers d) then without_last before else before

-- those after all events, in order
abbrev pub all_started : Shape → State → ℕ → List (List Op) → List Event → List (List Op)
all_started z s c before [] = before
all_started z s c before (e ∷ es) = all_started z (after_event z s e) c (started_by z s c before e) es
