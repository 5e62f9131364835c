-- What a step leaves of its own caller's command.
use Rattle.std.specs.Prelude.{◌≡◌, ◌⊎◌, ℕ, ◌++◌, [], ◌∷◌}
use Rattle.lane_steps.specs.declared.point.Point.TheVariants.{Idle}
use Rattle.lane_steps.specs.State.{Caller, own_group}

-- The caller keeps its command's operations and the groups that it made; or it is idle, and its command's group has joined
-- these, or, after Full, has not.
abbrev pub GoesOnOrEnds : ℕ → Caller → Caller → Type 0
GoesOnOrEnds c old new = ((new.ops ≡ old.ops) × (new.mine ≡ old.mine)) ⊎ ((new.point ≡ Idle) × ((new.mine ≡ old.mine ++ own_group c old ∷ []) ⊎ (new.mine ≡ old.mine)))
