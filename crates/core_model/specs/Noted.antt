-- What a start and a step note of a command.
use Rattle.std.specs.Prelude.{◌≡◌, ◌⊎◌, ℕ, ◌++◌, List, [], ◌∷◌, Some, None}
use Rattle.bq_model.specs.declared.op.Op.{Op}
use Rattle.lane_steps.specs.declared.point.Point.TheVariants.{Idle}
use Rattle.lane_steps.specs.declared.point.CallEnd.TheVariants as outcome
use Rattle.lane_steps.specs.State.{Caller, own_group}

-- when the history has n groups, the caller starts a command of these operations
pub record Begins (n : ℕ) (given : List Op) (old new : Caller) : Type 0 where
  pub ops : new.ops ≡ given
  pub mine : new.mine ≡ old.mine
  pub retired : new.retired ≡ old.retired
  pub started_at : new.started_at ≡ n
  pub ended_at : new.ended_at ≡ None
  pub outcome : new.outcome ≡ old.outcome
  pub answers : new.answers ≡ old.answers

-- a command goes on
pub record GoesOn (old new : Caller) : Type 0 where
  pub ops : new.ops ≡ old.ops
  pub mine : new.mine ≡ old.mine
  pub started_at : new.started_at ≡ old.started_at
  pub ended_at : new.ended_at ≡ old.ended_at
  pub outcome : new.outcome ≡ old.outcome
  pub answers : new.answers ≡ old.answers

-- the command of caller c ends with Done, when the history has n groups
pub record EndsDone (n c : ℕ) (old new : Caller) : Type 0 where
  pub point : new.point ≡ Idle
  pub ops : new.ops ≡ []
  pub mine : new.mine ≡ old.mine ++ own_group c old ∷ []
  pub started_at : new.started_at ≡ old.started_at
  pub ended_at : new.ended_at ≡ Some n
  pub outcome : new.outcome ≡ Some outcome.Done

-- it ends with Full, and has made no group
pub record EndsFull (n : ℕ) (old new : Caller) : Type 0 where
  pub point : new.point ≡ Idle
  pub ops : new.ops ≡ []
  pub mine : new.mine ≡ old.mine
  pub started_at : new.started_at ≡ old.started_at
  pub ended_at : new.ended_at ≡ Some n
  pub outcome : new.outcome ≡ Some outcome.Full
  pub answers : new.answers ≡ []

-- what a step leaves of the command of caller c
abbrev pub IsNoted : ℕ → ℕ → Caller → Caller → Type 0
IsNoted n c old new = GoesOn old new ⊎ (EndsDone n c old new ⊎ EndsFull n old new)
