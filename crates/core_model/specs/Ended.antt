-- What holds of a caller whose last command has ended.
use Rattle.std.specs.Prelude.{◌≡◌, ℕ, ◌<◌, ◌≤◌, ◌++◌, List, [], ◌∷◌, length, Some}
use Rattle.bq_model.specs.declared.op.Op.{Op}
use Rattle.bq_model.specs.declared.group.Group.{Group}
use Rattle.bq_model.specs.Own.{mine}
use Rattle.lane_steps.specs.State.{State}
use Rattle.core_model.specs.Kept.{numbered, Stands}
use Rattle.core_model.specs.Once.{times}

-- It was done: its group is the last one of the caller's in the history and stands there once, between the command's start
-- and its end, and the answers that the caller keeps are the replay's at that place.
pub record EndedDone (s : State) (c : ℕ) : Type 0 where
  pub earlier : List Group
  pub ops : List Op
  pub own_groups : mine s.history c ≡ earlier ++ numbered c earlier ops ∷ []
  pub stands : Stands s.history (numbered c earlier ops) (s.callers c).answers
  pub once : times (numbered c earlier ops) s.history ≡ 1
  pub end : ℕ
  pub ended : (s.callers c).ended_at ≡ Some end
  pub after_start : (s.callers c).started_at ≤ length stands.before
  pub before_end : length stands.before < end
