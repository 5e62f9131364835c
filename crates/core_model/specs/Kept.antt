-- What a caller keeps of its last ended command.
use Rattle.std.specs.Prelude.{◌≡◌, ◌≢◌, ℕ, ◌<◌, ◌≤◌, ◌++◌, List, [], ◌∷◌, length, Some}
use Rattle.bq_model.specs.declared.op.Op.{Op}
use Rattle.bq_model.specs.declared.op.Answer.{Answer}
use Rattle.bq_model.specs.declared.group.Group.{Group}
use Rattle.bq_model.specs.Replay.{answers_from}
use Rattle.bq_model.specs.History.{last_queue}
use Rattle.lane_steps.specs.declared.point.CallEnd.TheVariants as outcome
use Rattle.lane_steps.specs.State.{Caller}

-- the group stands in the history, and these are its answers: the replay's there
pub record Stands (h : List Group) (g : Group) (answers : List Answer) : Type 0 where
  pub before : List Group
  pub behind : List Group
  pub splits : h ≡ (before ++ g ∷ []) ++ behind
  pub right : answers ≡ answers_from (last_queue before) g.ops

-- the group of caller c that comes after these of its groups
abbrev pub numbered : ℕ → List Group → List Op → Group
numbered c earlier ops = record { caller = c; batch = length earlier; ops = ops }

-- Of caller c, which keeps k and whose last ended command was done: the group of that command is the last of its ended
-- ones, and stands in the history. Where no other command has started since, it stands between that command's start and end.
pub record LastDone (h : List Group) (c : ℕ) (k : Caller) : Type 0 where
  pub earlier : List Group
  pub ops : List Op
  pub last : k.mine ≡ earlier ++ numbered c earlier ops ∷ []
  pub stands : Stands h (numbered c earlier ops) k.answers
  pub timely : (end : ℕ) → k.ended_at ≡ Some end → (k.started_at ≤ length stands.before) × (length stands.before < end)

-- the answers that a caller keeps are those of its last ended command; after Full, and before any end, there are none
pub record Kept (h : List Group) (c : ℕ) (k : Caller) : Type 0 where
  pub done : k.outcome ≡ Some outcome.Done → LastDone h c k
  pub none : k.outcome ≢ Some outcome.Done → k.answers ≡ []
