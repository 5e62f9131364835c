-- When a lane refuses operations of a caller.
use Rattle.std.specs.Prelude.{ℕ, ◌+◌, ◌<◌, List, length}
use Rattle.bq_model.specs.declared.op.Op.{Op}
use Rattle.bq_model.specs.declared.group.Group.{Group}
use Rattle.bq_model.specs.declared.shape.Shape.{Shape}
use Rattle.bq_model.specs.History.{operations}
use Rattle.bq_model.specs.Own.{mine, own}
use Rattle.bq_model.specs.Values.{enqueued}

-- with these operations caller c passes the lane's allowance
abbrev pub PassesAllowance : Shape → List Group → ℕ → List Op → Type 0
PassesAllowance shape seen c ops = shape.allowance < length (operations (mine seen c)) + length ops

-- caller c's own queued values and the enqueues among these operations are more than the room
abbrev pub PassesRoom : Shape → List Group → ℕ → List Op → Type 0
PassesRoom shape history c ops = shape.room < own history c + length (enqueued ops)
