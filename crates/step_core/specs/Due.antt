-- How many groups a caller will have made when its running command has ended.
use Rattle.std.specs.Prelude.{ℕ, ◌+◌, Bool, true, false, cond, length}
use Rattle.lane_steps.specs.declared.point.Point.{Point}
use Rattle.lane_steps.specs.declared.point.Point.TheVariants.{Idle}
use Rattle.lane_steps.specs.State.{Caller}

abbrev pub is_idle : Point → Bool
is_idle Idle = true
is_idle _ = false

-- those of its ended commands, and the one of a command that runs
abbrev pub due : Caller → ℕ
due k = length k.mine + cond (is_idle k.point) 0 1
