-- The start of a command, as its caller's view shows it.
use Rattle.std.specs.Prelude.{◌≡◌, ℕ, ◌<◌, ◌≤◌, ◌^◌, List, length, get_or}
use Rattle.bq_model.specs.declared.op.Op.{Op}
use Rattle.bq_model.specs.Values.{enqueued}
use Rattle.lane_steps.specs.LaneSizes.{lane_sizes}
use Rattle.lane_steps.specs.declared.point.Point.TheVariants.{Idle}
use Rattle.lane_steps.specs.Start as starting
use Rattle.lane_steps.specs.Start.{PassesAllowance, IsCommand}
use Rattle.lane_rule.specs.declared.view.View.{View}
use Rattle.lane_rule.specs.Rule.{caller_of, kept_of}

-- the idle caller of the view may start these operations
pub record MayStart (v : View) (ops : List Op) : Type 0 where
  pub idle : v.kept.point ≡ Idle
  pub command : IsCommand ops
  pub left : ¬ (PassesAllowance (lane_sizes v.shape) (caller_of v.kept) (length ops))
  pub short : length ops ≤ v.shape.batch
  pub values : (j : ℕ) → get_or (enqueued ops) j 0 < 2 ^ 64

-- the view as the command starts, when the history has n groups
abbrev pub begun : View → ℕ → List Op → View
begun v n ops = record v { kept = kept_of (starting.begun (lane_sizes v.shape) n v.caller (caller_of v.kept) ops) }
