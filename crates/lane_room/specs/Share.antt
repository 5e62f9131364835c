-- What one caller keeps back from the others: the rows that it has yet to mark, or to free.
use Rattle.std.specs.Prelude.{◌≡◌, ℕ, ◌<◌, ◌≤◌, [], length}
use Rattle.bq_model.specs.declared.shape.Shape.{Shape}
use Rattle.lane_steps.specs.declared.point.Point.TheVariants.{Idle}
use Rattle.lane_steps.specs.State.{Caller}
use Rattle.core_model.specs.Few.{HasFew}
use Rattle.lane_room.specs.Busy.{share}

-- Caller c keeps back no more than its share: its lists fit its command, which is no longer than a batch may be, and so many rows
-- at most wait to be freed.
pub record Share (s : Shape) (c : ℕ) (k : Caller) : Type 0 where
  pub few : HasFew s c k
  pub short : length k.ops ≤ s.batch
  pub waits : length k.retired ≤ share s

-- each caller of the lane does so, and nobody else ever ran
pub record Shares (s : Shape) (callers : ℕ → Caller) : Type 0 where
  pub each : (d : ℕ) → d < s.callers → Share s d (callers d)
  pub resting : (d : ℕ) → s.callers ≤ d → ((callers d).point ≡ Idle) × ((callers d).retired ≡ [])
