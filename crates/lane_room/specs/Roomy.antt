-- A lane in which each caller keeps back no more than its share, and knows how far its search for a row has come.
use Rattle.std.specs.Prelude.{ℕ}
use Rattle.bq_model.specs.declared.shape.Shape.{Shape}
use Rattle.lane_steps.specs.LaneSizes.{lane_sizes}
use Rattle.lane_steps.specs.State.{State}
use Rattle.core_model.specs.Lawful.{Lawful}
use Rattle.lane_room.specs.Search.{KnowsCause}
use Rattle.lane_room.specs.Share.{Shares}

pub record Roomy (z : Shape) (s : State) : Type 0 where
  pub lawful : Lawful (lane_sizes z) s
  pub shares : Shares z s.callers
  pub causes : (c : ℕ) → KnowsCause z s.memory.mark s.history c (s.callers c)
