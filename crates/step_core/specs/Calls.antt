-- What the machine keeps of a caller, as a caller of a lane.
use Rattle.std.specs.Prelude.{◌≡◌, ◌≢◌, ℕ, suc, ◌+◌, Bool, ◌^◌, ◌<◌, ◌≤◌, length, vec_len, vec_capacity}
use Rattle.bq_model.specs.History.{operations}
use Rattle.bq_model.specs.Values.{enqueued}
use Rattle.lane_steps.specs.declared.point.Point.TheVariants.{Idle}
use Rattle.lane_steps.specs.declared.point.Point.TheVariants as point
use Rattle.lane_steps.specs.declared.point.AnswerPoint.TheVariants as answer
use Rattle.lane_steps.specs.declared.point.ManyPoint.TheVariants as many
use Rattle.bq_model.specs.declared.shape.Shape.{Shape}
use Rattle.lane_steps.specs.declared.point.Plan.{Plan}
use Rattle.lane_steps.specs.declared.point.Notice.{Notice}
use Rattle.lane_steps.specs.declared.point.FillPoint.TheVariants as fill
use Rattle.lane_steps.specs.declared.point.ClosePoint.TheVariants as close
use Rattle.lane_steps.specs.declared.point.Closing.{Closing}
use Rattle.lane_steps.specs.declared.point.Reading.{Reading}
use Rattle.word_rows.specs.declared.place.Place.{Place}
use Rattle.lane_steps.specs.Ranges.{RowsFit}
use Rattle.lane_steps.specs.State.{Caller}
use Rattle.step_core.specs.declared.call.Call.{Call}

abbrev pub call_of : Call → Caller
call_of k = record { point = k.point; ops = k.ops; mine = k.mine.items; rows = k.rows.items; values = k.values.items; walked = k.walked.items; retired = k.retired.items; named = k.named.items; row_hold = k.row_hold; hold = k.hold; outcome = k.outcome; answers = k.answers.items; started_at = k.started_at; ended_at = k.ended_at }

-- In a lane with batches of so many operations and so many callers: there is memory for the steps and the end of the command, its operations
-- are counted, and the values of its enqueues are at hand.
pub record IsReady (batch callers : ℕ) (k : Call) : Type 0 where
  pub answers : k.answers.capacity ≡ batch
  pub named : k.named.capacity ≡ callers
  pub retired : k.retired.capacity ≡ batch + callers + 1
  pub fits : length k.ops ≤ batch
  pub rows : batch ≤ vec_capacity k.rows
  pub values : batch ≤ vec_capacity k.values
  pub walked : batch ≤ vec_capacity k.walked
  pub mine : k.point ≢ Idle → vec_len k.mine < vec_capacity k.mine
  pub operations : k.operations ≡ length (operations k.mine.items)
  pub puts : k.puts.items ≡ enqueued k.ops

-- the running command can end
pub record MayEnd (k : Call) : Type 0 where
  pub ready : IsReady k.answers.capacity k.named.capacity k
  pub runs : k.point ≢ Idle
  pub fits : length (operations k.mine.items) + length k.ops < 2 ^ 63

-- caller c of the lane can make its next step
pub record MayGo (s : Shape) (c : ℕ) (k : Call) : Type 0 where
  pub known : c < s.callers
  pub may_end : MayEnd k
  pub some : 0 < k.answers.capacity
  pub rows : RowsFit k.point
  -- where it fills a row, there is an enqueue for it, and where it links one, a row behind it
  pub fills : (n : Notice) (r v : ℕ) → k.point ≡ point.Fill n (fill.StoreValue r v) → length k.rows.items < length k.ops
  pub links : (n : Notice) (i r q : ℕ) → k.point ≡ point.Fill n (fill.StoreChain i r q) → suc i < 2 ^ 32
  -- where it reads a value, there is a dequeue that gets it
  pub reads : (b : Reading) (r l : ℕ) → k.point ≡ point.Answer (answer.LoadValue b r l) → (length k.values.items < length k.ops) × (length k.walked.items < length k.ops)
  pub walks : (d : Plan) (r l : ℕ) → k.point ≡ point.Many d (many.LoadValue r l) → (length k.values.items < length k.ops) × (length k.walked.items < length k.ops)
  -- where it reads a hazard word, there is room for what that names, and an announcement is left that none names
  pub scans : (n : Notice) (e : ℕ) → k.point ≡ point.Fill n (fill.LoadHazard e) → (e < s.callers) × (length k.named.items < k.named.capacity) × (length k.named.items + 1 < s.callers)
  pub finds : (a : Closing) (d : ℕ) → k.point ≡ point.Close a (close.LoadHazard d) → (d < s.callers) × (length k.named.items < k.named.capacity)
  -- where it marks a row, there is room for it among those that it retires
  pub marks : (a : Closing) (q : Place) (read passed stopped : Bool) → k.point ≡ point.Close a (close.MarkRow q read passed stopped) → length k.retired.items < k.retired.capacity
  pub loses : (a : Closing) (r : ℕ) → k.point ≡ point.Close a (close.MarkLoose r) → length k.retired.items < k.retired.capacity
