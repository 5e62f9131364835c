-- What contracts see of a lane and of a pass, and what a pass keeps between two calls.
use Rattle.std.specs.Prelude.{◌≡◌, ℕ, ◌≤◌, ◌<◌, List, [], ◌∷◌, length, map}
use Rattle.atomic_table.specs.Seated.{TableId}
use Rattle.atomic_table.specs.Table.{Me}
use Rattle.bq_model.specs.declared.group.Group.{Group}
use Rattle.bq_model.specs.declared.shape.Shape.{Shape}
use Rattle.bq_model.specs.History.{operations}
use Rattle.bq_model.specs.Own.{mine}
use Rattle.bq_model.specs.Proper.{IsProper}
use Rattle.bq_model.specs.NoShut.{NeverShut}
use Rattle.lane_steps.specs.declared.point.Point.TheVariants.{Idle}
use Rattle.lane_steps.specs.Functions.{Distinct}
use Rattle.lane_steps.specs.LaneSizes.{lane_sizes}
use Rattle.core_model.specs.Lawful.{Allowed}
use Rattle.lane_rule.specs.declared.view.Kept.{Kept}
use Rattle.lane_rule.specs.declared.view.View.{View}
use Rattle.lane_rule.specs.declared.view.Kind.TheVariants.{Alone, Gathered}
use Rattle.lane_rule.specs.Seating.{held_as, Holds, Idles}
use Rattle.lane_course.specs.declared.scratch.Scratch.{Scratch}
use Rattle.lane_course.specs.Running.{Agrees}
use Rattle.lane_course.specs.Scratch.{Reserves}

-- a lane: its table and its shape
pub record LaneState : Type 0 where
  pub table : TableId
  pub shape : Shape

-- a pass: its lane's table and shape, the callers that it holds, and the history that these have seen
pub record PassState : Type 0 where
  pub table : TableId
  pub shape : Shape
  pub callers : List ℕ
  pub seen : List Group

-- the pass of a caller that has made nothing
abbrev pub new_pass : TableId → Shape → ℕ → PassState
new_pass table shape c = record { table = table; shape = shape; callers = c ∷ []; seen = [] }

-- the callers of a view
abbrev pub callers_of : View → List ℕ
callers_of v = map (λ h. h.caller) (held_as v.kind v)

-- Of the one caller of a view, which is idle: its number, how many groups it made, how many operations these have, and what
-- it has at hand.
pub record Counted (shape : Shape) (v : View) (caller batches operated : ℕ) (a : Scratch) : Type 0 where
  pub caller_is : caller ≡ v.caller
  pub known : v.caller < shape.callers
  pub batches_are : batches ≡ length v.kept.mine
  pub operated_is : operated ≡ length (operations v.kept.mine)
  -- each group has an operation
  pub batches_within : batches ≤ operated
  pub allowed : Allowed (lane_sizes shape) v.kept.mine []
  pub agrees : Agrees v.kept a
  -- the rows that it has yet to free
  pub few : length v.kept.retired < shape.callers
  pub apart : Distinct v.kept.retired

-- The seat of a pass between two calls, with what its calls have at hand.
pub record Rests (me : Me ℕ View) (shape : Shape) (caller batches operated : ℕ) (a : Scratch) : Type 0 where
  pub carries_none : me.1 ≡ []
  pub heard_none : me.0.heard ≡ []
  pub planned : me.0.shape ≡ shape
  pub between_calls : Idles me.0.kind
  pub several : me.0.kind ≡ Gathered → 2 ≤ length me.0.gathered
  pub proper : IsProper shape.callers me.0.seen
  pub never_shut : NeverShut me.0.seen
  -- each of its callers is idle, and what it has seen has of it the groups that it made
  pub own : (c : ℕ) (k : Kept) → Holds c k (held_as me.0.kind me.0) → (k.point ≡ Idle) × (mine me.0.seen c ≡ k.mine)
  pub alone : me.0.kind ≡ Alone → Counted shape me.0 caller batches operated a
  pub reserves : Reserves shape a
