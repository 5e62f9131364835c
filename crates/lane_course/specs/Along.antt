-- A running command, some steps on.
use Rattle.std.specs.Prelude.{ℕ, ◌≤◌}
use Rattle.atomic_table.specs.Seated.{TableId}
use Rattle.atomic_table.specs.declared.shared.Seat.{Seat}
use Rattle.bq_model.specs.declared.shape.Shape.{Shape}
use Rattle.lane_steps.specs.declared.point.Point.{Point}
use Rattle.lane_rule.specs.declared.view.View.{View}
use Rattle.lane_rule.specs.Goes.{left_of}
use Rattle.lane_course.specs.declared.scratch.Scratch.{Scratch}
use Rattle.lane_course.specs.Running.{Running, GoesTo}

-- The command of p has gone on to q, where it is at this point with this at hand, and no more of it is left.
pub record Along (id : TableId) (key s : Shape) (c : ℕ) (t : Point) (a : Scratch) (p q : Seat ℕ View) : Type 0 where
  pub runs : Running id key s c t a q
  pub goes : GoesTo p q
  pub most : left_of q.me.0 ≤ left_of p.me.0
