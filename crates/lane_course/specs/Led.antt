-- What a step leaves to be found out: what its command comes to.
use Rattle.std.specs.Prelude.{ℕ}
use Rattle.atomic_table.specs.Seated.{TableId}
use Rattle.atomic_table.specs.declared.shared.Seat.{Seat}
use Rattle.bq_model.specs.declared.shape.Shape.{Shape}
use Rattle.lane_steps.specs.State.{Caller}
use Rattle.lane_rule.specs.declared.view.View.{View}
use Rattle.lane_course.specs.declared.next.Next.{Next}
use Rattle.lane_course.specs.declared.scratch.Scratch.{Scratch}
use Rattle.lane_course.specs.Next.{Becomes}
use Rattle.lane_course.specs.Running.{IsNext}
use Rattle.lane_course.specs.Scratch.{keeping, SamePuts}

-- The last step of the command of p has led to q. With this at hand the caller keeps f of that, when the history has n groups,
-- and what that says comes next comes next.
pub record Led (id : TableId) (key s : Shape) (c : ℕ) (f : ℕ → Caller → Caller) (a : Scratch) (p q : Seat ℕ View) : Type 0 where
  pub then : (y : Next) (b : Scratch) → ((n : ℕ) (w : Caller) → Becomes n c w b y (f n (keeping w a))) → SamePuts a b → IsNext id key s c b p q y
