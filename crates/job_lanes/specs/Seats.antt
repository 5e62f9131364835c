-- Where the sessions of a desk sit.
use Rattle.std.specs.Prelude.{◌≡◌, ℕ, ◌+◌, ◌^◌, List}
use Rattle.bq_model.specs.declared.shape.Shape.{Shape}

-- a lane by what tells it from others and by its shape, and the callers that a pass of it holds
pub record Seat (Identity : Type 0) : Type 0 where
  pub identity : Identity
  pub shape : Shape
  pub callers : List ℕ

abbrev pub seat : {Identity : Type 0} → Identity → Shape → List ℕ → Seat Identity
seat identity shape callers = record { identity = identity; shape = shape; callers = callers }

-- the shape of a lane that so many hands work on: each of them has a caller, and the program one more
pub record IsForHands (hands : ℕ) (shape : Shape) : Type 0 where
  pub callers : shape.callers ≡ hands + 1
  pub batch : shape.batch ≡ 256
  pub room : shape.room ≡ 256
  pub allowance : shape.allowance ≡ 2 ^ 38
  pub first_count : shape.first_count ≡ 0
