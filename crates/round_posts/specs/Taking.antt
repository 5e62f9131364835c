-- What is seen of the end that takes.
use Rattle.std.specs.Prelude.{ℕ}

-- a worker that has taken so often
pub record Taking : Type 0 where
  pub worker : ℕ
  pub takes : ℕ
