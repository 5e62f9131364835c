-- Where a reader of a stream stands.
use Rattle.std.specs.Prelude.{ℕ, List}

-- the number of the round that is to come, and the bytes that were read of it and of what is behind it
pub record Reading : Type 0 where
  pub number : ℕ
  pub ahead : List ℕ
