-- What contracts see of a list with a capacity.
use Rattle.std.specs.Prelude.{ℕ, List}

-- its items, first to last, and how many it can hold
pub record BoundedList (Item : Type 0) : Type 0 where
  pub items : List Item
  pub capacity : ℕ
