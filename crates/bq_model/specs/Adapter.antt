-- What contracts see of a stream of std behind an adapter.
use Rattle.std.specs.Prelude.{ℕ}

-- the stream, and how many calls on it have failed
pub record Counted (Stream : Type 0) : Type 0 where
  pub inner : Stream
  pub faults : ℕ
