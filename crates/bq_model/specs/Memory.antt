-- What contracts see of a source or a sink in memory.
use Rattle.std.specs.Prelude.{◌≡◌, ℕ, List, length, Contains, ◌⊎◌}

-- a source of bytes in memory
pub record SourceState : Type 0 where
  -- the bytes still to come
  pub left : List ℕ
  -- the most bytes that a read gives
  pub piece : ℕ
  -- the numbers of the reads that fail
  pub failing : List ℕ
  -- the number of the next read, from 0
  pub reads : ℕ
  -- how many reads have failed
  pub faults : ℕ

-- the next read is among those that fail
abbrev pub NextReadFails : SourceState → Type 0
NextReadFails s = Contains s.failing s.reads

-- a sink of bytes into memory
pub record SinkState : Type 0 where
  -- the bytes that were written
  pub written : List ℕ
  -- how many bytes it can hold
  pub capacity : ℕ
  -- the most bytes that a write takes
  pub piece : ℕ
  -- the numbers of the writes that fail
  pub failing : List ℕ
  -- the number of the next write, from 0
  pub writes : ℕ
  -- how many writes have failed
  pub faults : ℕ

-- the next write is among those that fail, or the sink is full
abbrev pub NextWriteFails : SinkState → Type 0
NextWriteFails s = Contains s.failing s.writes ⊎ (length s.written ≡ s.capacity)
