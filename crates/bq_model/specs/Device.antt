-- What sources and sinks count.
use Rattle.std.specs.Prelude.{◌≡◌, ℕ, ◌+◌, ◌<◌, ◌⊎◌, min}

-- the last value of a count: a u64 that stands still once it is there
abbrev pub last_count : ℕ
last_count = 18446744073709551615

-- the count one further
abbrev pub next_count : ℕ → ℕ
next_count n = min (n + 1) last_count

-- a count rose, or can't rise any more
abbrev pub Rose : ℕ → ℕ → Type 0
Rose old new = (old < new) ⊎ (new ≡ last_count)
