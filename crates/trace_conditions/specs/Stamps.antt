-- Stamps: one that isn't there is still to come, and is greater than every number.
use Rattle.std.specs.Prelude.{ℕ, ◌<◌, ◌≤◌, Option, None, Some}

-- a number comes before a stamp
abbrev pub IsBefore : ℕ → Option ℕ → Type 0
IsBefore number None = Unit {0}
IsBefore number (Some stamp) = number < stamp

-- a stamp comes before a stamp
abbrev pub ComesBefore : Option ℕ → Option ℕ → Type 0
ComesBefore None other = ⊥
ComesBefore (Some stamp) other = IsBefore stamp other

-- a stamp comes before another or is the same
abbrev pub IsUpTo : Option ℕ → Option ℕ → Type 0
IsUpTo one None = Unit {0}
IsUpTo None (Some stamp) = ⊥
IsUpTo (Some one) (Some other) = one ≤ other

-- a number comes behind the last one, if there is one
abbrev pub IsBehind : ℕ → Option ℕ → Type 0
IsBehind number None = Unit {0}
IsBehind number (Some last) = last < number
