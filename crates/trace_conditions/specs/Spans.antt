-- The spans in which one caller makes its futures, each from when the call begins to when it returns.
use Rattle.std.specs.Prelude.{◌≡◌, ℕ, ◌<◌, ◌≤◌, ◌⊎◌, Option, None, Some}
use Rattle.std.specs.BTreeMap.{BTreeMap, get}
use Rattle.std.specs.Ordering.{nat_cmp}
use Rattle.trace_conditions.specs.Stamps.{IsBefore, ComesBefore, IsUpTo}

-- spans, each by its beginning
abbrev pub Spans : Type 0
Spans = BTreeMap ℕ (Option ℕ)

-- when the span that begins at this stamp ends, if one does
abbrev pub end_of : Spans → ℕ → Option (Option ℕ)
end_of spans made = get nat_cmp spans made

-- the one ends before the other begins
abbrev pub IsOver : Option ℕ → ℕ → Type 0
IsOver returned made = ComesBefore returned (Some made)

-- each begins before it ends, and none begins before an earlier one has ended
pub record AreInTurn (spans : Spans) : Type 0 where
  pub ends : (made : ℕ) (returned : Option ℕ) → end_of spans made ≡ Some returned → IsBefore made returned
  pub apart : (one other : ℕ) (returned : Option ℕ) (till : Option ℕ) → end_of spans one ≡ Some returned → end_of spans other ≡ Some till → one < other → IsOver returned other

-- a span meets none of these
abbrev pub MeetsNone : Spans → ℕ → Option ℕ → Type 0
MeetsNone spans made returned = (other : ℕ) (till : Option ℕ) → end_of spans other ≡ Some till → IsOver till made ⊎ IsOver returned other

-- one span more
abbrev pub IsAdded : Spans → ℕ → Option ℕ → Spans → Type 0
IsAdded spans made returned added = (end_of added made ≡ Some returned) × ((other : ℕ) → (other ≡ made → ⊥) → end_of added other ≡ end_of spans other)

-- the last span that begins at this stamp or before it, if one does
abbrev pub IsLastBegun : Spans → Option ℕ → Option (ℕ × Option ℕ) → Type 0
IsLastBegun spans stamp None = (made : ℕ) → IsUpTo (Some made) stamp → end_of spans made ≡ None
IsLastBegun spans stamp (Some span) = (end_of spans span.0 ≡ Some span.1) × IsUpTo (Some span.0) stamp
    × ((made : ℕ) (till : Option ℕ) → IsUpTo (Some made) stamp → end_of spans made ≡ Some till → made ≤ span.0)
