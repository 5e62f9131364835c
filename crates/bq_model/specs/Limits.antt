-- The limits of a lane.
use Rattle.std.specs.Prelude.{ℕ, ◌+◌, ◌*◌, ◌^◌, ◌≤◌, ◌<◌}

-- a number that is at least 1 and at most this
abbrev pub Within : ℕ → ℕ → Type 0
Within most n = (1 ≤ n) × (n ≤ most)

-- what a lane may be made for
pub record InLimits (callers batch room allowance first_count : ℕ) : Type 0 where
  pub some_callers : Within 17 callers
  pub some_batch : Within 256 batch
  pub some_room : Within 256 room
  pub some_allowance : Within (2 ^ 38) allowance
  pub counts_fit : first_count + callers * allowance < 2 ^ 44
