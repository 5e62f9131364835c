-- The generator of a mix.
use Rattle.std.specs.Prelude.{ℕ, zero, suc, ◌+◌, ◌*◌, ◌%◌, ◌^◌}

-- one turn
abbrev pub turned : ℕ → ℕ
turned x = (x * 6364136223846793005 + 1442695040888963407) % 2 ^ 64

-- the number after so many turns
abbrev pub mixed : ℕ → ℕ → ℕ
mixed x zero = x
mixed x (suc turns) = turned (mixed x turns)
