-- What a list of retired rows gives: the first one that isn't held.
use Rattle.std.specs.Prelude.{ℕ, Bool, cond, not, List, [], ◌∷◌, Option, find}
use Rattle.node_guard.specs.Pick.{among}

abbrev pub is_unheld : List ℕ → ℕ → Bool
is_unheld held row = not (among held row)

-- the first of the rows that isn't among those that are held
abbrev pub first_unheld : List ℕ → List ℕ → Option ℕ
first_unheld held rows = find (is_unheld held) rows

-- the rows without that one, in their order
abbrev pub without_first_unheld : List ℕ → List ℕ → List ℕ
without_first_unheld held [] = []
without_first_unheld held (row ∷ rows) = cond (is_unheld held row) rows (row ∷ without_first_unheld held rows)
