-- The least announcement of a caller that isn't held.
use Rattle.std.specs.Prelude.{ℕ, zero, suc, ◌*◌, ◌-◌, nat_eq, Bool, cond, List}
use Rattle.std.specs.List.{list_any}

-- whether the number is among these, as a slice's `contains` tells it
abbrev pub among : List ℕ → ℕ → Bool
among held x = list_any (λ y. nat_eq y x) held

-- the first of n numbers from a on that isn't among these; where all are, the one behind them
abbrev pub first_left : List ℕ → ℕ → ℕ → ℕ
first_left held zero a = a
first_left held (suc n) a = cond (among held a) (first_left held n (suc a)) a

-- The least announcement of the caller that isn't among these. Each caller has as many announcements as there are
-- callers, so where fewer are held, the last one is left if all before it are held.
abbrev pub pick : ℕ → ℕ → List ℕ → ℕ
pick callers caller held = first_left held (callers - 1) (caller * callers)
