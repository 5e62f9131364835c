-- What a batch links on so many queued values, and how many rows the head passes for it. A batch of dequeues alone has a
-- stopper, a row without a value, and links it where the values are too few.
use Rattle.std.specs.Prelude.{ℕ, ◌+◌, ◌==◌, ◌&&◌, nat_lt, Bool, cond}
use Rattle.excess_count.specs.declared.counts.Counts.{Counts}
use Rattle.excess_count.specs.Counts.{successes_of}

-- the rows of its chain: one for each enqueue, or the stopper alone where there is none
abbrev pub chain_rows : Counts → ℕ
chain_rows k = k.enqs + cond (k.enqs == 0) 1 0

-- it links its stopper
abbrev pub is_stopped : Counts → ℕ → Bool
is_stopped k n = (k.enqs == 0) && nat_lt n k.deqs

abbrev pub stoppers : Counts → ℕ → ℕ
stoppers k n = cond (is_stopped k n) 1 0

-- how many rows it links, and how many the head passes for it
abbrev pub linked_rows : Counts → ℕ → ℕ
linked_rows k n = k.enqs + stoppers k n

abbrev pub passes : Counts → ℕ → ℕ
passes k n = successes_of k n + stoppers k n
