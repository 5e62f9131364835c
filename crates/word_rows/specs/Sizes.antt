-- How many rows and words a lane has.
use Rattle.std.specs.Prelude.{ℕ, ◌+◌, ◌*◌}
use Rattle.bq_model.specs.declared.shape.Shape.{Shape}

-- how many rows can wait to be used again: for each caller those of a batch, as many as callers can hold, and one
abbrev pub waiting_of : Shape → ℕ
waiting_of s = s.callers * (s.batch + s.callers + 1)

-- the item rows of a caller
abbrev pub items_of : Shape → ℕ
items_of s = s.room + 1 + waiting_of s

-- the stopper rows of a caller
abbrev pub stoppers_of : Shape → ℕ
stoppers_of s = 2 + waiting_of s

-- the rows of a caller
abbrev pub own_rows_of : Shape → ℕ
own_rows_of s = items_of s + stoppers_of s

-- the rows of a lane: the first dummy, and those of its callers
abbrev pub rows_of : Shape → ℕ
rows_of s = 1 + s.callers * own_rows_of s

-- the announcements of a lane: as many for each caller as there are callers
abbrev pub anns_of : Shape → ℕ
anns_of s = s.callers * s.callers

-- the words of a lane: HEAD and TAIL, three for each row, two for each caller, ten for each announcement
abbrev pub words_of : Shape → ℕ
words_of s = 2 + 3 * rows_of s + 2 * s.callers + 10 * anns_of s
