-- Whose each row and each announcement is.
use Rattle.std.specs.Prelude.{◌≡◌, ℕ, ◌+◌, ◌*◌, ◌<◌, ◌⊎◌}
use Rattle.bq_model.specs.declared.shape.Shape.{Shape}
use Rattle.word_rows.specs.declared.homes.RowKind.{RowKind}
use Rattle.word_rows.specs.declared.homes.RowKind.TheVariants.{Dummy, Item, Stopper}
use Rattle.word_rows.specs.Sizes.{items_of, stoppers_of, own_rows_of}

-- the i-th item row of a caller
abbrev pub item_row_of : Shape → ℕ → ℕ → ℕ
item_row_of s caller i = 1 + caller * own_rows_of s + i

-- its i-th stopper row, behind the item rows
abbrev pub stopper_row_of : Shape → ℕ → ℕ → ℕ
stopper_row_of s caller i = 1 + caller * own_rows_of s + items_of s + i

-- the row that it is
abbrev pub row_of : Shape → RowKind → ℕ
row_of s Dummy = 0
row_of s (Item caller i) = item_row_of s caller i
row_of s (Stopper caller i) = stopper_row_of s caller i

-- there is such a row in the lane
abbrev pub IsRow : Shape → RowKind → Type 0
IsRow s Dummy = Unit {0}
IsRow s (Item caller i) = (caller < s.callers) × (i < items_of s)
IsRow s (Stopper caller i) = (caller < s.callers) × (i < stoppers_of s)

-- the row is one of the caller's items
abbrev pub IsItem : Shape → ℕ → ℕ → Type 0
IsItem s caller row = (i : ℕ) × (i < items_of s) × (row ≡ item_row_of s caller i)

-- the row is one of the caller's stoppers
abbrev pub IsStopper : Shape → ℕ → ℕ → Type 0
IsStopper s caller row = (i : ℕ) × (i < stoppers_of s) × (row ≡ stopper_row_of s caller i)

-- the row is the caller's
abbrev pub IsHome : Shape → ℕ → ℕ → Type 0
IsHome s caller row = IsItem s caller row ⊎ IsStopper s caller row

-- the i-th announcement of a caller
abbrev pub own_ann_of : Shape → ℕ → ℕ → ℕ
own_ann_of s caller i = caller * s.callers + i
