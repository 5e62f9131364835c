-- Where each word of a lane lies in its table.
use Rattle.std.specs.Prelude.{ℕ, ◌+◌, ◌*◌, ◌<◌}
use Rattle.bq_model.specs.declared.shape.Shape.{Shape}
use Rattle.word_rows.specs.declared.location.AnnField.{AnnField}
use Rattle.word_rows.specs.declared.location.AnnField.TheVariants.{OldHead, OldTail, First, Last, Counts, BatchNo, Order0, Order1, Order2, Order3}
use Rattle.word_rows.specs.declared.location.Location.{Location}
use Rattle.word_rows.specs.declared.location.Location.TheVariants.{Head, Tail, Link, Value, Mark, NodeHazard, AnnHazard, AnnWord}
use Rattle.word_rows.specs.Sizes.{rows_of, anns_of}

-- which of an announcement's ten words it is
abbrev pub field_number : AnnField → ℕ
field_number OldHead = 0
field_number OldTail = 1
field_number First = 2
field_number Last = 3
field_number Counts = 4
field_number BatchNo = 5
field_number Order0 = 6
field_number Order1 = 7
field_number Order2 = 8
field_number Order3 = 9

-- the word is one of the lane
abbrev pub IsValid : Shape → Location → Type 0
IsValid s Head = Unit {0}
IsValid s Tail = Unit {0}
IsValid s (Link row) = row < rows_of s
IsValid s (Value row) = row < rows_of s
IsValid s (Mark row) = row < rows_of s
IsValid s (NodeHazard caller) = caller < s.callers
IsValid s (AnnHazard caller) = caller < s.callers
IsValid s (AnnWord ann field) = ann < anns_of s

-- the word's number in the table
abbrev pub index_of : Shape → Location → ℕ
index_of s Head = 0
index_of s Tail = 1
index_of s (Link row) = 2 + 3 * row
index_of s (Value row) = 3 + 3 * row
index_of s (Mark row) = 4 + 3 * row
index_of s (NodeHazard caller) = 2 + 3 * rows_of s + 2 * caller
index_of s (AnnHazard caller) = 3 + 3 * rows_of s + 2 * caller
index_of s (AnnWord ann field) = 2 + 3 * rows_of s + 2 * s.callers + 10 * ann + field_number field
