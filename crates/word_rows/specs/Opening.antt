-- What the words of a lane hold at the beginning.
use Rattle.std.specs.Prelude.{ℕ, ◌==◌, true, not, None}
use Rattle.bq_model.specs.declared.shape.Shape.{Shape}
use Rattle.word_rows.specs.declared.place.Place.{Place}
use Rattle.word_rows.specs.declared.head_word.HeadWord.TheVariants.{Node}
use Rattle.word_rows.specs.declared.link_word.LinkWord.TheVariants.{Nil}
use Rattle.word_rows.specs.declared.marks.Marks.{Marks}
use Rattle.word_rows.specs.declared.location.AnnField.{AnnField}
use Rattle.word_rows.specs.declared.location.AnnField.TheVariants.{OldHead, OldTail, First, Last, Counts, BatchNo, Order0, Order1, Order2, Order3}
use Rattle.word_rows.specs.declared.location.Location.{Location}
use Rattle.word_rows.specs.declared.location.Location.TheVariants.{Head, Tail, Link, Value, Mark, NodeHazard, AnnHazard, AnnWord}
use Rattle.word_rows.specs.declared.content.Content.{Content}
use Rattle.word_rows.specs.declared.content.Content.TheVariants.{OfHead, OfTail, OfLink, OfValue, OfMark, OfNodeHazard, OfAnnHazard, OfOldTail, OfChainEnd, OfCounts, OfBatchNo, OfOrder}

-- the first dummy, with the lane's first count
abbrev pub first_place : Shape → Place
first_place s = record { row = 0; count = s.first_count }

-- row 0 is in the list, and has no value; every other row is free
abbrev pub opening_marks : ℕ → Marks
opening_marks row = let is_free = not (row == 0) in record { read = true; passed = is_free; free = is_free }

abbrev pub opening_field : AnnField → Content
opening_field OldHead = OfHead (Node (record { row = 0; count = 0 }))
opening_field OldTail = OfOldTail None
opening_field First = OfChainEnd 0
opening_field Last = OfChainEnd 0
opening_field Counts = OfCounts (record { enqs = 0; deqs = 0; excess = 0 })
opening_field BatchNo = OfBatchNo (record { batch = 0; caller = 0 })
opening_field Order0 = OfOrder 0
opening_field Order1 = OfOrder 0
opening_field Order2 = OfOrder 0
opening_field Order3 = OfOrder 0

abbrev pub opening_of : Shape → Location → Content
opening_of s Head = OfHead (Node (first_place s))
opening_of s Tail = OfTail (first_place s)
opening_of s (Link row) = OfLink Nil
opening_of s (Value row) = OfValue 0
opening_of s (Mark row) = OfMark (opening_marks row)
opening_of s (NodeHazard caller) = OfNodeHazard None
opening_of s (AnnHazard caller) = OfAnnHazard None
opening_of s (AnnWord ann field) = opening_field field
