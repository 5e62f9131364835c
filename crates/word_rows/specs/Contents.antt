-- What each word of a lane may hold, and how that is coded.
use Rattle.std.specs.Prelude.{ℕ, ◌^◌, ◌<◌}
use Rattle.bq_model.specs.declared.shape.Shape.{Shape}
use Rattle.word_rows.specs.declared.location.AnnField.{AnnField}
use Rattle.word_rows.specs.declared.location.AnnField.TheVariants.{OldHead, OldTail, First, Last, Counts, BatchNo, Order0, Order1, Order2, Order3}
use Rattle.word_rows.specs.declared.location.Location.{Location}
use Rattle.word_rows.specs.declared.location.Location.TheVariants.{Head, Tail, Link, Value, Mark, NodeHazard, AnnHazard, AnnWord}
use Rattle.word_rows.specs.declared.content.Content.{Content}
use Rattle.word_rows.specs.declared.content.Content.TheVariants.{OfHead, OfTail, OfLink, OfValue, OfMark, OfNodeHazard, OfAnnHazard, OfOldTail, OfChainEnd, OfCounts, OfBatchNo, OfOrder}
use Rattle.word_rows.specs.Packing.{place_word, head_word, link_word, marks_word, hazard_word, old_tail_word, counts_word, batch_word}
use Rattle.word_rows.specs.Fits.{Limits, coding_limits, limits_of, PlaceFits, HeadFits, LinkFits, HazardFits, OldTailFits, CountsFit, BatchFits}

-- the content as a number below 2 ^ 64
abbrev pub coded : Content → ℕ
coded (OfHead word) = head_word word
coded (OfTail place) = place_word place
coded (OfLink link) = link_word link
coded (OfValue value) = value
coded (OfMark marks) = marks_word marks
coded (OfNodeHazard row) = hazard_word row
coded (OfAnnHazard ann) = hazard_word ann
coded (OfOldTail place) = old_tail_word place
coded (OfChainEnd row) = row
coded (OfCounts counts) = counts_word counts
coded (OfBatchNo number) = batch_word number
coded (OfOrder bits) = bits

-- its numbers stay below the limits
abbrev pub Fits : Limits → Content → Type 0
Fits m (OfHead word) = HeadFits m word
Fits m (OfTail place) = PlaceFits m place
Fits m (OfLink link) = LinkFits m link
Fits m (OfValue value) = value < 2 ^ 64
Fits m (OfMark marks) = Unit {0}
Fits m (OfNodeHazard row) = HazardFits m.rows row
Fits m (OfAnnHazard ann) = HazardFits m.anns ann
Fits m (OfOldTail place) = OldTailFits m place
Fits m (OfChainEnd row) = row < m.rows
Fits m (OfCounts counts) = CountsFit counts
Fits m (OfBatchNo number) = BatchFits m number
Fits m (OfOrder bits) = bits < 2 ^ 64

-- this field of an announcement has contents of this kind
abbrev pub IsOfField : AnnField → Content → Type 0
IsOfField OldHead (OfHead word) = Unit {0}
IsOfField OldTail (OfOldTail place) = Unit {0}
IsOfField First (OfChainEnd row) = Unit {0}
IsOfField Last (OfChainEnd row) = Unit {0}
IsOfField Counts (OfCounts counts) = Unit {0}
IsOfField BatchNo (OfBatchNo number) = Unit {0}
IsOfField Order0 (OfOrder bits) = Unit {0}
IsOfField Order1 (OfOrder bits) = Unit {0}
IsOfField Order2 (OfOrder bits) = Unit {0}
IsOfField Order3 (OfOrder bits) = Unit {0}
IsOfField _ _ = ⊥

-- this word has contents of this kind
abbrev pub IsOfKind : Location → Content → Type 0
IsOfKind Head (OfHead word) = Unit {0}
IsOfKind Tail (OfTail place) = Unit {0}
IsOfKind (Link row) (OfLink link) = Unit {0}
IsOfKind (Value row) (OfValue value) = Unit {0}
IsOfKind (Mark row) (OfMark marks) = Unit {0}
IsOfKind (NodeHazard caller) (OfNodeHazard row) = Unit {0}
IsOfKind (AnnHazard caller) (OfAnnHazard ann) = Unit {0}
IsOfKind (AnnWord ann field) x = IsOfField field x
IsOfKind _ _ = ⊥

-- this can be coded in this field of an announcement
abbrev pub CanCodeField : AnnField → Content → Type 0
CanCodeField f x = IsOfField f x × Fits coding_limits x

-- this can be coded in this word
abbrev pub CanCode : Location → Content → Type 0
CanCode l x = IsOfKind l x × Fits coding_limits x

-- this word of the lane may hold this: it is of the word's kind, and all that it names is there
abbrev pub MayHold : Shape → Location → Content → Type 0
MayHold s l x = IsOfKind l x × Fits (limits_of s) x
