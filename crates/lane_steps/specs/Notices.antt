-- The words of an announcement as what it says.
use Rattle.std.specs.Prelude.{ℕ, None}
use Rattle.word_rows.specs.declared.place.Place.{Place}
use Rattle.word_rows.specs.declared.head_word.HeadWord.{HeadWord}
use Rattle.word_rows.specs.declared.head_word.HeadWord.TheVariants.{Node, Ann}
use Rattle.excess_count.specs.declared.counts.Counts.{Counts}
use Rattle.word_rows.specs.declared.batch_words.BatchNumber.{BatchNumber}
use Rattle.word_rows.specs.declared.location.AnnField.{AnnField}
use Rattle.word_rows.specs.declared.location.AnnField.TheVariants as field
use Rattle.word_rows.specs.declared.content.Content.{Content}
use Rattle.word_rows.specs.declared.content.Content.TheVariants.{OfHead, OfOldTail, OfChainEnd, OfCounts, OfBatchNo, OfOrder}
use Rattle.lane_steps.specs.declared.point.Notice.{Notice}

abbrev pub place : ℕ → ℕ → Place
place row count = record { row = row; count = count }

abbrev pub batch_counts : ℕ → ℕ → ℕ → Counts
batch_counts enqs deqs excess = record { enqs = enqs; deqs = deqs; excess = excess }

abbrev pub batch_number : ℕ → ℕ → BatchNumber
batch_number batch caller = record { batch = batch; caller = caller }

-- the word of a field; OldTail isn't known as it is written
abbrev pub field_in : Notice → AnnField → Content
field_in n field.OldHead = OfHead (Node n.old_head)
field_in n field.OldTail = OfOldTail None
field_in n field.First = OfChainEnd n.first
field_in n field.Last = OfChainEnd n.last
field_in n field.Counts = OfCounts n.counts
field_in n field.BatchNo = OfBatchNo n.number
field_in n field.Order0 = OfOrder n.order0
field_in n field.Order1 = OfOrder n.order1
field_in n field.Order2 = OfOrder n.order2
field_in n field.Order3 = OfOrder n.order3

-- the content as that of such a field; any, where it is of another kind
abbrev pub dummy_of : HeadWord → Place
dummy_of (Node p) = p
dummy_of (Ann a n) = place 0 0

abbrev pub dummy_in : Content → Place
dummy_in (OfHead x) = dummy_of x
dummy_in _ = place 0 0

abbrev pub chain_end_in : Content → ℕ
chain_end_in (OfChainEnd row) = row
chain_end_in _ = 0

abbrev pub counts_in : Content → Counts
counts_in (OfCounts counts) = counts
counts_in _ = batch_counts 0 0 0

abbrev pub number_in : Content → BatchNumber
number_in (OfBatchNo number) = number
number_in _ = batch_number 0 0

abbrev pub order_in : Content → ℕ
order_in (OfOrder bits) = bits
order_in _ = 0

-- what it says after a store into a field
abbrev pub with_field : Notice → AnnField → Content → Notice
with_field n field.OldHead x = record n { old_head = dummy_in x }
with_field n field.OldTail x = n
with_field n field.First x = record n { first = chain_end_in x }
with_field n field.Last x = record n { last = chain_end_in x }
with_field n field.Counts x = record n { counts = counts_in x }
with_field n field.BatchNo x = record n { number = number_in x }
with_field n field.Order0 x = record n { order0 = order_in x }
with_field n field.Order1 x = record n { order1 = order_in x }
with_field n field.Order2 x = record n { order2 = order_in x }
with_field n field.Order3 x = record n { order3 = order_in x }

-- that of an announcement that was never written
abbrev pub blank : Notice
blank = record { old_head = place 0 0; first = 0; last = 0; counts = batch_counts 0 0 0; number = batch_number 0 0; order0 = 0; order1 = 0; order2 = 0; order3 = 0 }
