-- How what a word holds is coded as one number below 2 ^ 64.
use Rattle.std.specs.Prelude.{ℕ, ◌+◌, ◌*◌, ◌^◌, ◌||◌, Bool, Option, Some, None, if◌then◌else◌}
use Rattle.word_rows.specs.declared.place.Place.{Place}
use Rattle.word_rows.specs.declared.head_word.HeadWord.{HeadWord}
use Rattle.word_rows.specs.declared.head_word.HeadWord.TheVariants.{Node, Ann}
use Rattle.word_rows.specs.declared.link_word.LinkWord.{LinkWord}
use Rattle.word_rows.specs.declared.link_word.LinkWord.TheVariants.{Nil, Single, Chain, Shut}
use Rattle.word_rows.specs.declared.marks.Marks.{Marks}
use Rattle.excess_count.specs.declared.counts.Counts.{Counts}
use Rattle.word_rows.specs.declared.batch_words.BatchNumber.{BatchNumber}

-- a count, the number of a row or announcement, and in the last two bits which of them it is
abbrev pub counted_word : ℕ → ℕ → ℕ → ℕ
counted_word count number kind = count * 2 ^ 20 + number * 4 + kind

abbrev pub place_word : Place → ℕ
place_word p = counted_word p.count p.row 0

abbrev pub head_word : HeadWord → ℕ
head_word (Node p) = place_word p
head_word (Ann ann count) = counted_word count ann 1

abbrev pub link_word : LinkWord → ℕ
link_word Nil = 0
link_word (Single row) = row * 4 + 1
link_word (Chain row) = row * 4 + 2
link_word Shut = 3

-- what a bit of this weight adds
abbrev pub bit : Bool → ℕ → ℕ
bit is_set weight = if is_set then weight else 0

abbrev pub marks_word : Marks → ℕ
marks_word m = bit m.read 1 + bit m.passed 2 + bit m.free 4

-- the marks that either has
abbrev pub joined_marks : Marks → Marks → Marks
joined_marks a b = record { read = a.read || b.read; passed = a.passed || b.passed; free = a.free || b.free }

-- nothing, or the number of a row or announcement
abbrev pub hazard_word : Option ℕ → ℕ
hazard_word None = 0
hazard_word (Some number) = 1 + number

-- 3 is no place's word
abbrev pub old_tail_word : Option Place → ℕ
old_tail_word None = 3
old_tail_word (Some p) = place_word p

abbrev pub counts_word : Counts → ℕ
counts_word c = c.enqs + c.deqs * 2 ^ 16 + c.excess * 2 ^ 32

abbrev pub batch_word : BatchNumber → ℕ
batch_word b = b.batch * 32 + b.caller
