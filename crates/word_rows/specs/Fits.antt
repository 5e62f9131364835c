-- How far the numbers in a word go.
use Rattle.std.specs.Prelude.{ℕ, ◌^◌, ◌<◌, Option, Some, None}
use Rattle.bq_model.specs.declared.shape.Shape.{Shape}
use Rattle.word_rows.specs.declared.place.Place.{Place}
use Rattle.word_rows.specs.declared.head_word.HeadWord.{HeadWord}
use Rattle.word_rows.specs.declared.head_word.HeadWord.TheVariants.{Node, Ann}
use Rattle.word_rows.specs.declared.link_word.LinkWord.{LinkWord}
use Rattle.word_rows.specs.declared.link_word.LinkWord.TheVariants.{Nil, Single, Chain, Shut}
use Rattle.excess_count.specs.declared.counts.Counts.{Counts}
use Rattle.word_rows.specs.declared.batch_words.BatchNumber.{BatchNumber}
use Rattle.word_rows.specs.Sizes.{rows_of, anns_of}

-- each number stays below its limit
pub record Limits : Type 0 where
  pub rows : ℕ
  pub anns : ℕ
  pub callers : ℕ
  pub batches : ℕ

-- what a coded number has room for
abbrev pub coding_limits : Limits
coding_limits = record { rows = 2 ^ 18; anns = 2 ^ 18; callers = 32; batches = 2 ^ 59 }

-- what there is in a lane
abbrev pub limits_of : Shape → Limits
limits_of s = record { rows = rows_of s; anns = anns_of s; callers = s.callers; batches = s.allowance }

abbrev pub CountFits : ℕ → Type 0
CountFits count = count < 2 ^ 44

abbrev pub PlaceFits : Limits → Place → Type 0
PlaceFits m p = (p.row < m.rows) × CountFits p.count

abbrev pub HeadFits : Limits → HeadWord → Type 0
HeadFits m (Node p) = PlaceFits m p
HeadFits m (Ann ann count) = (ann < m.anns) × CountFits count

abbrev pub LinkFits : Limits → LinkWord → Type 0
LinkFits m Nil = Unit {0}
LinkFits m (Single row) = row < m.rows
LinkFits m (Chain row) = row < m.rows
LinkFits m Shut = Unit {0}

-- nothing, or a number below this
abbrev pub HazardFits : ℕ → Option ℕ → Type 0
HazardFits most None = Unit {0}
HazardFits most (Some number) = number < most

abbrev pub OldTailFits : Limits → Option Place → Type 0
OldTailFits m None = Unit {0}
OldTailFits m (Some p) = PlaceFits m p

abbrev pub CountsFit : Counts → Type 0
CountsFit c = (c.enqs < 2 ^ 16) × (c.deqs < 2 ^ 16) × (c.excess < 2 ^ 16)

abbrev pub BatchFits : Limits → BatchNumber → Type 0
BatchFits m b = (b.batch < m.batches) × (b.caller < m.callers)
