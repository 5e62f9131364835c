-- The answers of a batch: its owner, which has helped it, loads the values that its dequeues got.
use Rattle.std.specs.Prelude.{◌<◌, ℕ, suc, nat_lt, List, [], ◌∷◌, true, Option, Some, None}
use Rattle.lane_steps.specs.declared.point.AnswerPoint.{AnswerPoint}
use Rattle.lane_steps.specs.declared.point.AnswerPoint.TheVariants.{LoadOldTail, LoadLink, LoadValue}
use Rattle.word_rows.specs.declared.place.Place.{Place}
use Rattle.word_rows.specs.declared.link_word.LinkWord.{LinkWord}
use Rattle.word_rows.specs.declared.link_word.LinkWord.TheVariants.{Nil, Single, Chain, Shut}
use Rattle.word_rows.specs.declared.location.AnnField.TheVariants as field
use Rattle.word_rows.specs.declared.location.Location.TheVariants.{Link, Value, AnnWord}
use Rattle.word_rows.specs.declared.content.Content.{Content}
use Rattle.lane_steps.specs.declared.act.Act.{Act}
use Rattle.lane_steps.specs.declared.act.Act.TheVariants.{Load}
use Rattle.lane_steps.specs.declared.course.Course.{Course}
use Rattle.lane_steps.specs.declared.course.Course.TheVariants.{GoesOn, Reads, ReadsMore}
use Rattle.lane_steps.specs.declared.kind.StepKind.{StepKind}
use Rattle.lane_steps.specs.declared.kind.StepKind.TheVariants as kind
use Rattle.lane_steps.specs.declared.point.Help.{Help}
use Rattle.lane_steps.specs.declared.point.Reading.{Reading}
use Rattle.lane_steps.specs.declared.point.Point.TheVariants as point
use Rattle.excess_count.specs.Counts.{counts_of, successes_of}
use Rattle.lane_steps.specs.Functions.{upto}
use Rattle.lane_steps.specs.Stopper.{is_stopped, linked_rows, passes}
use Rattle.lane_steps.specs.State.{Caller, own_group, link_in, value_in, old_tail_in}
use Rattle.lane_steps.specs.Help.{before_it}
use Rattle.lane_steps.specs.Fact.{Fact, reads, tail_over, takes_effect, has_read, is_reading, linearized_is, own_rows, out_of_head}
use Rattle.bq_model.specs.declared.shape.Shape.{Shape}
use Rattle.word_rows.specs.Fits.{limits_of, PlaceFits}
use Rattle.word_rows.specs.Sizes.{rows_of}
use Rattle.lane_steps.specs.Fits.{HelpFits}

abbrev pub act : AnswerPoint → Act
act (LoadOldTail h) = Load (AnnWord h.ann field.OldTail)
act (LoadLink b r l) = Load (Link r)
act (LoadValue b r l) = Load (Value r)

-- its batch was on so many values
abbrev pub reading : Help → ℕ → Reading
reading h n = record { dummy = h.old_head; queued = n; stopped = is_stopped h.counts n }

abbrev pub after_old_tail : Help → Option Place → Course
after_old_tail h None = GoesOn (point.Answer (LoadOldTail h))
after_old_tail h (Some q) = Reads (reading h (before_it h q)) h.old_head.row (successes_of h.counts (before_it h q)) (nat_lt 0 (linked_rows h.counts (before_it h q)))

-- it found this behind a row, with so many values to go behind the next one
abbrev pub after_link : Reading → ℕ → ℕ → LinkWord → AnswerPoint
after_link b r l Nil = LoadLink b r l
after_link b r l (Single x) = LoadValue b x l
after_link b r l (Chain x) = LoadValue b x l
after_link b r l Shut = LoadLink b r l

abbrev pub course : AnswerPoint → Content → Course
course (LoadOldTail h) x = after_old_tail h (old_tail_in x)
course (LoadLink b r l) x = GoesOn (point.Answer (after_link b r l (link_in x)))
course (LoadValue b r l) x = ReadsMore b r l (value_in x)

abbrev pub kind_of : AnswerPoint → StepKind
kind_of (LoadOldTail h) = kind.LoadAnn
kind_of (LoadLink b r l) = kind.LoadLink
kind_of (LoadValue b r l) = kind.LoadValue

-- the places that its rows have, and which of them it has yet to mark
abbrev pub owed : Caller → Reading → Fact
owed k b = linearized_is true k.rows (upto b.dummy.count (passes (counts_of k.ops) b.queued)) (upto (suc b.dummy.count) (successes_of (counts_of k.ops) b.queued))

abbrev pub call_knows : List Fact
call_knows = []

abbrev pub knows : ℕ → Caller → AnswerPoint → List Fact
knows c k (LoadOldTail h) = out_of_head ∷ reads 4 h ∷ tail_over h.ann ∷ takes_effect h.ann k.rows k.started_at (own_group c k) ∷ []
knows c k (LoadLink b r l) = owed k b ∷ own_rows k.rows ∷ has_read k.started_at (own_group c k) b k.values k.walked (suc l) r ∷ []
knows c k (LoadValue b r l) = owed k b ∷ own_rows k.rows ∷ is_reading k.started_at (own_group c k) b k.values k.walked l r ∷ []

-- what it has read fits in the lane
abbrev pub fits : Shape → AnswerPoint → Type 0
fits s (LoadOldTail h) = HelpFits s h
fits s (LoadLink b r l) = PlaceFits (limits_of s) b.dummy × (r < rows_of s)
fits s (LoadValue b r l) = PlaceFits (limits_of s) b.dummy × (r < rows_of s)
