-- A call takes a row: it loads the marks of its own rows of a kind, from the first one on, until one is free, stores that
-- one's marks, and clears its link. Where none is free, the call ends with Full.
use Rattle.std.specs.Prelude.{◌<◌, ℕ, zero, suc, ◌-◌, Bool, true, false, List, [], ◌∷◌, length, None}
use Rattle.bq_model.specs.declared.op.Op.TheVariants.{Enq}
use Rattle.bq_model.specs.declared.shape.Shape.{Shape}
use Rattle.word_rows.specs.declared.marks.Marks.{Marks}
use Rattle.word_rows.specs.declared.link_word.LinkWord.TheVariants.{Nil}
use Rattle.word_rows.specs.declared.location.Location.TheVariants.{Link, Mark}
use Rattle.word_rows.specs.declared.content.Content.{Content}
use Rattle.word_rows.specs.declared.content.Content.TheVariants.{OfLink, OfMark}
use Rattle.word_rows.specs.Sizes.{rows_of}
use Rattle.lane_steps.specs.declared.act.Act.{Act}
use Rattle.lane_steps.specs.declared.act.Act.TheVariants.{Load, Store}
use Rattle.lane_steps.specs.declared.course.Course.{Course}
use Rattle.lane_steps.specs.declared.course.Course.TheVariants.{GoesOn, Lacks, Stops}
use Rattle.lane_steps.specs.declared.kind.StepKind.{StepKind}
use Rattle.lane_steps.specs.declared.kind.StepKind.TheVariants as kind
use Rattle.lane_steps.specs.declared.point.Taking.{Taking}
use Rattle.lane_steps.specs.declared.point.Taking.TheVariants.{Enqueue, Batch, Stopper}
use Rattle.lane_steps.specs.declared.point.TakePoint.{TakePoint}
use Rattle.lane_steps.specs.declared.point.TakePoint.TheVariants.{LoadMark, ClearMark, ClearLink}
use Rattle.lane_steps.specs.declared.point.EnqueuePoint.TheVariants as enq
use Rattle.lane_steps.specs.declared.point.FillPoint.TheVariants as fill
use Rattle.lane_steps.specs.declared.point.Point.{Point}
use Rattle.lane_steps.specs.declared.point.Point.TheVariants as point
use Rattle.lane_steps.specs.LaneSizes.{LaneSizes, own_row, own_count}
use Rattle.lane_steps.specs.State.{Command, mark_in, marks}
use Rattle.lane_steps.specs.Fact.{Fact, linearized_is, is_op, drafts, fills, enqueues, only_dequeues, seeks, free_row, takes_row, apart_from, plans}

-- it takes a stopper
abbrev pub is_stopper : Taking → Bool
is_stopper (Enqueue v) = false
is_stopper (Batch n v) = false
is_stopper (Stopper n) = true

-- the marks of a row that was taken: a stopper has no value to be read
abbrev pub taken_marks : Bool → Marks
taken_marks b = marks b false false

-- the search of caller c begins at its first row of the kind
abbrev pub search : LaneSizes → ℕ → Taking → Point
search z c t = point.Take t (LoadMark (own_row z c (is_stopper t) 0) (own_count z (is_stopper t) - 1))

abbrev pub act : Taking → TakePoint → Act
act t (LoadMark r l) = Load (Mark r)
act t (ClearMark r) = Store (Mark r) (OfMark (taken_marks (is_stopper t)))
act t (ClearLink r) = Store (Link r) (OfLink Nil)

-- it found the row free or not, with so many behind it
abbrev pub after_mark : Taking → ℕ → ℕ → Bool → Course
after_mark t r l true = GoesOn (point.Take t (ClearMark r))
after_mark t r zero false = Lacks
after_mark t r (suc l) false = GoesOn (point.Take t (LoadMark (suc r) l))

-- the row is taken
abbrev pub after_take : Taking → ℕ → Course
after_take (Enqueue v) r = GoesOn (point.Enqueue (record { row = r; value = v }) enq.StoreValue)
after_take (Batch n v) r = GoesOn (point.Fill n (fill.StoreValue r v))
after_take (Stopper n) r = Stops n r

abbrev pub course : Taking → TakePoint → Content → Course
course t (LoadMark r l) x = after_mark t r l (mark_in x).free
course t (ClearMark r) x = GoesOn (point.Take t (ClearLink r))
course t (ClearLink r) x = after_take t r

abbrev pub kind_of : TakePoint → StepKind
kind_of (LoadMark r l) = kind.LoadMark
kind_of (ClearMark r) = kind.ClearMark
kind_of (ClearLink r) = kind.ClearLink

-- the rows that it has taken and not linked
abbrev pub rows_at : List ℕ → TakePoint → List ℕ
rows_at rows (ClearLink r) = r ∷ rows
rows_at rows _ = rows

-- what it knows of its command, and besides at each of its steps
abbrev pub command_knows : Command → Taking → List Fact
command_knows m (Enqueue v) = is_op m.ops m.rows (Enq v) ∷ []
command_knows m (Batch n v) = drafts m n ∷ fills m.rows m.ops 0 ∷ enqueues m.ops n (length m.rows) v ∷ []
command_knows m (Stopper n) = drafts m n ∷ only_dequeues n ∷ plans (record { ann = None; notice = n }) m.rows ∷ []

abbrev pub call_knows : Command → Taking → TakePoint → List Fact
call_knows m t p = linearized_is false (rows_at m.rows p) [] [] ∷ command_knows m t

abbrev pub knows : List ℕ → Taking → TakePoint → List Fact
knows rows t (LoadMark r l) = seeks (is_stopper t) r l ∷ []
knows rows t (ClearMark r) = free_row (is_stopper t) r ∷ []
knows rows t (ClearLink r) = takes_row (is_stopper t) r ∷ apart_from r rows ∷ []

-- what it has read fits in the lane
abbrev pub fits : Shape → TakePoint → Type 0
fits s (LoadMark r l) = r < rows_of s
fits s (ClearMark r) = r < rows_of s
fits s (ClearLink r) = r < rows_of s
