-- The course of a step has what fits, where the caller's point did and its word held what it may hold.
use Rattle.std.proofs.Common.{ℕ}
use Rattle.bq_model.specs.declared.shape.Shape.{Shape}
use Rattle.word_rows.specs.declared.content.Content.{Content}
use Rattle.word_rows.specs.Contents.{MayHold}
use Rattle.word_rows.specs.Sizes.{rows_of}
use Rattle.lane_steps.specs.declared.point.Point.{Point}
use Rattle.lane_steps.specs.declared.point.Point.TheVariants as point
use Rattle.lane_steps.specs.Coded.{PointFits, CourseFits}
use Rattle.lane_steps.specs.Step.{target, course}
use Rattle.core_model.proofs.AnswerSteps.{answer_fits}
use Rattle.core_model.proofs.BatchSteps.{batch_fits}
use Rattle.core_model.proofs.CallEnds.{close_fits}
use Rattle.core_model.proofs.DequeueSteps.{dequeue_fits}
use Rattle.core_model.proofs.EnqueueSteps.{enqueue_fits}
use Rattle.core_model.proofs.FillRows.{fill_fits}
use Rattle.core_model.proofs.Guards.{guard_fits}
use Rattle.core_model.proofs.HelpSteps.{help_fits}
use Rattle.core_model.proofs.ManySteps.{many_fits}
use Rattle.core_model.proofs.Takes.{NextInside, take_fits}

-- the next row of a search is one of the lane
abbrev pub SeeksInside : ℕ → Point → Type 0
SeeksInside rows (point.Take t p) = NextInside rows p
SeeksInside rows _ = Unit {0}

pub course_fits : (s : Shape) (c : ℕ) (t : Point) (x : Content) → PointFits s t → SeeksInside (rows_of s) t → MayHold s (target c t) x → CourseFits s (course t x)
course_fits s c point.Idle x a n m = tt
course_fits s c (point.Enqueue i p) x a n m = enqueue_fits s i p x a.0 a.1 m
course_fits s c (point.Dequeue p) x a n m = dequeue_fits s p x a m
course_fits s c (point.Fill d p) x a n m = fill_fits s d p x a.0 a.1
course_fits s c (point.Batch d p) x a n m = batch_fits s d p x a m
course_fits s c (point.Many d p) x a n m = many_fits s d p x a.0 a.1 m
course_fits s c (point.Help h p) x a n m = help_fits s h p x a.0 a.1 m
course_fits s c (point.Answer p) x a n m = answer_fits s p x a m
course_fits s c (point.Take t p) x a n m = take_fits s t p x a.0 a.1 n
course_fits s c (point.Guard t p) x a n m = guard_fits s t p x a.0 a.1
course_fits s c (point.Close y p) x a n m = close_fits s y p x a
