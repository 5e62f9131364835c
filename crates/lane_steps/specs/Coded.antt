-- All numbers of a lane can be coded: those in its words, and those that its callers keep.
use Rattle.std.specs.Prelude.{ℕ, ◌<◌, ◌^◌, get_or}
use Rattle.bq_model.specs.declared.shape.Shape.{Shape}
use Rattle.bq_model.specs.Values.{enqueued}
use Rattle.word_rows.specs.declared.location.Location.{Location}
use Rattle.word_rows.specs.Contents.{MayHold}
use Rattle.word_rows.specs.Layout.{IsValid}
use Rattle.word_rows.specs.Sizes.{rows_of}
use Rattle.lane_steps.specs.declared.course.Course.{Course}
use Rattle.lane_steps.specs.declared.course.Course.TheVariants.{GoesOn, Passes, Fills, Chains, Stops, Takes, Hears, Guards, Holds, Reads, ReadsMore, Walks, WalksMore, Moves, Marks, Retires}
use Rattle.lane_steps.specs.declared.point.Point.{Point}
use Rattle.lane_steps.specs.declared.point.Point.TheVariants as point
use Rattle.lane_steps.specs.Fits.{ItemFits, DraftFits, HelpFits, NoticeFits, PlanFits}
use Rattle.lane_steps.specs.State.{State, read}
use Rattle.lane_steps.specs.Enqueue as enqueue
use Rattle.lane_steps.specs.Dequeue as dequeue
use Rattle.lane_steps.specs.Many as dequeuing
use Rattle.lane_steps.specs.Help as helping
use Rattle.lane_steps.specs.Answer as answering
use Rattle.lane_steps.specs.Fill as filling
use Rattle.lane_steps.specs.Take as taking
use Rattle.lane_steps.specs.Guard as guarding
use Rattle.lane_steps.specs.Close as closing
use Rattle.word_rows.specs.Fits.{limits_of, PlaceFits}
use Rattle.lane_steps.specs.declared.point.Taking.{Taking}
use Rattle.lane_steps.specs.declared.point.Taking.TheVariants as taking_for
use Rattle.lane_steps.specs.declared.point.Guarding.{Guarding}
use Rattle.lane_steps.specs.declared.point.Guarding.TheVariants as guard

abbrev pub TakingFits : Shape → Taking → Type 0
TakingFits s (taking_for.Enqueue v) = v < 2 ^ 64
TakingFits s (taking_for.Batch n v) = NoticeFits s n × (v < 2 ^ 64)
TakingFits s (taking_for.Stopper n) = NoticeFits s n

abbrev pub GuardingFits : Shape → Guarding → Type 0
GuardingFits s (guard.Enqueue x p) = ItemFits s x
GuardingFits s (guard.Dequeue p) = Unit {0}
GuardingFits s (guard.Many d) = PlanFits s d
GuardingFits s (guard.ManyTail d p) = PlanFits s d
GuardingFits s (guard.Help h) = HelpFits s h
GuardingFits s (guard.HelpTail h p) = HelpFits s h

-- what a caller has at its point
abbrev pub PointFits : Shape → Point → Type 0
PointFits s point.Idle = Unit {0}
PointFits s (point.Enqueue x p) = ItemFits s x × enqueue.fits s p
PointFits s (point.Dequeue p) = dequeue.fits s p
PointFits s (point.Fill n p) = NoticeFits s n × filling.fits s p
PointFits s (point.Batch d p) = DraftFits s d
PointFits s (point.Many d p) = PlanFits s d × dequeuing.fits s p
PointFits s (point.Help h p) = HelpFits s h × helping.fits s p
PointFits s (point.Answer p) = answering.fits s p
PointFits s (point.Take t p) = TakingFits s t × taking.fits s p
PointFits s (point.Guard t p) = GuardingFits s t × guarding.fits s t
PointFits s (point.Close a p) = closing.fits s p

-- and with what it goes on
abbrev pub CourseFits : Shape → Course → Type 0
CourseFits s (GoesOn t) = PointFits s t
CourseFits s (Passes a p r) = PlaceFits (limits_of s) p × (r < rows_of s)
CourseFits s (Fills n r) = NoticeFits s n × (r < rows_of s)
CourseFits s (Chains n i) = NoticeFits s n
CourseFits s (Stops n r) = NoticeFits s n × (r < rows_of s)
CourseFits s (Takes t) = TakingFits s t
CourseFits s (Hears n e x) = NoticeFits s n
CourseFits s (Guards t h) = PointFits s t
CourseFits s (Holds t h) = PointFits s t
CourseFits s (Reads b r l linked) = PlaceFits (limits_of s) b.dummy × (r < rows_of s)
CourseFits s (ReadsMore b r l v) = PlaceFits (limits_of s) b.dummy × (r < rows_of s)
CourseFits s (Walks t) = PointFits s t
CourseFits s (WalksMore t r v) = PointFits s t × (r < rows_of s)
CourseFits s (Moves p m) = PlaceFits (limits_of s) p
CourseFits s (Marks a q both stopped) = PlaceFits (limits_of s) q
CourseFits s (Retires a r) = r < rows_of s
CourseFits s _ = Unit {0}

-- Each word of the lane holds what it may hold, and what each caller has fits. The values that it enqueues are words.
pub record IsCoded (shape : Shape) (s : State) : Type 0 where
  pub words : (l : Location) → IsValid shape l → MayHold shape l (read s.memory l)
  pub points : (c : ℕ) → PointFits shape (s.callers c).point
  -- the rows in its lists are rows of the lane
  pub taken : (c j : ℕ) → get_or (s.callers c).rows j 0 < rows_of shape
  pub walked : (c j : ℕ) → get_or (s.callers c).walked j 0 < rows_of shape
  pub retired : (c j : ℕ) → get_or (s.callers c).retired j 0 < rows_of shape
  pub puts : (c j : ℕ) → get_or (enqueued (s.callers c).ops) j 0 < 2 ^ 64
