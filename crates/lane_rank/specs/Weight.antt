-- How many more steps a caller can make before its command ends or it has to begin a round again.
use Rattle.std.specs.Prelude.{ℕ, suc, ◌+◌, ◌-◌, ◌*◌, length}
use Rattle.bq_model.specs.declared.shape.Shape.{Shape}
use Rattle.excess_count.specs.Excess.{enqueue_count}
use Rattle.word_rows.specs.Sizes.{items_of, stoppers_of}
use Rattle.word_rows.specs.declared.location.AnnField.{AnnField}
use Rattle.word_rows.specs.declared.location.AnnField.TheVariants as field
use Rattle.lane_steps.specs.declared.point.Taking.{Taking}
use Rattle.lane_steps.specs.declared.point.Taking.TheVariants as taking
use Rattle.lane_steps.specs.declared.point.TakePoint.{TakePoint}
use Rattle.lane_steps.specs.declared.point.TakePoint.TheVariants as take
use Rattle.lane_steps.specs.declared.point.Guarding.{Guarding}
use Rattle.lane_steps.specs.declared.point.Guarding.TheVariants as guard
use Rattle.lane_steps.specs.declared.point.GuardPoint.{GuardPoint}
use Rattle.lane_steps.specs.declared.point.GuardPoint.TheVariants.{StoreHazard, LoadAgain}
use Rattle.lane_steps.specs.declared.point.EnqueuePoint.{EnqueuePoint}
use Rattle.lane_steps.specs.declared.point.EnqueuePoint.TheVariants as enq
use Rattle.lane_steps.specs.declared.point.DequeuePoint.{DequeuePoint}
use Rattle.lane_steps.specs.declared.point.DequeuePoint.TheVariants as deq
use Rattle.lane_steps.specs.declared.point.FillPoint.{FillPoint}
use Rattle.lane_steps.specs.declared.point.FillPoint.TheVariants as fill
use Rattle.lane_steps.specs.declared.point.BatchPoint.{BatchPoint}
use Rattle.lane_steps.specs.declared.point.BatchPoint.TheVariants as batch
use Rattle.lane_steps.specs.declared.point.ManyPoint.{ManyPoint}
use Rattle.lane_steps.specs.declared.point.ManyPoint.TheVariants as many
use Rattle.lane_steps.specs.declared.point.HelpPoint.{HelpPoint}
use Rattle.lane_steps.specs.declared.point.HelpPoint.TheVariants as help
use Rattle.lane_steps.specs.declared.point.AnswerPoint.{AnswerPoint}
use Rattle.lane_steps.specs.declared.point.AnswerPoint.TheVariants as answer
use Rattle.lane_steps.specs.declared.point.ClosePoint.{ClosePoint}
use Rattle.lane_steps.specs.declared.point.ClosePoint.TheVariants as close
use Rattle.lane_steps.specs.declared.point.Point.{Point}
use Rattle.lane_steps.specs.declared.point.Point.TheVariants as point
use Rattle.lane_steps.specs.State.{Caller}

-- In a lane of this shape, where no batch has more than M enqueues or more than M dequeues.
module _ (M : ℕ) (s : Shape) where
  -- the end of a call, by the rows that are to be marked and freed, and by the callers whose hazard words are to be loaded
  abbrev pub close_weight : Caller → ClosePoint → ℕ
  close_weight k (close.MarkRow q read passed stopped) = length k.retired + s.callers + 6 + 2 * length k.rows + 2 * length k.walked
  close_weight k (close.MarkLoose r) = length k.retired + s.callers + 5 + 2 * length k.rows
  close_weight k close.ClearNode = length k.retired + s.callers + 3
  close_weight k close.ClearAnn = length k.retired + s.callers + 2
  close_weight k (close.LoadHazard d) = length k.retired + (s.callers - d) + 1
  close_weight k (close.MarkFree r) = length k.retired

  -- more than this end weighs at its beginning
  abbrev pub whole_close : ℕ
  whole_close = 2 * s.callers + 4 * s.batch + 11

  abbrev pub answer_weight : AnswerPoint → ℕ
  answer_weight (answer.LoadOldTail h) = whole_close + 2 * M + 1
  answer_weight (answer.LoadLink b r l) = whole_close + 2 * l + 2
  answer_weight (answer.LoadValue b r l) = whole_close + 2 * l + 1

  -- the answers of a batch and the end, and a help before them
  abbrev pub whole_answer : ℕ
  whole_answer = whole_close + 2 * M

  abbrev pub help_weight : HelpPoint → ℕ
  help_weight help.LoadOldHead = whole_answer + M + 15
  help_weight help.LoadFirst = whole_answer + M + 14
  help_weight help.LoadLast = whole_answer + M + 13
  help_weight help.LoadCounts = whole_answer + M + 12
  help_weight help.LoadTail = whole_answer + M + 11
  help_weight (help.LoadOldTail p) = whole_answer + M + 8
  help_weight (help.LoadLink p) = whole_answer + M + 7
  help_weight (help.LinkChain p) = whole_answer + M + 6
  help_weight (help.Decide p) = whole_answer + M + 6
  help_weight (help.PassTail p n) = whole_answer + M + 6
  help_weight (help.RecordTail p) = whole_answer + M + 6
  help_weight (help.LoadTailOver q) = whole_answer + M + 5
  help_weight (help.MoveTailOver q) = whole_answer + M + 4
  help_weight (help.LoadWalk n r l) = whole_answer + 3 + l
  help_weight (help.MoveHead n r) = whole_answer + 2

  abbrev pub whole_help : ℕ
  whole_help = whole_answer + M + 18

  abbrev pub enqueue_weight : EnqueuePoint → ℕ
  enqueue_weight enq.StoreValue = whole_help + 5
  enqueue_weight enq.LoadTail = whole_help + 4
  enqueue_weight (enq.LoadLink p) = whole_help + 1
  enqueue_weight (enq.LinkSingle p) = whole_close + 2
  enqueue_weight (enq.PassTail p n) = whole_close + 1
  enqueue_weight (enq.MoveTail p n) = whole_close + 1
  enqueue_weight enq.LoadHead = whole_help

  abbrev pub dequeue_weight : DequeuePoint → ℕ
  dequeue_weight deq.LoadHead = whole_help
  dequeue_weight (deq.LoadLink p) = whole_close + 4
  dequeue_weight (deq.LoadTail p n) = whole_close + 3
  dequeue_weight (deq.LoadTailOver p n) = whole_close + 3
  dequeue_weight (deq.PassTail p n) = whole_close + 1
  dequeue_weight (deq.LoadValue p n) = whole_close + 2
  dequeue_weight (deq.MoveHead p n v) = whole_close + 1

  -- the fields of an announcement that are yet to be stored: OldHead last, or OldHead first
  abbrev pub fields_left : AnnField → ℕ
  fields_left field.OldHead = 1
  fields_left field.Order3 = 3
  fields_left field.Order2 = 4
  fields_left field.Order1 = 5
  fields_left field.Order0 = 6
  fields_left field.BatchNo = 7
  fields_left field.Counts = 8
  fields_left field.Last = 9
  fields_left field.First = 10
  fields_left field.OldTail = 11

  abbrev pub all_left : AnnField → ℕ
  all_left field.Order3 = 1
  all_left field.Order2 = 2
  all_left field.Order1 = 3
  all_left field.Order0 = 4
  all_left field.BatchNo = 5
  all_left field.Counts = 6
  all_left field.Last = 7
  all_left field.First = 8
  all_left field.OldTail = 9
  all_left field.OldHead = 10

  abbrev pub batch_weight : BatchPoint → ℕ
  batch_weight batch.Install = whole_help
  batch_weight batch.LoadHead = whole_help + 2
  batch_weight (batch.StoreField f) = whole_help + fields_left f
  batch_weight (batch.StoreAll f) = whole_help + all_left f

  -- a batch from the choice of its announcement on
  abbrev pub whole_batch : ℕ
  whole_batch = whole_help + 13 + s.callers

  -- the row of an enqueue, from the search for it on
  abbrev pub row_weight : ℕ
  row_weight = items_of s + stoppers_of s + 5

  -- the enqueues for which rows are yet to be taken
  abbrev pub enqueues_left : Caller → ℕ
  enqueues_left k = enqueue_count k.ops - length k.rows

  abbrev pub rows_weight : Caller → ℕ
  rows_weight k = whole_batch + s.batch + 2 + enqueues_left k * row_weight

  abbrev pub fill_weight : Caller → FillPoint → ℕ
  fill_weight k (fill.StoreValue r v) = rows_weight k
  fill_weight k (fill.StoreChain i r q) = whole_batch + (length k.rows - i)
  fill_weight k (fill.LoadHazard e) = whole_help + 12 + (s.callers - e)

  -- with what the call goes on once it has its row
  abbrev pub taken_weight : Caller → Taking → ℕ
  taken_weight k (taking.Enqueue v) = whole_help + 5
  taken_weight k (taking.Batch n v) = rows_weight k
  taken_weight k (taking.Stopper n) = whole_batch

  abbrev pub take_weight : Caller → Taking → TakePoint → ℕ
  take_weight k t (take.LoadMark r l) = taken_weight k t + 3 + l
  take_weight k t (take.ClearMark r) = taken_weight k t + 2
  take_weight k t (take.ClearLink r) = taken_weight k t + 1

  -- dequeues alone, from a walk with no value to go
  abbrev pub walk_weight : ℕ
  walk_weight = whole_batch + items_of s + stoppers_of s + 4

  abbrev pub many_weight : ManyPoint → ℕ
  many_weight many.LoadHead = walk_weight + 2 * M + 5
  many_weight many.LoadDummy = walk_weight + 2 * M + 2
  many_weight (many.LoadLink r l) = walk_weight + 2 * l + 2
  many_weight (many.LoadValue r l) = walk_weight + 2 * l + 1
  many_weight (many.LoadTail r) = whole_help + 4
  many_weight (many.MoveHead r) = whole_close + 1
  many_weight (many.LoadBehind p) = whole_help + 1
  many_weight (many.PassTail p n) = whole_close + 1
  many_weight many.LoadChained = whole_help

  -- the second load, before which the hazard word is stored
  abbrev pub again_weight : Guarding → ℕ
  again_weight (guard.Enqueue x p) = whole_help + 2
  again_weight (guard.Dequeue p) = whole_close + 5
  again_weight (guard.Many d) = walk_weight + 2 * M + 3
  again_weight (guard.ManyTail d p) = whole_help + 2
  again_weight (guard.Help h) = whole_answer + M + 16
  again_weight (guard.HelpTail h p) = whole_answer + M + 9

  abbrev pub guard_weight : Guarding → GuardPoint → ℕ
  guard_weight t StoreHazard = again_weight t + 1
  guard_weight t LoadAgain = again_weight t

  -- of a caller that keeps k, at this point
  abbrev pub weight : Caller → Point → ℕ
  weight k point.Idle = 0
  weight k (point.Take t p) = take_weight k t p
  weight k (point.Guard t p) = guard_weight t p
  weight k (point.Enqueue x p) = enqueue_weight p
  weight k (point.Dequeue p) = dequeue_weight p
  weight k (point.Fill n p) = fill_weight k p
  weight k (point.Batch d p) = batch_weight p
  weight k (point.Many d p) = many_weight p
  weight k (point.Help h p) = help_weight p
  weight k (point.Answer p) = answer_weight p
  weight k (point.Close a p) = close_weight k p

  -- the most that it is at the beginning of a round
  abbrev pub most_weight : ℕ
  most_weight = walk_weight + 2 * M + 5

  -- How much is left for a caller that keeps k and kept these two ranks, where no rank is above `most`. It falls with each of
  -- its steps: the weight does, or a greater rank is kept.
  abbrev pub left : ℕ → Caller → ℕ → ℕ → ℕ
  left most k o i = (2 * most - (o + i)) * suc most_weight + weight k k.point
