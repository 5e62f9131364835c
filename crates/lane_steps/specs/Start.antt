-- The start of a command by an idle caller, and an empty lane.
use Rattle.std.specs.Prelude.{ℕ, ◌+◌, ◌<◌, Bool, List, [], ◌∷◌, length, get_or, None, ◌==◌, true, false}
use Rattle.bq_model.specs.declared.op.Op.{Op}
use Rattle.bq_model.specs.declared.op.Op.TheVariants.{Enq, Deq, Shut}
use Rattle.bq_model.specs.History.{operations}
use Rattle.bq_model.specs.NoShut.{NoShut}
use Rattle.excess_count.specs.Excess.{enqueue_count}
use Rattle.bq_model.specs.Values.{enqueued}
use Rattle.word_rows.specs.declared.head_word.HeadWord.TheVariants.{Node}
use Rattle.word_rows.specs.declared.link_word.LinkWord.TheVariants.{Nil}
use Rattle.lane_steps.specs.declared.point.Notice.{Notice}
use Rattle.lane_steps.specs.declared.point.Point.{Point}
use Rattle.lane_steps.specs.declared.point.Point.TheVariants.{Idle}
use Rattle.lane_steps.specs.declared.point.DequeuePoint.TheVariants as deq
use Rattle.lane_steps.specs.declared.point.Taking.TheVariants as taking
use Rattle.lane_steps.specs.declared.point.ManyPoint.TheVariants as many
use Rattle.lane_steps.specs.declared.point.Point.TheVariants as point
use Rattle.lane_steps.specs.declared.point.Hold.TheVariants.{Free}
use Rattle.lane_steps.specs.Functions.{put}
use Rattle.lane_steps.specs.LaneSizes.{LaneSizes}
use Rattle.lane_steps.specs.Notices.{place, blank}
use Rattle.lane_steps.specs.Batches.{notice_of}
use Rattle.lane_steps.specs.Take.{search}
use Rattle.word_rows.specs.Opening.{opening_marks}
use Rattle.lane_steps.specs.State.{Caller, State}

-- so many more operations pass the allowance of a caller whose commands have ended
abbrev pub PassesAllowance : LaneSizes → Caller → ℕ → Type 0
PassesAllowance z k more = z.allowance < length (operations k.mine) + more

-- One operation is a plain call, and more are a batch. None is a Shut.
abbrev pub IsCommand : List Op → Type 0
IsCommand ops = (0 < length ops) × NoShut ops

-- what the batch of caller c is to say
abbrev pub draft_of : ℕ → Caller → List Op → Notice
draft_of c k ops = notice_of c (length k.mine) ops

-- how such a batch begins
abbrev pub batch_point : LaneSizes → ℕ → List Op → Notice → Bool → Point
batch_point z c ops n true = point.Many (record { ann = None; notice = n }) many.LoadHead
batch_point z c ops n false = search z c (taking.Batch n (get_or (enqueued ops) 0 0))

-- how the command of caller c begins
abbrev pub first_point : LaneSizes → ℕ → Caller → List Op → Point
first_point z c k [] = Idle
first_point z c k (Enq v ∷ []) = search z c (taking.Enqueue v)
first_point z c k (Deq ∷ []) = (point.Dequeue deq.LoadHead)
first_point z c k (Shut ∷ []) = Idle
first_point z c k (op ∷ next ∷ ops) = batch_point z c (op ∷ next ∷ ops) (draft_of c k (op ∷ next ∷ ops)) (enqueue_count (op ∷ next ∷ ops) == 0)

-- Of caller c, which keeps k, when the history has n groups: its command starts.
abbrev pub begun : LaneSizes → ℕ → ℕ → Caller → List Op → Caller
begun z n c k ops = record k { point = first_point z c k ops; ops = ops; rows = []; values = []; walked = []; started_at = n; ended_at = None }

-- the start of caller c's command
abbrev pub start : LaneSizes → State → ℕ → List Op → State
start z s c ops = record { memory = s.memory; history = s.history; callers = put s.callers c (begun z (length s.history) c (s.callers c) ops) }

-- a caller that made no command yet
abbrev pub newcomer : Caller
newcomer = record { point = Idle; ops = []; mine = []; rows = []; values = []; walked = []; retired = []; named = []; hold = Free; row_hold = Free; outcome = None; answers = []; started_at = 0; ended_at = None }

-- an empty lane, whose callers are idle
abbrev pub opening : LaneSizes → State
opening z = record {
  memory = record { head = Node (place 0 z.first); tail = place 0 z.first; link = λ _. Nil; value = λ _. 0; old_tail = λ _. None; notice = λ _. blank; ann_hazard = λ _. None; mark = opening_marks; node_hazard = λ _. None };
  history = [];
  callers = λ _. newcomer;
}
