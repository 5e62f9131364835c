-- What a caller knows of its search for a free row, and why it finds none: at a moment of its call its own queued items and its
-- enqueues passed the room.
use Rattle.std.specs.Prelude.{◌≡◌, ℕ, suc, ◌+◌, ◌++◌, ◌<◌, ◌≤◌, Bool, cond, List, length}
use Rattle.bq_model.specs.declared.group.Group.{Group}
use Rattle.bq_model.specs.declared.op.Op.{Op}
use Rattle.bq_model.specs.declared.shape.Shape.{Shape}
use Rattle.bq_model.specs.Own.{own}
use Rattle.excess_count.specs.Excess.{enqueue_count}
use Rattle.word_rows.specs.declared.marks.Marks.{Marks}
use Rattle.lane_steps.specs.declared.point.Closing.{Closing}
use Rattle.lane_steps.specs.declared.point.Closing.TheVariants.{Full}
use Rattle.lane_steps.specs.declared.point.Point.{Point}
use Rattle.lane_steps.specs.declared.point.Point.TheVariants as point
use Rattle.lane_steps.specs.declared.point.TakePoint.TheVariants.{LoadMark}
use Rattle.lane_steps.specs.LaneSizes.{lane_sizes, own_row, own_count}
use Rattle.lane_steps.specs.State.{Caller}
use Rattle.lane_steps.specs.Take.{is_stopper}
use Rattle.lane_room.specs.Busy.{busy, held_back}

-- At a moment of the history h, since it had `from` groups, the queued items of caller c and so many enqueues passed the room.
pub record AboveRoom (room : ℕ) (h : List Group) (c from enqs : ℕ) : Type 0 where
  pub before : List Group
  pub behind : List Group
  pub whole : h ≡ before ++ behind
  pub since_start : from ≤ length before
  pub above : room < own before c + enqs

-- The search of caller c has come to the row r, with l behind it. At such a moment no more of its rows weren't free than these:
-- those that its call has taken, so many, its queued items, and what all callers keep back. The rows before r, and those from
-- r on that aren't free now, are no more.
pub record Search (s : Shape) (mark : ℕ → Marks) (h : List Group) (c from : ℕ) (stops : Bool) (taken r l : ℕ) : Type 0 where
  pub number : ℕ
  pub row : own_row (lane_sizes s) c stops number ≡ r
  pub ends : number + suc l ≡ own_count (lane_sizes s) stops
  pub before : List Group
  pub behind : List Group
  pub whole : h ≡ before ++ behind
  pub since_start : from ≤ length before
  pub few : number + length (busy mark r (suc l)) ≤ taken + (cond stops 0 (own before c) + held_back s)

-- of the command of caller c of these operations, which began at `from` groups, in a lane with this history
module _ (s : Shape) (h : List Group) (c : ℕ) (ops : List Op) (from : ℕ) where
  -- it has an enqueue, and passed the room
  abbrev pub IsAbove : Type 0
  IsAbove = (0 < enqueue_count ops) × AboveRoom s.room h c from (enqueue_count ops)

  -- why it ends with Full, where it does
  abbrev pub WhyFull : Closing → Type 0
  WhyFull Full = IsAbove
  WhyFull _ = Unit {0}

-- and with these marks
module _ (s : Shape) (mark : ℕ → Marks) (h : List Group) (c : ℕ) where
  -- what its caller knows at a point, where it has taken so many rows
  abbrev pub CauseAt : List Op → ℕ → ℕ → Point → Type 0
  CauseAt ops from taken (point.Take t (LoadMark r l)) = Search s mark h c from (is_stopper t) taken r l
  CauseAt ops from taken (point.Close a p) = WhyFull s h c ops from a
  CauseAt ops from taken _ = Unit {0}

  abbrev pub KnowsCause : Caller → Type 0
  KnowsCause k = CauseAt k.ops k.started_at (length k.rows) k.point
