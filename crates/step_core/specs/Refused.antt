-- Why a command ended with Full.
use Rattle.std.specs.Prelude.{◌≡◌, ◌≢◌, ℕ, ◌+◌, ◌++◌, ◌<◌, ◌≤◌, List, length, slice_index_or, Option, Some}
use Rattle.bq_model.specs.declared.group.Group.{Group}
use Rattle.bq_model.specs.Own.{own}
use Rattle.excess_count.specs.Excess.{enqueue_count}
use Rattle.lane_steps.specs.declared.point.CallEnd.TheVariants.{Full}
use Rattle.lane_steps.specs.declared.point.Point.TheVariants.{Idle}
use Rattle.lane_steps.specs.State.{Caller}

-- A command of caller c, in a lane with this history, started and ended when that had so many groups. It has enqueues, so many,
-- and at a moment between its start and its end these and the queued items of its caller passed the room.
pub record PassedRoom (room : ℕ) (h : List Group) (c started : ℕ) (ended : Option ℕ) (enqueues : ℕ) : Type 0 where
  pub some : 0 < enqueues
  pub before : List Group
  pub behind : List Group
  pub whole : h ≡ before ++ behind
  pub since_start : started ≤ length before
  pub end : ℕ
  pub ends : ended ≡ Some end
  pub until_end : length before ≤ end
  pub above : room < own before c + enqueues

-- by the number of the caller
abbrev pub enqueues_of : List ℕ → ℕ → ℕ
enqueues_of enqueues c = slice_index_or enqueues c 0

-- Of caller c, which keeps k, and whose last command has so many enqueues: while it runs, these are those of its operations; where
-- it ended with Full, they passed the room.
pub record KnowsWhy (room : ℕ) (h : List Group) (c : ℕ) (k : Caller) (enqueues : ℕ) : Type 0 where
  pub some : k.point ≢ Idle → 0 < length k.ops
  pub counted : k.point ≢ Idle → enqueues ≡ enqueue_count k.ops
  pub passed : k.point ≡ Idle → k.outcome ≡ Some Full → PassedRoom room h c k.started_at k.ended_at enqueues
