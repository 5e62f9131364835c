-- The machine's lists as the state of a lane.
use Rattle.std.specs.Prelude.{◌≡◌, ◌≢◌, ℕ, ◌<◌, ◌≤◌, List, [], slice_index_or, vec_len, vec_capacity, length, map, sum_by, All}
use Rattle.bq_model.specs.declared.op.Op.{Op}
use Rattle.bq_model.specs.Own.{mine}
use Rattle.word_rows.specs.Sizes.{rows_of, anns_of}
use Rattle.lane_steps.specs.declared.point.Point.TheVariants.{Idle}
use Rattle.lane_steps.specs.State.{Caller, State}
use Rattle.lane_steps.specs.Start.{newcomer}
use Rattle.lane_room.specs.Roomy.{Roomy}
use Rattle.step_core.specs.declared.call.Call.{Call}
use Rattle.step_core.specs.declared.lists.Lists.{Lists}
use Rattle.step_core.specs.Calls.{call_of, IsReady}
use Rattle.step_core.specs.Due.{due}
use Rattle.step_core.specs.Refused.{enqueues_of, KnowsWhy}
use Rattle.step_core.specs.Words.{memory_of, sizes_of, sizes_for}

-- the callers by their numbers
abbrev pub callers_of : List Call → ℕ → Caller
callers_of ks c = slice_index_or (map call_of ks) c newcomer

abbrev pub state_of : Lists → State
state_of m = record { memory = memory_of m.words; history = m.history.items; callers = callers_of m.calls.items }

-- the operations that are kept for a caller's group in the history
abbrev pub copy_at : List (List Op) → ℕ → List Op
copy_at copies c = slice_index_or copies c []

-- how many groups there will be when all running commands have ended
abbrev pub all_due : List Call → ℕ
all_due ks = sum_by due (map call_of ks)

-- there is room and a copy for the group of this caller's running command
pub record MayLinearize (m : Lists) (c : ℕ) : Type 0 where
  pub inside : c < vec_len m.calls
  pub with_copy : c < vec_len m.copies
  pub room : vec_len m.history < vec_capacity m.history
  pub copied : copy_at m.copies.items c ≡ (callers_of m.calls.items c).ops

-- The lists show a lawful lane in which it is known why a command ends with Full, and all memory that its steps need is there.
pub record IsSound (m : Lists) : Type 0 where
  pub roomy : Roomy m.shape (state_of m)
  pub sizes : sizes_of m.words ≡ sizes_for (rows_of m.shape) (anns_of m.shape) m.shape.callers
  pub calls : vec_len m.calls ≡ m.shape.callers
  pub copies : vec_len m.copies ≡ m.shape.callers
  pub ready : All (IsReady m.shape.batch m.shape.callers) m.calls.items
  -- there is room for the group of each running command, whoever adds it to the history
  pub reserved : all_due m.calls.items ≤ vec_capacity m.history
  -- and where it isn't there yet, a copy of its operations
  pub copied : (c : ℕ) → (callers_of m.calls.items c).point ≢ Idle → length (mine m.history.items c) ≡ length (callers_of m.calls.items c).mine
      → copy_at m.copies.items c ≡ (callers_of m.calls.items c).ops
  -- the enqueues of each caller's last command are counted, and passed the room where that ended with Full
  pub numbers : vec_len m.enqueues ≡ m.shape.callers
  pub why : (c : ℕ) → KnowsWhy m.shape.room m.history.items c (callers_of m.calls.items c) (enqueues_of m.enqueues.items c)
