-- Each event of a lane keeps room as it says; and a command ends with Full only where its enqueues and its caller's own queued items
-- passed the room.
use Rattle.std.proofs.Common.{◌≡◌, ◌<◌, ◌≤◌, ℕ, List, length, Some}
use Rattle.bq_model.specs.declared.op.Op.{Op}
use Rattle.bq_model.specs.declared.shape.Shape.{Shape}
use Rattle.excess_count.specs.Excess.{enqueue_count}
use Rattle.lane_steps.specs.declared.point.CallEnd.TheVariants as outcome
use Rattle.lane_steps.specs.declared.point.Point.TheVariants.{Idle}
use Rattle.lane_steps.specs.LaneSizes.{lane_sizes}
use Rattle.lane_steps.specs.Start.{PassesAllowance, IsCommand, start, opening}
use Rattle.lane_steps.specs.State.{State}
use Rattle.lane_steps.specs.Step.{next}
use Rattle.core_model.proofs.Opens.{opens}
use Rattle.core_model.proofs.Steps.{preserves_next, preserves_start}
use Rattle.lane_room.specs.Roomy.{Roomy}
use Rattle.lane_room.specs.Search.{AboveRoom}
use Rattle.lane_room.proofs.CauseSteps.{causes_next, full_cause, causes_start}
use Rattle.lane_room.proofs.Shares.{shares_next, shares_start, shares_open}

pub roomy_opens : (z : Shape) → Roomy z (opening (lane_sizes z))
roomy_opens z = record { lawful = opens z; shares = shares_open z; causes = λ c. tt }

pub roomy_next : (z : Shape) (s : State) → Roomy z s → (c : ℕ) → Roomy z (next (lane_sizes z) s c)
roomy_next z s R c = let L' = preserves_next (lane_sizes z) s R.lawful c in let S' = shares_next z s R.lawful R.shares c in
    record { lawful = L'; shares = S'; causes = causes_next z s R.lawful c L' S' R.causes }

pub roomy_starts : (z : Shape) (s : State) → Roomy z s → (c : ℕ) (ops : List Op) → c < z.callers → (s.callers c).point ≡ Idle → IsCommand ops → length ops ≤ z.batch → ¬ (PassesAllowance (lane_sizes z) (s.callers c) (length ops))
    → Roomy z (start (lane_sizes z) s c ops)
roomy_starts z s R c ops known idle command short allowed = let L' = preserves_start (lane_sizes z) s R.lawful c ops command idle known allowed in let S' = shares_start z s R.shares c ops known idle short in
    record { lawful = L'; shares = S'; causes = causes_start z s c ops L' S' R.causes }

-- after a step by which a command has ended with Full
pub full_room : (z : Shape) (s : State) → Roomy z s → (c : ℕ) → 0 < length (s.callers c).ops → ((next (lane_sizes z) s c).callers c).point ≡ Idle → ((next (lane_sizes z) s c).callers c).outcome ≡ Some outcome.Full
    → (0 < enqueue_count (s.callers c).ops) × AboveRoom z.room (next (lane_sizes z) s c).history c (s.callers c).started_at (enqueue_count (s.callers c).ops)
full_room z s R c some idle full = full_cause z s R.lawful c (preserves_next (lane_sizes z) s R.lawful c) (shares_next z s R.lawful R.shares c) R.causes some idle full
