use Rattle.std.proofs.Common.{◌≡◌, drop}
use Rattle.lane_steps.specs.LaneSizes.{lane_sizes}
use Rattle.lane_steps.specs.Start.{opening}
use Rattle.step_core.specs.Machine.{state_at}
use Rattle.step_core.specs.Schedule.{schedule}
use Rattle.step_core.proofs.schedule.run_schedule.Given as goal

-- the events from here on are still to happen, on the machine as it is
abbrev pub invariant-loop-event : goal.invariant-loop-event
invariant-loop-event l = (l.machine.shape ≡ l.shape)
    × (schedule l.shape (opening (lane_sizes l.shape)) 0 l.events ≡ schedule l.shape (state_at l.machine) l.event (drop l.event l.events))
