use Rattle.lane_steps.specs.LaneSizes.{lane_sizes}
use Rattle.lane_steps.specs.Start.{opening}
use Rattle.core_model.proofs.Opens.{opens}
use Rattle.core_model.proofs.Ends.{ended_done}
use Rattle.step_core.proofs.Runs.{schedule_lawful}
use Rattle.step_core.proofs.laws.every_schedule_leaves_a_lawful_lane.Goals as goal

pub returns-clause-lawful : goal.returns-clause-lawful
returns-clause-lawful c = λ shape events s ran. schedule_lawful shape (opening (lane_sizes shape)) 0 events s (opens shape) ran

pub returns-clause-done : goal.returns-clause-done
returns-clause-done c = λ shape events s who ran idle done. ended_done (lane_sizes shape) s (schedule_lawful shape (opening (lane_sizes shape)) 0 events s (opens shape) ran) who idle done
