use Rattle.std.proofs.Common.{refl}
use Rattle.lane_steps.specs.LaneSizes.{lane_sizes}
use Rattle.lane_steps.specs.Start.{opening}
use Rattle.core_model.proofs.Opens.{opens}
use Rattle.step_core.proofs.Commands.{groups_started}
use Rattle.step_core.proofs.Runs.{schedule_lawful}
use Rattle.step_core.proofs.laws.groups_are_the_commands_that_were_started.Goals as goal

pub returns : goal.returns
returns c = λ shape events s who ran idle. groups_started shape (opening (lane_sizes shape)) 0 events s who (opens shape) (schedule_lawful shape (opening (lane_sizes shape)) 0 events s (opens shape) ran) refl ran idle
