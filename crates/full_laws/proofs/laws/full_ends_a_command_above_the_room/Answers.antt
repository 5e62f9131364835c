use Rattle.lane_steps.specs.LaneSizes.{lane_sizes}
use Rattle.lane_steps.specs.Start.{opening}
use Rattle.lane_room.proofs.Roomy.{roomy_opens, full_room}
use Rattle.full_laws.proofs.Roomed.{schedule_roomy}
use Rattle.full_laws.proofs.laws.full_ends_a_command_above_the_room.Goals as goal

pub returns : goal.returns
returns c = λ shape events s who ran some idle full. full_room shape s (schedule_roomy shape (opening (lane_sizes shape)) 0 events s (roomy_opens shape) ran) who some idle full
