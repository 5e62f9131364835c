use Rattle.lane_room.proofs.Roomy.{roomy_opens, roomy_next, roomy_starts, full_room}
use Rattle.lane_room.proofs.laws.full_comes_only_above_the_room.Goals as goal

pub returns-clause-opening : goal.returns-clause-opening
returns-clause-opening c = roomy_opens

pub returns-clause-step : goal.returns-clause-step
returns-clause-step c = λ z s who R. roomy_next z s R who

pub returns-clause-start : goal.returns-clause-start
returns-clause-start c = λ z s who ops R known idle command short allowed. roomy_starts z s R who ops known idle command short allowed

pub returns-clause-full : goal.returns-clause-full
returns-clause-full c = λ z s who R some idle full. full_room z s R who some idle full
