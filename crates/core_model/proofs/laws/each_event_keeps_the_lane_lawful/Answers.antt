use Rattle.core_model.proofs.Opens.{opens}
use Rattle.core_model.proofs.Steps.{preserves_next, preserves_start}
use Rattle.core_model.proofs.laws.each_event_keeps_the_lane_lawful.Goals as goal

pub returns-clause-opening : goal.returns-clause-opening
returns-clause-opening c = opens

pub returns-clause-step : goal.returns-clause-step
returns-clause-step c = λ z s who L. preserves_next z s L who

pub returns-clause-start : goal.returns-clause-start
returns-clause-start c = λ z s who ops L is idle known left. preserves_start z s L who ops is idle known left
