use Rattle.core_model.proofs.CodedSteps.{found_fits, acts_fit, step_coded}
use Rattle.core_model.proofs.CodedStarts.{opening_coded, start_coded}
use Rattle.core_model.proofs.laws.words_can_be_coded.Goals as goal

pub returns-clause-opening : goal.returns-clause-opening
returns-clause-opening c = opening_coded

pub returns-clause-step : goal.returns-clause-step
returns-clause-step c = λ shape s who L R. step_coded shape s L R who

pub returns-clause-start : goal.returns-clause-start
returns-clause-start c = λ shape s who ops L R is idle at left short values. start_coded shape s L R who idle at ops is left short values

pub returns-clause-found : goal.returns-clause-found
returns-clause-found c = λ shape s who L R. found_fits shape s L R who

pub returns-clause-stored : goal.returns-clause-stored
returns-clause-stored c = λ shape s who L R. acts_fit shape s L R who
