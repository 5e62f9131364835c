use Rattle.core_model.proofs.Notes.{start_noted, step_noted}
use Rattle.core_model.proofs.laws.starts_and_ends_are_noted.Goals as goal

pub returns-clause-begins : goal.returns-clause-begins
returns-clause-begins c = start_noted

pub returns-clause-step : goal.returns-clause-step
returns-clause-step c = step_noted
