use Rattle.core_model.proofs.Alone.{others_stay, history_added, goes_on_or_ends}
use Rattle.core_model.proofs.laws.a_step_is_its_callers_alone.Goals as goal

pub returns-clause-others : goal.returns-clause-others
returns-clause-others c = others_stay

pub returns-clause-history : goal.returns-clause-history
returns-clause-history c = history_added

pub returns-clause-own_command : goal.returns-clause-own_command
returns-clause-own_command c = goes_on_or_ends
