use Rattle.core_model.proofs.Uses.{one_use, used_row_is_left}
use Rattle.core_model.proofs.laws.each_row_has_one_use.Goals as goal

pub returns-clause-one : goal.returns-clause-one
returns-clause-one c = λ z s r lawful inside. one_use z s lawful r inside

pub returns-clause-left : goal.returns-clause-left
returns-clause-left c = λ z s who r lawful x. used_row_is_left z s lawful who r x
