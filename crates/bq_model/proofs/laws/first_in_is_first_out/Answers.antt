use Rattle.bq_model.proofs.Values.{in_and_out}
use Rattle.bq_model.proofs.laws.first_in_is_first_out.Goals as goal

pub returns : goal.returns
returns c = in_and_out
