use Rattle.core_model.proofs.Notes.{other_words}
use Rattle.core_model.proofs.laws.a_step_stores_into_one_word.Goals as goal

pub returns : goal.returns
returns c = other_words
