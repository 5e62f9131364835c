use Rattle.core_model.proofs.Shows.{shows_last}
use Rattle.core_model.proofs.laws.words_show_the_last_queue.Goals as goal

pub returns : goal.returns
returns c = λ z s L. shows_last z s L
