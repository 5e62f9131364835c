use Rattle.job_text.proofs.GrammarLemmas.{jobs_of-take}
use Rattle.job_text.proofs.laws.longer_texts_are_alike.Goals as goal

pub returns : goal.returns
returns c = jobs_of-take
