use Rattle.word_rows.proofs.ContentLemmas.{coded-compared, coded-exchanged, coded-left}
use Rattle.word_rows.proofs.laws.exchange_of_words_is_that_of_contents.Goals as goal

pub returns : goal.returns
returns c = record { compared = coded-compared; exchanged = coded-exchanged; left = coded-left }
