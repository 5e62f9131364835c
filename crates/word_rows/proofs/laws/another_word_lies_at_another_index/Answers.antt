use Rattle.word_rows.proofs.LayoutLemmas.{index_of-once, index_of-lt}
use Rattle.word_rows.proofs.laws.another_word_lies_at_another_index.Goals as goal

pub returns : goal.returns
returns c = record { apart = index_of-once; in_the_table = index_of-lt }
