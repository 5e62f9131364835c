use Rattle.word_rows.proofs.MemoryLemmas.{word_at-here, word_at-elsewhere, Shows-words_after}
use Rattle.word_rows.proofs.laws.one_write_changes_one_word.Goals as goal

pub returns : goal.returns
returns c = record { here = word_at-here; elsewhere = word_at-elsewhere; shown = Shows-words_after }
