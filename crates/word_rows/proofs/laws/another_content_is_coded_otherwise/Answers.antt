use Rattle.word_rows.proofs.ContentLemmas.{coded-once, coded-lt, CanCode-in_lane}
use Rattle.word_rows.proofs.laws.another_content_is_coded_otherwise.Goals as goal

pub returns : goal.returns
returns c = record { apart = coded-once; in_a_word = λ l x f. coded-lt x f.1; also_in_a_lane = CanCode-in_lane }
