use Rattle.word_rows.proofs.SizeLemmas.{items_within, stoppers_within, rows_within, words_within}
use Rattle.word_rows.proofs.laws.no_lane_is_larger.Goals as goal

pub returns : goal.returns
returns c = record { items = items_within; stoppers = stoppers_within; rows = rows_within; words = words_within }
