use Rattle.lane_rank.proofs.Failed.{failed, looked_again}
use Rattle.lane_rank.proofs.Ranked.{less_left, starts, ranked_opens}
use Rattle.lane_rank.proofs.laws.kept_words_are_there_or_the_rank_is_greater.Goals as goal

pub returns-clause-opening : goal.returns-clause-opening
returns-clause-opening c = ranked_opens

pub returns-clause-step : goal.returns-clause-step
returns-clause-step c = λ z s o i who R inside. less_left z s o i R who inside

pub returns-clause-start : goal.returns-clause-start
returns-clause-start c = λ z s o i who ops R may. starts z s o i R who ops may

pub returns-clause-failed : goal.returns-clause-failed
returns-clause-failed c = λ s who t o i K l old new e off. failed s who o i t K l old new e off

pub returns-clause-looked_again : goal.returns-clause-looked_again
returns-clause-looked_again c = λ s g o i K off. looked_again s 0 o i g K off
