use Rattle.job_work.proofs.WordLaws.{different-rises, Contains-different, places_of-different, word_counts-places, counts_add_up}
use Rattle.job_work.proofs.words.words_laws.Goals as goal

pub returns-clause-rising : goal.returns-clause-rising
returns-clause-rising c = different-rises

pub returns-clause-same_words : goal.returns-clause-same_words
returns-clause-same_words c = Contains-different

pub returns-clause-each_once : goal.returns-clause-each_once
returns-clause-each_once c = places_of-different

pub returns-clause-counted : goal.returns-clause-counted
returns-clause-counted c = word_counts-places

pub returns-clause-counts_add_up : goal.returns-clause-counts_add_up
returns-clause-counts_add_up c = counts_add_up
