use Rattle.dep_jobs.proofs.PlainLemmas.{answers_of-all_jobs, lines-plain_file}
use Rattle.dep_jobs.proofs.laws.jobs_that_name_none_are_answered_as_they_stand.Goals as goal

pub returns-clause-answers : goal.returns-clause-answers
returns-clause-answers c = answers_of-all_jobs

pub returns-clause-text : goal.returns-clause-text
returns-clause-text c = lines-plain_file
