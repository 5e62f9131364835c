use Rattle.job_text.proofs.GeneratorLemmas.{all_jobs-gen_of, IsJobFile-gen_of}
use Rattle.job_text.proofs.laws.made_up_file_has_each_job.Goals as goal

pub returns-clause-jobs : goal.returns-clause-jobs
returns-clause-jobs c = all_jobs-gen_of

pub returns-clause-ranges : goal.returns-clause-ranges
returns-clause-ranges c = IsJobFile-gen_of
