-- The answers of a file's jobs: each is that of the job that the answers before it resolve to.
use Rattle.std.specs.Prelude.{ℕ, List}
use Rattle.job_work.specs.Answer.{answer_of}
use Rattle.dep_text.specs.declared.job.DepJob.{DepJob}
use Rattle.dep_text.specs.Grown.{grown}
use Rattle.dep_jobs.specs.Resolve.{resolve}

-- the answer of each job, in file order
abbrev pub answers_of : List DepJob → List (List ℕ)
answers_of jobs = grown (λ answers job. answer_of (resolve job.work answers)) jobs
