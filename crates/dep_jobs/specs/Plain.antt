-- Files in which no job names another one.
use Rattle.std.specs.Prelude.{◌≡◌, ℕ, ◌+◌, List, [], ◌∷◌, ◌++◌, map, All}
use Rattle.job_text.specs.declared.file.Unit.{Unit as JobUnit}
use Rattle.job_text.specs.Replies.{reply_line}
use Rattle.dep_text.specs.declared.job.DepJob.{DepJob}
use Rattle.dep_text.specs.Levels.{levels_of}
use Rattle.dep_jobs.specs.Resolve.{resolve}

-- whether no job names another one: all have level 0
abbrev pub NamesNone : List DepJob → Type 0
NamesNone jobs = All (λ level. level ≡ 0) (levels_of jobs)

-- the same jobs as a job file, each a unit of its own
abbrev pub plain_file : List DepJob → List JobUnit
plain_file jobs = map (λ job. record { lane = job.lane; jobs = resolve job.work [] ∷ [] }) jobs

-- the lines of answers, of which the first is that of the job of this number
abbrev pub lines_from : ℕ → List (List ℕ) → List ℕ
lines_from number [] = []
lines_from number (answer ∷ answers) = reply_line number answer ++ lines_from (number + 1) answers
