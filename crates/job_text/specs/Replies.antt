-- The replies to a file's jobs.
use Rattle.std.specs.Prelude.{ℕ, ◌+◌, List, [], ◌∷◌, ◌++◌, decimal, codes}
use Rattle.job_work.specs.declared.job.Job.{Job}
use Rattle.job_work.specs.Answer.{answer_of}
use Rattle.job_text.specs.declared.file.Unit.{Unit}
use Rattle.job_text.specs.JobFile.{all_jobs}

-- the reply to the job of this number: the number, a blank, the answer and a line feed
abbrev pub reply_line : ℕ → List ℕ → List ℕ
reply_line number answer = decimal number ++ codes " " ++ answer ++ codes "\n"

-- the replies to the jobs, of which the first has this number
abbrev pub replies_from : ℕ → List Job → List ℕ
replies_from number [] = []
replies_from number (job ∷ jobs) = reply_line number (answer_of job) ++ replies_from (number + 1) jobs

-- the replies to all jobs of the units, by rising number from 0
abbrev pub replies_of : List Unit → List ℕ
replies_of units = replies_from 0 (all_jobs units)
