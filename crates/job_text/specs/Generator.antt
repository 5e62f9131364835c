-- The job files that are made up, one for each number of jobs.
use Rattle.std.specs.Prelude.{ℕ, zero, suc, ◌+◌, ◌%◌, List, [], ◌∷◌, ◌++◌, ◌==◌, take, drop, codes, decimal, if◌then◌else◌}
use Rattle.std.specs.Int.{w32, to_be_bytes}
use Rattle.job_work.specs.declared.job.Job.{Job}
use Rattle.job_work.specs.declared.job.Job.TheVariants.{Sum, Digest, Count, Mix, Words}
use Rattle.job_text.specs.declared.file.Unit.{Unit}

-- the bytes whose hex word is the number in eight digits
abbrev pub eight_digits : ℕ → List ℕ
eight_digits number = to_be_bytes w32 number

-- the letter `w` and the last digit of the number
abbrev pub digit_word : ℕ → List ℕ
digit_word number = codes "w" ++ decimal (number % 10)

-- the job of this number
abbrev pub made_job : ℕ → Job
made_job i =
    if i % 5 == 0 then Sum (i ∷ (i + 1) ∷ [])
    else if i % 5 == 1 then Digest (eight_digits i)
    else if i % 5 == 2 then Count 0 (eight_digits i)
    else if i % 5 == 3 then Mix i 100
    else Words (digit_word i ∷ codes "x" ∷ digit_word i ∷ [])

-- so many jobs, of which the first has this number
abbrev pub jobs_from : ℕ → ℕ → List Job
jobs_from first zero = []
jobs_from first (suc count) = made_job first ∷ jobs_from (first + 1) count

-- the jobs dealt to units, of which the first is unit u: it takes the next 1 + (u mod 7) jobs or those that remain, and
-- has lane u mod 3. There are at most so many units.
abbrev pub dealt : ℕ → ℕ → List Job → List Unit
dealt zero u jobs = []
dealt (suc most) u [] = []
dealt (suc most) u (job ∷ jobs) = record { lane = u % 3; jobs = take (1 + u % 7) (job ∷ jobs) } ∷ dealt most (u + 1) (drop (1 + u % 7) (job ∷ jobs))

-- the units of the jobs 0 to n - 1. As many units as jobs are enough, since each takes one
abbrev pub gen_of : ℕ → List Unit
gen_of n = dealt n 0 (jobs_from 0 n)
