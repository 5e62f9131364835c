-- The answer of a job by those of the jobs that it names.
use Rattle.std.proofs.Common.{◌≡◌, ℕ, ◌<◌, ◌≤◌, List, [], length, get_or, take, Some, sym, ap, subst, ◌∙◌, arith, length-take, slice_get, slice_index, slice_index_or}
use Rattle.std.proofs.lemmas.List.{get_or-take}
use Rattle.std.proofs.lemmas.Option.{slice_get_within}
use Rattle.job_work.specs.Answer.{answer_of}
use Rattle.dep_text.specs.declared.job.DepJob.{DepJob}
use Rattle.dep_text.specs.DepFile.{IsDepFile}
use Rattle.dep_text.specs.Levels.{level_behind, levels_of}
use Rattle.dep_text.proofs.GrownLemmas.{length-grown, grown-at}
use Rattle.dep_jobs.specs.Answers.{answers_of}
use Rattle.dep_jobs.specs.Resolve.{resolve}
use Rattle.dep_jobs.proofs.Named.{WorkNames, SameAt, work_follows, work_before, work_lower, resolve-same}

-- there is an answer for each job
pub length-answers_of : (jobs : List DepJob) → length (answers_of jobs) ≡ length jobs
length-answers_of jobs = length-grown (λ answers job. answer_of (resolve job.work answers)) jobs

-- whether a job stands before another, at a lower level
abbrev pub IsLower : List DepJob → ℕ → ℕ → Type 0
IsLower jobs k q = (q < k) × (slice_index (levels_of jobs) q < slice_index (levels_of jobs) k)

-- the jobs that a job names stand before it, at lower levels
pub names_lower : (jobs : List DepJob) (k : ℕ) (job : DepJob) → IsDepFile jobs → slice_get jobs k ≡ Some job → WorkNames (IsLower jobs k) job.work
names_lower jobs k job file found =
    let levels = levels_of jobs in
    let within = slice_get_within jobs k job found in
    let front = length-take k jobs in
    let level_is : slice_index levels k ≡ level_behind (take k levels) job.work = grown-at (λ some j. level_behind some j.work) jobs k job 0 found in
    work_follows (λ q. q < length (take k jobs)) (λ q. slice_index (take k levels) q < level_behind (take k levels) job.work) (IsLower jobs k)
    (λ q before lower.
    let in_front : q < k = omega arith in
    let same : slice_index (take k levels) q ≡ slice_index levels q = get_or-take k levels q 0 in_front in
    (in_front, omega arith))
    job.work (work_before (take k jobs) job.work (file.each k job found).work) (work_lower (take k levels) job.work)

-- the answer of a job is that of the job that all answers resolve it to
pub answer-at : (jobs : List DepJob) (k : ℕ) (job : DepJob) → IsDepFile jobs → slice_get jobs k ≡ Some job → slice_index_or (answers_of jobs) k [] ≡ answer_of (resolve job.work (answers_of jobs))
answer-at jobs k job file found =
    let answers = answers_of jobs in
    let same = resolve-same (take k answers) answers job.work
    (work_follows (IsLower jobs k) (IsLower jobs k) (SameAt (take k answers) answers) (λ q lower _. get_or-take k answers q [] lower.0) job.work (names_lower jobs k job file found) (names_lower jobs k job file found)) in
    grown-at (λ some j. answer_of (resolve j.work some)) jobs k job [] found ∙ ap answer_of same
