-- Jobs of which none names another one.
use Rattle.std.proofs.Common.{◌≡◌, ℕ, ◌+◌, ◌<◌, ◌≤◌, List, [], ◌∷◌, ◌++◌, length, get_or, map, Some, refl, sym, ap, ◌∙◌, arith, All, ⊎_elim, slice_get, slice_index}
use Rattle.std.proofs.lemmas.List.{ext_get_or, length-map}
use Rattle.std.proofs.lemmas.List.Elements.{All-get_or}
use Rattle.std.proofs.lemmas.Option.{slice_get_cases}
use Rattle.job_work.specs.declared.job.Job.{Job}
use Rattle.job_work.specs.Answer.{answer_of}
use Rattle.job_text.specs.JobFile.{all_jobs}
use Rattle.job_text.specs.Replies.{reply_line, replies_from, replies_of}
use Rattle.bulk_dispatcher.proofs.Places.{at_map}
use Rattle.dep_text.specs.declared.job.DepJob.{DepJob}
use Rattle.dep_text.specs.DepFile.{IsDepFile}
use Rattle.dep_text.specs.Levels.{levels_of}
use Rattle.dep_text.proofs.LevelLemmas.{length-levels_of}
use Rattle.dep_jobs.specs.Answers.{answers_of}
use Rattle.dep_jobs.specs.Plain.{NamesNone, plain_file, lines_from}
use Rattle.dep_jobs.specs.Resolve.{resolve}
use Rattle.dep_jobs.proofs.AnswerLemmas.{length-answers_of, IsLower, names_lower, answer-at}
use Rattle.dep_jobs.proofs.Named.{SameAt, work_follows, resolve-same}

all_jobs-plain_file : (jobs : List DepJob) → all_jobs (plain_file jobs) ≡ map (λ job. resolve job.work []) jobs
all_jobs-plain_file [] = refl
all_jobs-plain_file (job ∷ jobs) = ap (λ (others : List Job). resolve job.work [] ∷ others) (all_jobs-plain_file jobs)

answer-plain : (jobs : List DepJob) (k : ℕ) (job : DepJob) → IsDepFile jobs → NamesNone jobs → slice_get jobs k ≡ Some job → k < length jobs → get_or (answers_of jobs) k [] ≡ answer_of (resolve job.work [])
answer-plain jobs k job file none found within =
    let levels = length-levels_of jobs in
    let zero : slice_index (levels_of jobs) k ≡ 0 = All-get_or (λ (level : ℕ). level ≡ 0) (levels_of jobs) k 0 (omega arith) none in
    let lower = names_lower jobs k job file found in
    let same = resolve-same (answers_of jobs) [] job.work
    (work_follows (IsLower jobs k) (IsLower jobs k) (SameAt (answers_of jobs) []) (λ q low _. (let below = low.1 in absurd (omega arith))) job.work lower lower) in
    answer-at jobs k job file found ∙ ap answer_of same

answers_of-plain : (jobs : List DepJob) → IsDepFile jobs → NamesNone jobs → answers_of jobs ≡ map (λ job. answer_of (resolve job.work [])) jobs
answers_of-plain jobs file none =
    let plain : DepJob → List ℕ = λ job. answer_of (resolve job.work []) in
    let count = length-answers_of jobs in
    let as_many = length-map jobs plain in
    ext_get_or [] (answers_of jobs) (map plain jobs) (count ∙ sym as_many)
    (λ k within.
    let low : k < length jobs = omega arith in
    ⊎_elim
    (λ some. answer-plain jobs k some.0 file none some.2 low ∙ sym (at_map plain jobs k [] some.0 low (sym some.3)))
    (λ past. (let high = past.0 in absurd (omega arith)))
    (slice_get_cases jobs k).1)

map-map-jobs : (jobs : List DepJob) → map (λ job. answer_of (resolve job.work [])) jobs ≡ map answer_of (map (λ job. resolve job.work []) jobs)
map-map-jobs [] = refl
map-map-jobs (job ∷ jobs) = ap (λ (others : List (List ℕ)). answer_of (resolve job.work []) ∷ others) (map-map-jobs jobs)

-- their answers are those of the job file of the same jobs
pub answers_of-all_jobs : (jobs : List DepJob) → IsDepFile jobs → NamesNone jobs → answers_of jobs ≡ map answer_of (all_jobs (plain_file jobs))
answers_of-all_jobs jobs file none = answers_of-plain jobs file none ∙ (map-map-jobs jobs ∙ ap (map answer_of) (sym (all_jobs-plain_file jobs)))

lines-replies : (number : ℕ) (jobs : List Job) → lines_from number (map answer_of jobs) ≡ replies_from number jobs
lines-replies number [] = refl
lines-replies number (job ∷ jobs) = ap (λ (others : List ℕ). reply_line number (answer_of job) ++ others) (lines-replies (number + 1) jobs)

-- and so is their text
pub lines-plain_file : (jobs : List DepJob) → IsDepFile jobs → NamesNone jobs → lines_from 0 (answers_of jobs) ≡ replies_of (plain_file jobs)
lines-plain_file jobs file none = ap (lines_from 0) (answers_of-all_jobs jobs file none) ∙ lines-replies 0 (all_jobs (plain_file jobs))
