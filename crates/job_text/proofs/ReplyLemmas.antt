-- The replies to the first jobs of a file, one job after another.
use Rattle.std.proofs.Common.{◌≡◌, ℕ, ◌+◌, ◌<◌, ◌≤◌, List, [], ◌∷◌, ◌++◌, length, get_or, take, map, Some, refl, sym, ap, ap₂, ◌∙◌, arith, append_assoc, append-nil, length-take, slice_get, option_map}
use Rattle.std.proofs.lemmas.List.{take_all, take_more, map-append, map-id, length-map}
use Rattle.std.proofs.lemmas.Option.{slice_get-map, slice_get_within, get_or_from_slice_get}
use Rattle.std.proofs.lemmas.Simd.{map-map}
use Rattle.job_work.specs.declared.job.Job.{Job}
use Rattle.job_work.specs.Answer.{answer_of}
use Rattle.job_text.specs.declared.file.Unit.{Unit}
use Rattle.job_text.specs.JobFile.{all_jobs, lane_jobs, job_at, job_count}
use Rattle.job_text.specs.Replies.{reply_line, replies_from, replies_of}
use Rattle.job_text.proofs.JobFileLemmas.{length-lane_jobs, with_lane}

-- the replies to the jobs below this number
abbrev pub replies_below : List Unit → ℕ → List ℕ
replies_below units number = replies_from 0 (take number (all_jobs units))

replies_from-append : (number : ℕ) (front behind : List Job) → replies_from number (front ++ behind) ≡ replies_from number front ++ replies_from (number + length front) behind
replies_from-append number [] behind = ap (λ n. replies_from n behind) (omega arith)
replies_from-append number (job ∷ front) behind =
    let line = reply_line number (answer_of job) in
    let same : number + 1 + length front ≡ number + length (job ∷ front) = omega arith in
    ap (λ (text : List ℕ). line ++ text) (replies_from-append (number + 1) front behind ∙ ap (λ n. replies_from (number + 1) front ++ replies_from n behind) same)
    ∙ sym (append_assoc line (replies_from (number + 1) front) (replies_from (number + length (job ∷ front)) behind))

-- the lanes left out
all_jobs-lane_jobs : (units : List Unit) → map (λ (found : ℕ × Job). found.1) (lane_jobs units) ≡ all_jobs units
all_jobs-lane_jobs [] = refl
all_jobs-lane_jobs (unit ∷ units) =
    let job_alone = λ (found : ℕ × Job). found.1 in
    map-append job_alone (map (with_lane unit) unit.jobs) (lane_jobs units)
    ∙ ap₂ (λ (xs ys : List Job). xs ++ ys) (map-map job_alone (with_lane unit) unit.jobs ∙ map-id unit.jobs) (all_jobs-lane_jobs units)

length-all_jobs : (units : List Unit) → length (all_jobs units) ≡ job_count units
length-all_jobs units =
    sym (ap (λ (jobs : List Job). length jobs) (all_jobs-lane_jobs units)) ∙ (length-map (lane_jobs units) (λ (found : ℕ × Job). found.1) ∙ length-lane_jobs units)

pub slice_get-all_jobs : (units : List Unit) (number : ℕ) (found : ℕ × Job) → job_at units number ≡ Some found → slice_get (all_jobs units) number ≡ Some found.1
slice_get-all_jobs units number found is =
    let job_alone = λ (found : ℕ × Job). found.1 in
    sym (ap (λ (jobs : List Job). slice_get jobs number) (all_jobs-lane_jobs units)) ∙ (slice_get-map job_alone (lane_jobs units) number ∙ ap (option_map job_alone) is)

-- one more job
pub replies_below-more : (units : List Unit) (number : ℕ) (found : ℕ × Job) → job_at units number ≡ Some found
    → replies_below units (number + 1) ≡ replies_below units number ++ reply_line number (answer_of found.1)
replies_below-more units number found is =
    let jobs = all_jobs units in
    let job = found.1 in
    let at_number = slice_get-all_jobs units number found is in
    let within : number < length jobs = slice_get_within jobs number job at_number in
    let job_is : get_or jobs number job ≡ job = get_or_from_slice_get jobs number job job at_number in
    let front = take number jobs in
    let more : take (number + 1) jobs ≡ front ++ job ∷ [] = take_more jobs number job within ∙ ap (λ (j : Job). front ++ j ∷ []) job_is in
    let count : 0 + length front ≡ number = omega (arith, length-take number jobs) in
    ap (replies_from 0) more ∙ (replies_from-append 0 front (job ∷ [])
    ∙ ap (λ (text : List ℕ). replies_from 0 front ++ text) (append-nil (reply_line (0 + length front) (answer_of job)) ∙ ap (λ n. reply_line n (answer_of job)) count))

-- all jobs
pub replies_below-all : (units : List Unit) (number : ℕ) → job_count units ≤ number → replies_below units number ≡ replies_of units
replies_below-all units number all = ap (replies_from 0) (take_all number (all_jobs units) (omega (arith, length-all_jobs units)))
