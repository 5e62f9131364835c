-- The jobs of units, by their numbers.
use Rattle.std.proofs.Common.{◌≡◌, ℕ, ◌+◌, ◌-◌, ◌<◌, ◌≤◌, List, [], ◌∷◌, length, get_or, take, map, Some, None, refl, sym, ap, ap₂, ◌∙◌, subst, arith, slice_index, length-append, ⊎_elim}
use Rattle.std.proofs.lemmas.List.{length-map, take_all, take-take, get_or-map}
use Rattle.std.proofs.lemmas.List.Concat.{get_or-flat_map}
use Rattle.std.proofs.lemmas.List.Sums.{sum_by-cons, sum_by_more, sum_by-take-le}
use Rattle.std.proofs.lemmas.Option.{slice_get-get_or, slice_get_past}
use Rattle.std.proofs.lemmas.Bool.{cases_lt}
use Rattle.job_work.specs.declared.job.Job.{Job}
use Rattle.job_text.specs.declared.file.Unit.{Unit}
use Rattle.job_text.specs.JobFile.{IsStarts, lane_jobs, job_at, job_count}

-- a job with the lane of its unit
abbrev pub with_lane : Unit → Job → ℕ × Job
with_lane unit job = (unit.lane, job)

abbrev jobs_with_lane : Unit → List (ℕ × Job)
jobs_with_lane unit = map (with_lane unit) unit.jobs

pub length-lane_jobs : (units : List Unit) → length (lane_jobs units) ≡ job_count units
length-lane_jobs [] = refl
length-lane_jobs (unit ∷ units) =
    length-append (jobs_with_lane unit) (lane_jobs units) ∙ (ap₂ (λ (m n : ℕ). m + n) (length-map unit.jobs (with_lane unit)) (length-lane_jobs units)
    ∙ sym (sum_by-cons (λ (u : Unit). length u.jobs) unit units))

pub job_count-more : (units : List Unit) (i : ℕ) (unit : Unit) → i < length units → unit ≡ get_or units i unit → job_count (take (i + 1) units) ≡ job_count (take i units) + length unit.jobs
job_count-more units i unit within unit_is =
    sum_by_more (λ (u : Unit). length u.jobs) units i unit within ∙ ap (λ (u : Unit). job_count (take i units) + length u.jobs) (sym unit_is)

pub job_count-take-le : (units : List Unit) (i : ℕ) → job_count (take i units) ≤ job_count units
job_count-take-le units i = sum_by-take-le (λ (u : Unit). length u.jobs) units i

-- the numbers of the first jobs rise
pub starts_rise : (units : List Unit) (starts : List ℕ) → IsStarts units starts → (i j : ℕ) → i ≤ j → j < length starts → slice_index starts i ≤ slice_index starts j
starts_rise units starts is i j le within =
    let length_is = is.length_is in
    let first = is.start i (omega arith) in
    let second = is.start j (omega arith) in
    let part : job_count (take i units) ≤ job_count (take j units) =
    subst (λ (front : List Unit). job_count front ≤ job_count (take j units)) (take-take i j units le) (job_count-take-le (take j units) i) in
    omega arith

-- the job after so many of a unit
pub job_at-unit : (units : List Unit) (i place : ℕ) (unit : Unit) (job : Job) → i < length units → place < length unit.jobs → unit ≡ get_or units i unit → job ≡ get_or unit.jobs place job
    → job_at units (job_count (take i units) + place) ≡ Some (unit.lane, job)
job_at-unit units i place unit job in_units in_jobs unit_is job_is =
    let found : ℕ × Job = with_lane unit job in
    let length_is : length (jobs_with_lane unit) ≡ length unit.jobs = length-map unit.jobs (with_lane unit) in
    let in_part : place < length (jobs_with_lane (get_or units i unit)) =
    subst (λ (u : Unit). place < length (jobs_with_lane u)) unit_is (omega arith) in
    let stands = get_or-flat_map jobs_with_lane units i place unit found in_units in_part in
    let here : get_or (jobs_with_lane (get_or units i unit)) place found ≡ found =
    ap (λ (u : Unit). get_or (jobs_with_lane u) place found) (sym unit_is)
    ∙ (get_or-map (with_lane unit) unit.jobs place job found in_jobs ∙ ap (with_lane unit) (sym job_is)) in
    let number_is : length (lane_jobs (take i units)) + place ≡ job_count (take i units) + place = ap (λ n. n + place) (length-lane_jobs (take i units)) in
    let counted = length-lane_jobs units in
    let more = job_count-more units i unit in_units unit_is in
    let part = job_count-take-le units (i + 1) in
    let within : job_count (take i units) + place < length (lane_jobs units) = omega arith in
    slice_get-get_or (lane_jobs units) _ found within ∙ ap Some (ap (λ n. get_or (lane_jobs units) n found) (sym number_is) ∙ (stands ∙ here))

pub job_at-past : (units : List Unit) (number : ℕ) → job_count units ≤ number → job_at units number ≡ None
job_at-past units number past = let counted = length-lane_jobs units in slice_get_past (lane_jobs units) number (omega arith)

-- a number in its unit, whose start is the last that is not above the number
pub within_unit : (units : List Unit) (starts : List ℕ) (i number : ℕ) (unit : Unit) → IsStarts units starts → i < length starts → unit ≡ get_or units i unit
    → number < job_count units → slice_index starts i ≤ number → ((k : ℕ) → i < k → k < length starts → number < slice_index starts k) → number - slice_index starts i < length unit.jobs
within_unit units starts i number unit is within unit_is below reached last =
    let length_is = is.length_is in
    let start = is.start i (omega arith) in
    let more = job_count-more units i unit (omega arith) unit_is in
    ⊎_elim
    (λ next.
    let above = last (i + 1) (omega arith) next in
    let next_start = is.start (i + 1) (omega arith) in
    omega arith)
    (λ end.
    let whole : job_count (take (i + 1) units) ≡ job_count units = ap job_count (take_all (i + 1) units (omega arith)) in
    omega arith)
    (cases_lt (i + 1) (length starts))
