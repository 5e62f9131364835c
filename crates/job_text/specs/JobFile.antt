-- The jobs of a file's units.
use Rattle.std.specs.Prelude.{◌≡◌, ℕ, ◌^◌, ◌≤◌, ◌<◌, List, length, take, map, Option, slice_get, slice_index, All, sum_by, flat_map}
use Rattle.text_lines.specs.Words.{IsWord}
use Rattle.job_work.specs.declared.job.Job.{Job}
use Rattle.job_work.specs.declared.job.Job.TheVariants.{Sum, Digest, Count, Mix, Words}
use Rattle.job_text.specs.declared.file.Unit.{Unit}

-- the most jobs of a file
abbrev pub most_jobs : ℕ
most_jobs = 1000000

-- the most jobs of a unit
abbrev pub most_in_unit : ℕ
most_in_unit = 100

-- the highest number of a lane
abbrev pub most_lane : ℕ
most_lane = 15

-- the most turns of a mix
abbrev pub most_turns : ℕ
most_turns = 1000000

-- how many jobs the units have
abbrev pub job_count : List Unit → ℕ
job_count units = sum_by (λ unit. length unit.jobs) units

-- the jobs in order
abbrev pub all_jobs : List Unit → List Job
all_jobs units = flat_map (λ unit. unit.jobs) units

-- the same, each with the lane of its unit
abbrev pub lane_jobs : List Unit → List (ℕ × Job)
lane_jobs units = flat_map (λ unit. map (λ job. (unit.lane, job)) unit.jobs) units

-- the lane and the job of this number, counted from 0
abbrev pub job_at : List Unit → ℕ → Option (ℕ × Job)
job_at units number = slice_get (lane_jobs units) number

-- whether all of these are bytes
abbrev pub AreBytes : List ℕ → Type 0
AreBytes bytes = All (λ byte. byte < 256) bytes

-- whether a job is in the ranges of the format
abbrev pub IsInRange : Job → Type 0
IsInRange (Sum numbers) = All (λ number. number < 2 ^ 64) numbers
IsInRange (Digest bytes) = AreBytes bytes
IsInRange (Count byte bytes) = (byte < 256) × AreBytes bytes
IsInRange (Mix start turns) = (start < 2 ^ 64) × (turns ≤ most_turns)
IsInRange (Words words) = All IsWord words

-- a unit that a file may have
pub record IsUnit (unit : Unit) : Type 0 where
  pub lane : unit.lane ≤ most_lane
  pub some : 1 ≤ length unit.jobs
  pub few : length unit.jobs ≤ most_in_unit
  pub ranges : All IsInRange unit.jobs

-- the units that a file may have
pub record IsJobFile (units : List Unit) : Type 0 where
  pub units_are : All IsUnit units
  pub count : job_count units ≤ most_jobs

-- the number of the first job of each unit
pub record IsStarts (units : List Unit) (starts : List ℕ) : Type 0 where
  pub length_is : length starts ≡ length units
  pub start : (k : ℕ) → k < length units → slice_index starts k ≡ job_count (take k units)

-- what a file keeps: units, where each begins, and how many jobs there are
pub record IsWhole (units : List Unit) (starts : List ℕ) (count : ℕ) : Type 0 where
  pub ranges : IsJobFile units
  pub starts_is : IsStarts units starts
  pub count_is : count ≡ job_count units
