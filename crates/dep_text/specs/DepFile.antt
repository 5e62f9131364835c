-- What a file of jobs that name earlier jobs keeps.
use Rattle.std.specs.Prelude.{◌≡◌, ℕ, ◌^◌, ◌≤◌, ◌<◌, List, length, take, true, Some, All, option_map, slice_get}
use Rattle.text_lines.specs.Words.{IsWord}
use Rattle.job_text.specs.JobFile.{AreBytes, most_lane, most_turns}
use Rattle.dep_text.specs.declared.job.Arg.{Arg}
use Rattle.dep_text.specs.declared.job.Arg.TheVariants.{Number, Of}
use Rattle.dep_text.specs.declared.job.Piece.{Piece}
use Rattle.dep_text.specs.declared.job.Piece.TheVariants.{Plain, Of as OfBytes}
use Rattle.dep_text.specs.declared.job.DepWork.{DepWork}
use Rattle.dep_text.specs.declared.job.DepWork.TheVariants.{Sum, Digest, Count, Mix, Words}
use Rattle.dep_text.specs.declared.job.DepJob.{DepJob}
use Rattle.dep_text.specs.declared.job.Place.{Place}
use Rattle.dep_text.specs.declared.job.Place.TheVariants.{AsNumber, AsBytes}
use Rattle.dep_text.specs.Places.{serves}
use Rattle.dep_text.specs.Levels.{most_levels, levels_of}

-- the most jobs of a file
abbrev pub most_dep_jobs : ℕ
most_dep_jobs = 100000

-- whether a number is that of a job before, whose answer can stand in such a place
abbrev pub Names : Place → List DepJob → ℕ → Type 0
Names place before number = option_map (λ job. serves place job.work) (slice_get before number) ≡ Some true

-- whether a number is in its range, or names a job before
abbrev pub IsArg : List DepJob → Arg → Type 0
IsArg before (Number number) = number < 2 ^ 64
IsArg before (Of job) = Names AsNumber before job

-- whether bytes are bytes, or those of a job before
abbrev pub IsPiece : List DepJob → Piece → Type 0
IsPiece before (Plain bytes) = AreBytes bytes
IsPiece before (OfBytes job) = Names AsBytes before job

-- whether work is in the ranges of the format, and names jobs before it alone
abbrev pub IsDepWork : List DepJob → DepWork → Type 0
IsDepWork before (Sum args) = All (IsArg before) args
IsDepWork before (Digest piece) = IsPiece before piece
IsDepWork before (Count byte piece) = (byte < 256) × IsPiece before piece
IsDepWork before (Mix start turns) = IsArg before start × (turns ≤ most_turns)
IsDepWork before (Words words) = All IsWord words

-- a job that may stand behind these
pub record IsDepJob (before : List DepJob) (job : DepJob) : Type 0 where
  pub lane : job.lane ≤ most_lane
  pub work : IsDepWork before job.work

-- the jobs that a file may have
pub record IsDepFile (jobs : List DepJob) : Type 0 where
  pub few : length jobs ≤ most_dep_jobs
  pub each : (k : ℕ) (job : DepJob) → slice_get jobs k ≡ Some job → IsDepJob (take k jobs) job
  pub low : All (λ level. level < most_levels) (levels_of jobs)

-- what is kept from line to line: the level of each job, none of which is too great, and not too many jobs
pub record AreLeveled (jobs : List DepJob) (levels : List ℕ) : Type 0 where
  pub levels_are : levels ≡ levels_of jobs
  pub few : length jobs ≤ most_dep_jobs
  pub low : All (λ level. level < most_levels) levels

-- what a file keeps: jobs, and the level of each
pub record IsWhole (jobs : List DepJob) (levels : List ℕ) : Type 0 where
  pub file : IsDepFile jobs
  pub levels_are : levels ≡ levels_of jobs
