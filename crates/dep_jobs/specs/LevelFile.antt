-- The jobs of one level as a file of their own.
use Rattle.std.specs.Prelude.{ℕ, List, [], ◌∷◌, Option, None, Some, length, filter, ◌==◌, slice_get, slice_index}
use Rattle.std.specs.List.{flat_map, range_with_len}
use Rattle.job_text.specs.declared.file.Unit.{Unit as JobUnit}
use Rattle.dep_text.specs.declared.job.DepJob.{DepJob}
use Rattle.dep_text.specs.Levels.{levels_of}
use Rattle.dep_jobs.specs.Answers.{answers_of}
use Rattle.dep_jobs.specs.Resolve.{resolve}

-- the numbers of the jobs of this level, where jobs have these levels
abbrev pub numbers_on : List ℕ → ℕ → List ℕ
numbers_on levels level = filter (λ number. slice_index levels number == level) (range_with_len 0 (length levels))

-- a job as a unit of its own, where the jobs have these answers
abbrev pub unit_for : List (List ℕ) → Option DepJob → List JobUnit
unit_for answers None = []
unit_for answers (Some job) = record { lane = job.lane; jobs = resolve job.work answers ∷ [] } ∷ []

-- the jobs of these numbers, each as a unit of its own
abbrev pub units_for : List (List ℕ) → List DepJob → List ℕ → List JobUnit
units_for answers jobs numbers = flat_map (λ number. unit_for answers (slice_get jobs number)) numbers

-- the file of the jobs of this level, in file order, as the answers of all jobs resolve them
abbrev pub level_of : List DepJob → ℕ → List JobUnit
level_of jobs level = units_for (answers_of jobs) jobs (numbers_on (levels_of jobs) level)
