-- The answers that are there once some levels have been run.
use Rattle.std.specs.Prelude.{◌≡◌, ℕ, ◌<◌, List, [], ◌∷◌, length, All, slice_index, slice_index_or, slice_set}
use Rattle.job_text.specs.JobFile.{AreBytes}
use Rattle.dep_text.specs.declared.job.DepJob.{DepJob}
use Rattle.dep_text.specs.Levels.{levels_of}
use Rattle.dep_jobs.specs.Answers.{answers_of}

-- texts put at the places of these numbers, one after another
abbrev pub put_all : List (List ℕ) → List ℕ → List (List ℕ) → List (List ℕ)
put_all texts [] new = texts
put_all texts (number ∷ numbers) [] = texts
put_all texts (number ∷ numbers) (text ∷ new) = put_all (slice_set texts number text) numbers new

-- a text for each job, which is its answer where its level is below this one
pub record AreReached (jobs : List DepJob) (level : ℕ) (texts : List (List ℕ)) : Type 0 where
  pub long : length texts ≡ length jobs
  pub same : (k : ℕ) → k < length jobs → slice_index (levels_of jobs) k < level → slice_index_or texts k [] ≡ slice_index_or (answers_of jobs) k []
  pub bytes : All AreBytes texts
