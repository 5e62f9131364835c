-- The text of a file of jobs that name earlier jobs: the header `bqdeps 1`, and then jobs.
use Rattle.std.specs.Prelude.{ℕ, List, [], ◌∷◌, ◌++◌, length, Result, Ok, Err, nat_le, codes, bytes_eq, if◌then◌else◌}
use Rattle.bq_model.specs.declared.fault.TextCause.{TextCause}
use Rattle.bq_model.specs.declared.fault.TextCause.TheVariants.{BadWord, TooMany, TooDeep}
use Rattle.bq_model.specs.declared.fault.TextFault.{TextFault}
use Rattle.text_lines.specs.Parts.{◌>>=◌}
use Rattle.text_lines.specs.Reading.{text_state}
use Rattle.dep_text.specs.declared.job.DepJob.{DepJob}
use Rattle.dep_text.specs.DepFile.{most_dep_jobs}
use Rattle.dep_text.specs.DepWords.{dep_job_of}
use Rattle.dep_text.specs.Levels.{most_levels, level_behind, levels_of}

-- one more job, if there may be one more and its level isn't too great
abbrev pub add_job : List DepJob → DepJob → Result (List DepJob) TextCause
add_job jobs job =
    if nat_le most_dep_jobs (length jobs) then Err TooMany
    else if nat_le most_levels (level_behind (levels_of jobs) job.work) then Err TooDeep
    else Ok (jobs ++ job ∷ [])

-- what a line says behind the header, where the jobs so far are these
abbrev pub meaning : ℕ → List DepJob → List (List ℕ) → Result (List DepJob) TextCause
meaning number jobs [] = Err BadWord
meaning number jobs (word ∷ words) = if bytes_eq word (codes "job") then dep_job_of jobs words >>= add_job jobs else Err BadWord

-- the jobs of a text, or the text's one fault
abbrev pub deps_of : List ℕ → Result (List DepJob) TextFault
deps_of text = text_state (codes "bqdeps") (codes "1") meaning [] text
