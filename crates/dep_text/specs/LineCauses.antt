-- The causes that apply to the words of a line, each told by itself.
use Rattle.std.specs.Prelude.{ℕ, List, [], ◌∷◌, ◌++◌, length, flat_map, nat_le, codes, bytes_eq, Result, Ok, Err, if◌then◌else◌}
use Rattle.bq_model.specs.declared.fault.TextCause.{TextCause}
use Rattle.bq_model.specs.declared.fault.TextCause.TheVariants.{BadWord, TooMany, TooDeep}
use Rattle.text_lines.specs.Cause.{causes}
use Rattle.text_lines.specs.Hex.{byte_of}
use Rattle.text_lines.specs.Number.{number_within}
use Rattle.text_lines.specs.Parts.{or_bad_number}
use Rattle.job_text.specs.JobFile.{most_turns}
use Rattle.job_text.specs.JobWords.{lane_of}
use Rattle.dep_text.specs.declared.job.DepJob.{DepJob}
use Rattle.dep_text.specs.DepFile.{most_dep_jobs}
use Rattle.dep_text.specs.DepWords.{arg_of, piece_of, dep_job_of}
use Rattle.dep_text.specs.Levels.{most_levels, level_behind, levels_of}

-- of one hex word
abbrev pub digest_causes : List DepJob → List (List ℕ) → List TextCause
digest_causes jobs (bytes ∷ []) = causes (piece_of jobs bytes)
digest_causes jobs _ = BadWord ∷ []

-- of a byte word and a hex word
abbrev pub count_causes : List DepJob → List (List ℕ) → List TextCause
count_causes jobs (byte ∷ bytes ∷ []) = causes (or_bad_number (byte_of byte)) ++ causes (piece_of jobs bytes)
count_causes jobs _ = BadWord ∷ []

-- of a number and a number of turns
abbrev pub mix_causes : List DepJob → List (List ℕ) → List TextCause
mix_causes jobs (start ∷ turns ∷ []) = causes (arg_of jobs start) ++ causes (or_bad_number (number_within 0 most_turns turns))
mix_causes jobs _ = BadWord ∷ []

-- of a kind and its arguments
abbrev pub work_causes : List DepJob → List (List ℕ) → List TextCause
work_causes jobs [] = BadWord ∷ []
work_causes jobs (kind ∷ arguments) =
    if bytes_eq kind (codes "sum") then flat_map (λ word. causes (arg_of jobs word)) arguments
    else if bytes_eq kind (codes "digest") then digest_causes jobs arguments
    else if bytes_eq kind (codes "count") then count_causes jobs arguments
    else if bytes_eq kind (codes "mix") then mix_causes jobs arguments
    else if bytes_eq kind (codes "words") then []
    else BadWord ∷ []

-- of what stands behind `job`
abbrev pub job_causes : List DepJob → List (List ℕ) → List TextCause
job_causes jobs [] = BadWord ∷ []
job_causes jobs (lane ∷ work) = causes (lane_of lane) ++ work_causes jobs work

-- the file has as many jobs as it may have
abbrev pub many_causes : List DepJob → List TextCause
many_causes jobs = if nat_le most_dep_jobs (length jobs) then TooMany ∷ [] else []

-- the job that these words are is at too great a level
abbrev pub deep_causes : List DepJob → Result DepJob TextCause → List TextCause
deep_causes jobs (Ok job) = if nat_le most_levels (level_behind (levels_of jobs) job.work) then TooDeep ∷ [] else []
deep_causes jobs (Err cause) = []

-- the causes that apply to a line of these words, behind the header
abbrev pub applying : ℕ → List DepJob → List (List ℕ) → List TextCause
applying number jobs [] = BadWord ∷ []
applying number jobs (word ∷ words) =
    if bytes_eq word (codes "job") then job_causes jobs words ++ (many_causes jobs ++ deep_causes jobs (dep_job_of jobs words))
    else BadWord ∷ []
