-- The causes that apply to the words of a line, each told by itself.
use Rattle.std.specs.Prelude.{ℕ, ◌+◌, List, [], ◌∷◌, ◌++◌, length, Option, None, Some, nat_le, codes, bytes_eq, if◌then◌else◌}
use Rattle.bq_model.specs.declared.fault.TextCause.{TextCause}
use Rattle.bq_model.specs.declared.fault.TextCause.TheVariants.{BadWord, BlockTooLong, TooMany}
use Rattle.text_lines.specs.Cause.{causes}
use Rattle.job_text.specs.declared.file.Unit.{Unit}
use Rattle.job_text.specs.declared.block.Block.{Block}
use Rattle.job_text.specs.JobFile.{job_count, most_jobs, most_in_unit}
use Rattle.job_text.specs.JobWords.{lane_of, job_of}
use Rattle.job_text.specs.Grammar.{LinesSay}

-- a word stands where none may
abbrev pub word_causes : List (List ℕ) → List TextCause
word_causes [] = []
word_causes (word ∷ words) = BadWord ∷ []

-- this is a further job of a block that has so many
abbrev pub place_causes : ℕ → List TextCause
place_causes before = if nat_le most_in_unit before then BlockTooLong ∷ [] else []

-- this is a further job of a file that has so many
abbrev pub count_causes : ℕ → List TextCause
count_causes before = if nat_le most_jobs before then TooMany ∷ [] else []

-- behind `job` a lane and a job
abbrev pub job_causes : List (List ℕ) → List TextCause
job_causes [] = BadWord ∷ []
job_causes (lane ∷ job) = causes (lane_of lane) ++ causes (job_of job)

-- behind `block` a lane, and no further word
abbrev pub block_causes : List (List ℕ) → List TextCause
block_causes [] = BadWord ∷ []
block_causes (lane ∷ words) = causes (lane_of lane) ++ word_causes words

-- outside a block
abbrev pub outside_causes : List Unit → List (List ℕ) → List TextCause
outside_causes units [] = BadWord ∷ []
outside_causes units (word ∷ words) =
    if bytes_eq word (codes "job") then job_causes words ++ count_causes (job_count units)
    else if bytes_eq word (codes "block") then block_causes words
    else BadWord ∷ []

-- inside a block
abbrev pub inside_causes : List Unit → Block → List (List ℕ) → List TextCause
inside_causes units block [] = BadWord ∷ []
inside_causes units block (word ∷ words) =
    if bytes_eq word (codes "put") then causes (job_of words) ++ (place_causes (length block.jobs) ++ count_causes (job_count units + length block.jobs))
    else if bytes_eq word (codes "end") then word_causes words
    else BadWord ∷ []

-- by whether a block is open
abbrev pub causes_in : Option Block → List Unit → List (List ℕ) → List TextCause
causes_in None units words = outside_causes units words
causes_in (Some block) units words = inside_causes units block words

-- the causes that apply to a line of these words, behind the header
abbrev pub applying : ℕ → LinesSay → List (List ℕ) → List TextCause
applying number so_far words = causes_in so_far.block so_far.units words
