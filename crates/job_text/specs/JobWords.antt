-- What the words of a line say of a lane and of a job.
use Rattle.std.specs.Prelude.{ℕ, List, [], ◌∷◌, Option, None, Some, Result, Ok, Err, option_map, option_and_then, nat_le, codes, bytes_eq, if◌then◌else◌}
use Rattle.bq_model.specs.declared.fault.TextCause.{TextCause}
use Rattle.bq_model.specs.declared.fault.TextCause.TheVariants.{BadWord, BadNumber, BadLane}
use Rattle.text_lines.specs.Number.{number_of, number_within}
use Rattle.text_lines.specs.Hex.{hex_of, byte_of}
use Rattle.text_lines.specs.Cause.{both}
use Rattle.job_work.specs.declared.job.Job.{Job}
use Rattle.job_work.specs.declared.job.Job.TheVariants.{Sum, Digest, Count, Mix, Words}
use Rattle.job_text.specs.JobFile.{most_lane, most_turns}
use Rattle.text_lines.specs.Each.{each_of}
use Rattle.text_lines.specs.Parts.{or_bad_number}

infixl 10 ◌>>=◌
abbrev ◌>>=◌ : {A B : Type 0} → Option A → (A → Option B) → Option B
found >>= f = option_and_then f found

-- a lane's number, if it isn't too high
abbrev pub lane_of_number : Option ℕ → Result ℕ TextCause
lane_of_number None = Err BadNumber
lane_of_number (Some number) = if nat_le number most_lane then Ok number else Err BadLane

-- the lane that a word names
abbrev pub lane_of : List ℕ → Result ℕ TextCause
lane_of word = lane_of_number (number_of word)

-- any number of numbers
abbrev pub sum_of : List (List ℕ) → Result Job TextCause
sum_of words = or_bad_number (option_map Sum (each_of number_of words))

-- one hex word
abbrev pub digest_of : List (List ℕ) → Result Job TextCause
digest_of (bytes ∷ []) = or_bad_number (option_map Digest (hex_of bytes))
digest_of _ = Err BadWord

-- a byte word and a hex word
abbrev pub count_of : List (List ℕ) → Result Job TextCause
count_of (byte ∷ bytes ∷ []) = or_bad_number do
  counted ← byte_of byte
  among ← hex_of bytes
  Some (Count counted among)
count_of _ = Err BadWord

-- a number and a number of turns
abbrev pub mix_of : List (List ℕ) → Result Job TextCause
mix_of (start ∷ turns ∷ []) = or_bad_number do
  first ← number_of start
  often ← number_within 0 most_turns turns
  Some (Mix first often)
mix_of _ = Err BadWord

-- a job of this kind
abbrev pub job_of_kind : List ℕ → List (List ℕ) → Result Job TextCause
job_of_kind kind arguments =
    if bytes_eq kind (codes "sum") then sum_of arguments
    else if bytes_eq kind (codes "digest") then digest_of arguments
    else if bytes_eq kind (codes "count") then count_of arguments
    else if bytes_eq kind (codes "mix") then mix_of arguments
    else if bytes_eq kind (codes "words") then Ok (Words arguments)
    else Err BadWord

-- a kind and its arguments
abbrev pub job_of : List (List ℕ) → Result Job TextCause
job_of [] = Err BadWord
job_of (kind ∷ arguments) = job_of_kind kind arguments

-- what stands behind `job`: a lane and a job
abbrev pub lane_job_of : List (List ℕ) → Result (ℕ × Job) TextCause
lane_job_of [] = Err BadWord
lane_job_of (lane ∷ job) = both (lane_of lane) (job_of job)

-- what stands behind `block`: a lane
abbrev pub only_lane_of : List (List ℕ) → Result ℕ TextCause
only_lane_of (lane ∷ []) = lane_of lane
only_lane_of _ = Err BadWord
