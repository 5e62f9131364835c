-- What the words of a line say of a job that may name the jobs before it.
use Rattle.std.specs.Prelude.{ℕ, List, [], ◌∷◌, Option, None, Some, Result, Ok, Err, option_map, ◌==◌, codes, bytes_eq, slice_get, if◌then◌else◌}
use Rattle.bq_model.specs.declared.fault.TextCause.{TextCause}
use Rattle.bq_model.specs.declared.fault.TextCause.TheVariants.{BadWord, BadNumber}
use Rattle.text_lines.specs.Number.{number_of, number_within}
use Rattle.text_lines.specs.Hex.{hex_of, byte_of}
use Rattle.text_lines.specs.Cause.{both}
use Rattle.text_lines.specs.Parts.{◌>>=◌, or_bad_number}
use Rattle.job_text.specs.JobFile.{most_turns}
use Rattle.job_text.specs.JobWords.{lane_of}
use Rattle.dep_text.specs.declared.job.Arg.{Arg}
use Rattle.dep_text.specs.declared.job.Arg.TheVariants.{Number, Of}
use Rattle.dep_text.specs.declared.job.Piece.{Piece}
use Rattle.dep_text.specs.declared.job.Piece.TheVariants.{Plain, Of as OfBytes}
use Rattle.dep_text.specs.declared.job.DepWork.{DepWork}
use Rattle.dep_text.specs.declared.job.DepWork.TheVariants.{Sum, Digest, Count, Mix, Words}
use Rattle.dep_text.specs.declared.job.DepJob.{DepJob}
use Rattle.dep_text.specs.declared.job.Place.{Place}
use Rattle.dep_text.specs.declared.job.Place.TheVariants.{AsNumber, AsBytes}
use Rattle.dep_text.specs.Places.{serves}

-- what stands behind the mark `@` of a reference
abbrev pub behind_mark : List ℕ → Option (List ℕ)
behind_mark [] = None
behind_mark (byte ∷ word) = if byte == 64 then Some word else None

-- a number and the job of this number: where there is none it is a bad number, and where its answer can't stand in the
-- place a bad word
abbrev pub job_for : Place → ℕ → Option DepJob → Result ℕ TextCause
job_for place number None = Err BadNumber
job_for place number (Some job) = if serves place job.work then Ok number else Err BadWord

-- the job that a number names for a place
abbrev pub job_named : Place → List DepJob → Option ℕ → Result ℕ TextCause
job_named place jobs None = Err BadNumber
job_named place jobs (Some number) = job_for place number (slice_get jobs number)

-- a number, or the job that a reference names
abbrev pub arg_of_parts : List DepJob → List ℕ → Option (List ℕ) → Result Arg TextCause
arg_of_parts jobs word None = or_bad_number (option_map Number (number_of word))
arg_of_parts jobs word (Some name) = job_named AsNumber jobs (number_of name) >>= (λ number. Ok (Of number))

abbrev pub arg_of : List DepJob → List ℕ → Result Arg TextCause
arg_of jobs word = arg_of_parts jobs word (behind_mark word)

-- bytes, or the job that a reference names
abbrev pub piece_of_parts : List DepJob → List ℕ → Option (List ℕ) → Result Piece TextCause
piece_of_parts jobs word None = or_bad_number (option_map Plain (hex_of word))
piece_of_parts jobs word (Some name) = job_named AsBytes jobs (number_of name) >>= (λ number. Ok (OfBytes number))

abbrev pub piece_of : List DepJob → List ℕ → Result Piece TextCause
piece_of jobs word = piece_of_parts jobs word (behind_mark word)

-- what f says of each word, or of all their causes the one that comes first
abbrev pub all_of : {X Y : Type 0} → (X → Result Y TextCause) → List X → Result (List Y) TextCause
all_of f [] = Ok []
all_of f (x ∷ xs) = both (f x) (all_of f xs) >>= (λ found. Ok (found.0 ∷ found.1))

-- any number of numbers
abbrev pub sum_of : List DepJob → List (List ℕ) → Result DepWork TextCause
sum_of jobs words = all_of (arg_of jobs) words >>= (λ args. Ok (Sum args))

-- one hex word
abbrev pub digest_of : List DepJob → List (List ℕ) → Result DepWork TextCause
digest_of jobs (bytes ∷ []) = piece_of jobs bytes >>= (λ piece. Ok (Digest piece))
digest_of jobs _ = Err BadWord

-- a byte word and a hex word
abbrev pub count_of : List DepJob → List (List ℕ) → Result DepWork TextCause
count_of jobs (byte ∷ bytes ∷ []) = both (or_bad_number (byte_of byte)) (piece_of jobs bytes) >>= (λ found. Ok (Count found.0 found.1))
count_of jobs _ = Err BadWord

-- a number and a number of turns
abbrev pub mix_of : List DepJob → List (List ℕ) → Result DepWork TextCause
mix_of jobs (start ∷ turns ∷ []) = both (arg_of jobs start) (or_bad_number (number_within 0 most_turns turns)) >>= (λ found. Ok (Mix found.0 found.1))
mix_of jobs _ = Err BadWord

-- work of this kind
abbrev pub work_of_kind : List DepJob → List ℕ → List (List ℕ) → Result DepWork TextCause
work_of_kind jobs kind arguments =
    if bytes_eq kind (codes "sum") then sum_of jobs arguments
    else if bytes_eq kind (codes "digest") then digest_of jobs arguments
    else if bytes_eq kind (codes "count") then count_of jobs arguments
    else if bytes_eq kind (codes "mix") then mix_of jobs arguments
    else if bytes_eq kind (codes "words") then Ok (Words arguments)
    else Err BadWord

-- a kind and its arguments
abbrev pub work_of : List DepJob → List (List ℕ) → Result DepWork TextCause
work_of jobs [] = Err BadWord
work_of jobs (kind ∷ arguments) = work_of_kind jobs kind arguments

-- what stands behind `job`: a lane, a kind and its arguments
abbrev pub dep_job_of : List DepJob → List (List ℕ) → Result DepJob TextCause
dep_job_of jobs [] = Err BadWord
dep_job_of jobs (lane ∷ work) = both (lane_of lane) (work_of jobs work) >>= (λ found. Ok (record { lane = found.0; work = found.1 }))
