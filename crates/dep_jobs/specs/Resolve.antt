-- What a job is, once the jobs that it names are answered.
use Rattle.std.specs.Prelude.{ℕ, ◌+◌, ◌-◌, ◌*◌, ◌%◌, ◌^◌, List, [], map, slice_index_or}
use Rattle.std.specs.List.{fold}
use Rattle.job_work.specs.declared.job.Job.{Job}
use Rattle.job_work.specs.declared.job.Job.TheVariants.{Sum as JobSum, Digest as JobDigest, Count as JobCount, Mix as JobMix, Words as JobWords}
use Rattle.dep_text.specs.declared.job.Arg.{Arg}
use Rattle.dep_text.specs.declared.job.Arg.TheVariants.{Number, Of}
use Rattle.dep_text.specs.declared.job.Piece.{Piece}
use Rattle.dep_text.specs.declared.job.Piece.TheVariants.{Plain, Of as OfBytes}
use Rattle.dep_text.specs.declared.job.DepWork.{DepWork}
use Rattle.dep_text.specs.declared.job.DepWork.TheVariants.{Sum, Digest, Count, Mix, Words}

-- the number that decimal digits write
abbrev pub written : List ℕ → ℕ
written digits = fold (λ value digit. value * 10 + (digit - 48)) 0 digits

-- the number that stands for an answer: the one that its digits write, modulo 2^64
abbrev pub number_in : List ℕ → ℕ
number_in answer = written answer % 2 ^ 64

-- a number, where the jobs have these answers
abbrev pub arg_value : List (List ℕ) → Arg → ℕ
arg_value answers (Number number) = number
arg_value answers (Of job) = number_in (slice_index_or answers job [])

-- bytes, where the jobs have these answers
abbrev pub piece_bytes : List (List ℕ) → Piece → List ℕ
piece_bytes answers (Plain bytes) = bytes
piece_bytes answers (OfBytes job) = slice_index_or answers job []

-- the job that this work is, where the jobs have these answers
abbrev pub resolve : DepWork → List (List ℕ) → Job
resolve (Sum args) answers = JobSum (map (arg_value answers) args)
resolve (Digest piece) answers = JobDigest (piece_bytes answers piece)
resolve (Count byte piece) answers = JobCount byte (piece_bytes answers piece)
resolve (Mix start turns) answers = JobMix (arg_value answers start) turns
resolve (Words words) answers = JobWords words
