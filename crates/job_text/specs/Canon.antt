-- The canonical form of a job file.
use Rattle.std.specs.Prelude.{ℕ, List, [], ◌∷◌, ◌++◌, codes, decimal, map, flat_map}
use Rattle.text_lines.specs.Printed.{printed_lines, printed_hex, printed_byte}
use Rattle.job_work.specs.declared.job.Job.{Job}
use Rattle.job_work.specs.declared.job.Job.TheVariants.{Sum, Digest, Count, Mix, Words}
use Rattle.job_text.specs.declared.file.Unit.{Unit}

-- the words of a job: its kind and its arguments
abbrev pub job_words : Job → List (List ℕ)
job_words (Sum numbers) = codes "sum" ∷ map decimal numbers
job_words (Digest bytes) = codes "digest" ∷ printed_hex bytes ∷ []
job_words (Count byte bytes) = codes "count" ∷ printed_byte byte ∷ printed_hex bytes ∷ []
job_words (Mix start turns) = codes "mix" ∷ decimal start ∷ decimal turns ∷ []
job_words (Words words) = codes "words" ∷ words

-- a job in a block
abbrev pub put_line : Job → List (List ℕ)
put_line job = codes "put" ∷ job_words job

-- a block of these jobs
abbrev pub block_lines : ℕ → List Job → List (List (List ℕ))
block_lines lane jobs = (codes "block" ∷ decimal lane ∷ []) ∷ map put_line jobs ++ (codes "end" ∷ []) ∷ []

-- the jobs of a unit: one as a line of its own, several as a block
abbrev pub lane_lines : ℕ → List Job → List (List (List ℕ))
lane_lines lane (job ∷ []) = (codes "job" ∷ decimal lane ∷ job_words job) ∷ []
lane_lines lane jobs = block_lines lane jobs

-- the lines of a unit
abbrev pub unit_lines : Unit → List (List (List ℕ))
unit_lines unit = lane_lines unit.lane unit.jobs

-- the text of a job file with these units: the header, and the lines of each unit
abbrev pub canon : List Unit → List ℕ
canon units = printed_lines ((codes "bqjobs" ∷ codes "1" ∷ []) ∷ flat_map unit_lines units)
