-- The text of a job file: the header `bqjobs 1`, and then jobs and blocks of jobs.
use Rattle.std.specs.Prelude.{ℕ, ◌+◌, List, [], ◌∷◌, ◌++◌, length, Option, None, Some, Result, Ok, Err, nat_le, codes, bytes_eq, if◌then◌else◌}
use Rattle.bq_model.specs.declared.fault.TextCause.{TextCause}
use Rattle.bq_model.specs.declared.fault.TextCause.TheVariants.{BadWord, BlockTooLong, TooMany, OpenBlock}
use Rattle.bq_model.specs.declared.fault.TextFault.{TextFault}
use Rattle.text_lines.specs.Reading.{text_state, fault}
use Rattle.text_lines.specs.Parts.{◌>>=◌}
use Rattle.job_work.specs.declared.job.Job.{Job}
use Rattle.job_text.specs.declared.file.Unit.{Unit}
use Rattle.job_text.specs.declared.block.Block.{Block}
use Rattle.job_text.specs.JobFile.{job_count, most_jobs, most_in_unit}
use Rattle.job_text.specs.JobWords.{job_of, lane_job_of, only_lane_of}

-- what the lines so far say: the units that are done, and the block that is open
pub record LinesSay : Type 0 where
  pub units : List Unit
  pub block : Option Block

-- a unit of these jobs; no jobs give no unit
abbrev pub unit_of : ℕ → List Job → List Unit
unit_of lane [] = []
unit_of lane (job ∷ jobs) = record { lane = lane; jobs = job ∷ jobs } ∷ []

-- one more unit, of one job
abbrev pub add_job : List Unit → ℕ × Job → Result LinesSay TextCause
add_job units job =
    if nat_le most_jobs (job_count units) then Err TooMany
    else Ok (record { units = units ++ unit_of job.0 (job.1 ∷ []); block = None })

-- one more job of the block
abbrev pub put_job : List Unit → Block → Job → Result LinesSay TextCause
put_job units block job =
    if nat_le most_in_unit (length block.jobs) then Err BlockTooLong
    else if nat_le most_jobs (job_count units + length block.jobs) then Err TooMany
    else Ok (record { units = units; block = Some (record { line = block.line; lane = block.lane; jobs = block.jobs ++ job ∷ [] }) })

-- the block at its end, behind which no word stands
abbrev pub end_block : List Unit → Block → List (List ℕ) → Result LinesSay TextCause
end_block units block [] = Ok (record { units = units ++ unit_of block.lane block.jobs; block = None })
end_block units block (word ∷ words) = Err BadWord

-- a block that begins in this line
abbrev pub open_block : ℕ → List Unit → List (List ℕ) → Result LinesSay TextCause
open_block number units words = only_lane_of words >>= (λ lane. Ok (record { units = units; block = Some (record { line = number; lane = lane; jobs = [] }) }))

-- a line outside a block
abbrev pub outside : ℕ → List Unit → List (List ℕ) → Result LinesSay TextCause
outside number units [] = Err BadWord
outside number units (word ∷ words) =
    if bytes_eq word (codes "job") then lane_job_of words >>= add_job units
    else if bytes_eq word (codes "block") then open_block number units words
    else Err BadWord

-- a line inside a block
abbrev pub inside : List Unit → Block → List (List ℕ) → Result LinesSay TextCause
inside units block [] = Err BadWord
inside units block (word ∷ words) =
    if bytes_eq word (codes "put") then job_of words >>= put_job units block
    else if bytes_eq word (codes "end") then end_block units block words
    else Err BadWord

-- a line, by whether a block is open
abbrev pub line_in : Option Block → ℕ → List Unit → List (List ℕ) → Result LinesSay TextCause
line_in None number units words = outside number units words
line_in (Some block) number units words = inside units block words

-- what a line says, behind the header
abbrev pub meaning : ℕ → LinesSay → List (List ℕ) → Result LinesSay TextCause
meaning number progress words = line_in progress.block number progress.units words

-- the units of a text that ends here, if no block is open
abbrev pub units_at_end : List Unit → Option Block → Result (List Unit) TextFault
units_at_end units None = Ok units
units_at_end units (Some block) = Err (fault block.line OpenBlock)

-- before the first line
abbrev pub nothing_yet : LinesSay
nothing_yet = record { units = []; block = None }

-- what all lines of a text say, or the fault of the first line with a fault
abbrev pub progress_of : List ℕ → Result LinesSay TextFault
progress_of text = text_state (codes "bqjobs") (codes "1") meaning nothing_yet text

-- the units of a job file, or the text's one fault
abbrev pub jobs_of : List ℕ → Result (List Unit) TextFault
jobs_of text = progress_of text >>= (λ progress. units_at_end progress.units progress.block)
