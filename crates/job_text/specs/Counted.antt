-- How many jobs were read so far.
use Rattle.std.specs.Prelude.{◌≡◌, ℕ, ◌+◌, ◌≤◌, List, length, Option}
use Rattle.std.specs.Option.{option_map_or}
use Rattle.job_text.specs.declared.file.Unit.{Unit}
use Rattle.job_text.specs.declared.block.Block.{Block}
use Rattle.job_text.specs.JobFile.{job_count, most_jobs}

-- how many jobs an open block has
abbrev pub jobs_in : Option Block → ℕ
jobs_in block = option_map_or (λ b. length b.jobs) block 0

-- the jobs of the units are counted, and those of the block are not too many beside them
pub record IsCounted (units : List Unit) (block : Option Block) (count : ℕ) : Type 0 where
  pub count_is : count ≡ job_count units
  pub few : count + jobs_in block ≤ most_jobs
