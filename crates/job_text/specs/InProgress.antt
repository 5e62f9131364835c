-- The ranges that hold from line to line.
use Rattle.std.specs.Prelude.{◌+◌, ◌≤◌, length, All, IfSome}
use Rattle.job_text.specs.declared.block.Block.{Block}
use Rattle.job_text.specs.JobFile.{IsUnit, IsInRange, job_count, most_jobs, most_lane, most_in_unit}
use Rattle.job_text.specs.Counted.{jobs_in}
use Rattle.job_text.specs.Grammar.{LinesSay}

-- a block that a file may have so far
pub record IsOpenBlock (block : Block) : Type 0 where
  pub lane : block.lane ≤ most_lane
  pub few : length block.jobs ≤ most_in_unit
  pub ranges : All IsInRange block.jobs

-- what the lines so far may say
pub record IsInProgress (so_far : LinesSay) : Type 0 where
  pub units_are : All IsUnit so_far.units
  pub block_is : IfSome so_far.block IsOpenBlock
  pub count : job_count so_far.units + jobs_in so_far.block ≤ most_jobs
