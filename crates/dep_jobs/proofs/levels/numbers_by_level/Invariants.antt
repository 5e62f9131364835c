use Rattle.std.proofs.Common.{◌≡◌, map}
use Rattle.std.specs.List.{range_with_len}
use Rattle.dep_text.specs.Levels.{depth_of}
use Rattle.dep_jobs.proofs.LevelFiles.{numbers_among}
use Rattle.dep_jobs.proofs.levels.numbers_by_level.Given as goal

-- the numbers of the jobs so far
abbrev pub invariant-loop-number : goal.invariant-loop-number
invariant-loop-number l = l.numbers.items ≡ map (numbers_among l.levels l.number) (range_with_len 0 (depth_of l.levels))
