use Rattle.std.proofs.Common.{◌≡◌, take}
use Rattle.dep_jobs.specs.LevelFile.{units_for}
use Rattle.dep_jobs.proofs.level_file.level_units.Given as goal

-- the units so far
abbrev pub invariant-loop-number : goal.invariant-loop-number
invariant-loop-number l = l.units.items ≡ units_for l.texts l.jobs (take l.number-index l.numbers)
