use Rattle.std.proofs.Common.{◌≡◌, [], replicate}
use Rattle.dep_jobs.proofs.levels.no_numbers.Given as goal

-- the levels so far
abbrev pub invariant-loop-level : goal.invariant-loop-level
invariant-loop-level l = l.numbers.items ≡ replicate l._level []
