use Rattle.std.proofs.Common.{◌≡◌, ◌+◌, take, map}
use Rattle.dep_text.specs.Levels.{greatest}
use Rattle.dep_jobs.proofs.levels.depth.Given as goal

-- how many levels the jobs so far have
abbrev pub invariant-loop-level : goal.invariant-loop-level
invariant-loop-level l = l.depth ≡ greatest (map (λ level. level + 1) (take l.level-index l.levels))
