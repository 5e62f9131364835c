use Rattle.std.proofs.Common.{◌≡◌, take, map}
use Rattle.dep_text.specs.Levels.{greatest, arg_level}
use Rattle.dep_text.proofs.level.greatest_level.Given as goal

-- the greatest level of the numbers so far
abbrev pub invariant-loop-arg : goal.invariant-loop-arg
invariant-loop-arg l = l.level ≡ greatest (map (arg_level l.levels) (take l.arg-index l.args))
