use Rattle.std.proofs.Common.{◌≡◌, take, map}
use Rattle.dep_jobs.specs.Resolve.{arg_value}
use Rattle.dep_jobs.proofs.resolve.values.Given as goal

-- the numbers so far
abbrev pub invariant-loop-arg : goal.invariant-loop-arg
invariant-loop-arg l = l.numbers.items ≡ map (arg_value l.texts) (take l.arg-index l.args)
