use Rattle.std.proofs.Common.{◌≡◌, ◌%◌, ◌^◌, take}
use Rattle.dep_jobs.specs.Resolve.{written}
use Rattle.dep_jobs.proofs.resolve.number_in.Given as goal

-- the number that the digits so far write
abbrev pub invariant-loop-digit : goal.invariant-loop-digit
invariant-loop-digit l = l.number ≡ written (take l.digit-index l.answer) % 2 ^ 64
