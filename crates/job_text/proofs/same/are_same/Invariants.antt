use Rattle.std.proofs.Common.{◌≡◌, length, take}
use Rattle.job_text.proofs.same.are_same.Given as goal

abbrev pub invariant-loop-one : goal.invariant-loop-one
invariant-loop-one g l = take (length l.yielded) l.ours ≡ take (length l.yielded) l.theirs
