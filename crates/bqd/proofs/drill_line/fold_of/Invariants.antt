use Rattle.std.proofs.Common.{◌≡◌, take}
use Rattle.bqd.specs.DrillLine.{fold_of}
use Rattle.bqd.proofs.drill_line.fold_of.Given as goal

-- the fold of the bytes so far
abbrev pub invariant-loop-byte : goal.invariant-loop-byte
invariant-loop-byte l = l.fold ≡ fold_of (take l.byte-index l.bytes)
