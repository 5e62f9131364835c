use Rattle.std.proofs.Common.{arith}
use Rattle.std.proofs.lemmas.List.Sums.{fold_more}
use Rattle.std.proofs.Math.Nat.{mod-add-mod}
use Rattle.bqd.proofs.drill_line.fold_of.Goals as goal

pub loop-byte-preserved : goal.loop-byte-preserved
loop-byte-preserved c = grind (arith, fold_more, mod-add-mod)
