use Rattle.std.proofs.Common.{refl}
use Rattle.batch_ways.proofs.announce.install_over.Goals as goal

pub write-requires : goal.write-requires
write-requires c = record { runs = c.requires.runs; content = refl }
