use Rattle.std.proofs.Common.{[], ◌∷◌}
use Rattle.bq_model.specs.declared.op.Op.TheVariants.{Enq}
use Rattle.bq_lane.proofs.enqueue.perform_put.Given as goal

abbrev pub ghosts-put_first : goal.ghosts-put_first
ghosts-put_first a = record { ops = Enq a.value ∷ [] }
