use Rattle.std.proofs.Common.{[], ◌∷◌}
use Rattle.bq_model.specs.declared.op.Op.TheVariants.{Deq}
use Rattle.bq_lane.proofs.drive.perform_dequeue.Given as goal

abbrev pub ghosts-dequeue_first : goal.ghosts-dequeue_first
ghosts-dequeue_first a = record { ops = Deq ∷ [] }
