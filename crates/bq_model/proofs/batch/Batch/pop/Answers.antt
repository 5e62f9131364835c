use Rattle.bq_model.proofs.NoShuts.{alone-pop}
use Rattle.bq_model.proofs.batch.Batch.pop.Goals as goal

pub invariant_of-self : goal.invariant_of-self
invariant_of-self c = alone-pop _ _ c.pop.result c.pop.ensures.last c.pop.ensures.none_changes_nothing c.self.invariant
