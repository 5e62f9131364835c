use Rattle.std.proofs.Common.{rules}
use Rattle.bq_model.proofs.NoShuts.{alone-push}
use Rattle.bq_model.proofs.batch.Batch.push.Goals as goal

pub invariant_of-self : goal.invariant_of-self
invariant_of-self c = alone-push _ _ _ c.requires.nothing_after_a_shut c.requires.nothing_before_a_shut (search rules)
