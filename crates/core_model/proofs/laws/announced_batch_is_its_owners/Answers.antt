use Rattle.core_model.proofs.Standings.{tells_its_batch, says_so, puts_owners_group, decides_owners_group}
use Rattle.core_model.proofs.laws.announced_batch_is_its_owners.Goals as goal

pub returns-clause-told : goal.returns-clause-told
returns-clause-told c = λ z s a n L is. tells_its_batch z s L a n is

pub returns-clause-says : goal.returns-clause-says
returns-clause-says c = λ z s a n L is. says_so z s L a n is

pub returns-clause-added : goal.returns-clause-added
returns-clause-added c = puts_owners_group

pub returns-clause-decided : goal.returns-clause-decided
returns-clause-decided c = decides_owners_group
