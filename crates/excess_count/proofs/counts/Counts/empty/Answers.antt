use Rattle.excess_count.proofs.CountsLaws.{counts_of-nil}
use Rattle.excess_count.proofs.counts.Counts.empty.Goals as goal

pub returns-clause-counts_of_no_operation : goal.returns-clause-counts_of_no_operation
returns-clause-counts_of_no_operation c = counts_of-nil
