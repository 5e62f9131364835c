use Rattle.excess_count.proofs.CountsLaws.{added_enq, added_deq}
use Rattle.excess_count.proofs.counts.Counts.add.Goals as goal
use Rattle.excess_count.proofs.counts.Counts.add.Goals.{in-Enq, in-Deq}

pub returns-clause-counts_one_more : goal.returns-clause-counts_one_more
returns-clause-counts_one_more c = elim c.match-op.branch [
  | in-Enq w ↦ added_enq _ _ _ _ _ _ w.in-Enq.is w.self-is c.saturating_sub.ensures c.max-self.ensures
  | in-Deq w ↦ added_deq _ _ _ _ _ w.in-Deq.is w.self-is c.saturating_sub.ensures c.max-self.ensures
]
