use Rattle.lane_steps.specs.Step.{target}
use Rattle.lane_steps.specs.LaneSizes.{lane_sizes}
use Rattle.core_model.proofs.InRange.{is_word, counts_fit, shape_fits}
use Rattle.core_model.proofs.Finds.{names_rows}
use Rattle.core_model.proofs.Ends.{tail_fits, head_fits, announced_fits}
use Rattle.core_model.proofs.laws.counts_stay_in_range.Goals as goal

pub returns-clause-word : goal.returns-clause-word
returns-clause-word c = λ shape s who L. is_word (lane_sizes shape) s L who

pub returns-clause-raised : goal.returns-clause-raised
returns-clause-raised c = λ shape s who L. counts_fit (lane_sizes shape) s L (shape_fits shape) who

pub returns-clause-tail : goal.returns-clause-tail
returns-clause-tail c = λ shape s L. tail_fits (lane_sizes shape) s L (shape_fits shape)

pub returns-clause-head : goal.returns-clause-head
returns-clause-head c = λ shape s p L is. head_fits (lane_sizes shape) s L (shape_fits shape) p is

pub returns-clause-found : goal.returns-clause-found
returns-clause-found c = λ shape s who L. names_rows (lane_sizes shape) s L (shape_fits shape) (target who (s.callers who).point)

pub returns-clause-announced : goal.returns-clause-announced
returns-clause-announced c = λ shape s a n L is. announced_fits (lane_sizes shape) s L (shape_fits shape) a n is
