use Rattle.std.proofs.Common.{refl}
use Rattle.lane_rank.proofs.Expecting.{rank_up}
use Rattle.lane_rank.proofs.Frames.{climbs}
use Rattle.lane_rank.proofs.Bounds.{rank_bounded}
use Rattle.lane_rank.proofs.Ranking.{decided_below, chain_at_none, tail_at_one}
use Rattle.lane_steps.specs.Step.{next}
use Rattle.lane_rank.proofs.laws.no_step_lowers_the_rank.Goals as goal

pub returns-clause-up : goal.returns-clause-up
returns-clause-up c = λ z s who L. rank_up z s L (s.callers who).point (next z s who) (climbs z s L who)

pub returns-clause-start : goal.returns-clause-start
returns-clause-start c = λ z s who ops. refl

pub returns-clause-bound : goal.returns-clause-bound
returns-clause-bound c = λ z s L. rank_bounded z s L

pub returns-clause-decided : goal.returns-clause-decided
returns-clause-decided c = λ z s a n L head. decided_below z s L a n head

pub returns-clause-chain : goal.returns-clause-chain
returns-clause-chain c = λ z s a n L head none. chain_at_none z s L a n head none

pub returns-clause-old_tail : goal.returns-clause-old_tail
returns-clause-old_tail c = λ z s a n L head one. tail_at_one z s L a n head one
