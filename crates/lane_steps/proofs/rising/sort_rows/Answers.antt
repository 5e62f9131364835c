use Rattle.lane_steps.proofs.Sorted.{sorted_is_rising}
use Rattle.lane_steps.proofs.rising.sort_rows.Goals as goal

pub returns-clause-rising : goal.returns-clause-rising
returns-clause-rising c = sorted_is_rising c.args.rows.now c.sort_unstable.new.self c.sort_unstable.ensures.permutation c.sort_unstable.ensures.sorted
