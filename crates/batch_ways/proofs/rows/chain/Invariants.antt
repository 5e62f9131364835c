use Rattle.std.proofs.Common.{suc, get_or, ◌≡◌}
use Rattle.lane_steps.specs.declared.point.FillPoint.TheVariants.{StoreChain}
use Rattle.lane_steps.specs.declared.point.Point.TheVariants.{Fill}
use Rattle.lane_rule.specs.Goes.{left_of}
use Rattle.lane_course.specs.Along.{Along}
use Rattle.batch_ways.proofs.rows.chain.Given as goal

abbrev pub invariant-links : goal.invariant-links
invariant-links l = record {
  along : Along l.words.table_id l.words.key l.shape l.caller (Fill l.fn.notice (StoreChain l.number (get_or l.scratch.rows.items l.number 0) (get_or l.scratch.rows.items (suc l.number) 0))) l.scratch l.fn.token l.token;
  at_hand : l.scratch ≡ l.fn.scratch;
}

abbrev pub decreases-links : goal.decreases-links
decreases-links l = left_of l.token.me.0
