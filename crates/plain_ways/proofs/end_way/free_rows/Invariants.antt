use Rattle.lane_steps.specs.declared.point.ClosePoint.TheVariants.{MarkFree}
use Rattle.lane_steps.specs.declared.point.Point.TheVariants.{Close}
use Rattle.lane_rule.specs.Goes.{left_of}
use Rattle.lane_course.specs.Along.{Along}
use Rattle.lane_course.specs.Scratch.{SamePuts}
use Rattle.plain_ways.proofs.end_way.free_rows.Given as goal

abbrev pub invariant-rows : goal.invariant-rows
invariant-rows l = record {
  along : Along l.words.table_id l.words.key l.shape l.caller (Close l.fn.closing (MarkFree l.row)) l.scratch l.fn.token l.token;
  at_hand : SamePuts l.fn.scratch l.scratch;
}

abbrev pub decreases-rows : goal.decreases-rows
decreases-rows l = left_of l.token.me.0
