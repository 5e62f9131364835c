use Rattle.lane_steps.specs.declared.point.ClosePoint.TheVariants.{LoadHazard}
use Rattle.lane_steps.specs.declared.point.Point.TheVariants.{Close}
use Rattle.lane_rule.specs.Goes.{left_of}
use Rattle.lane_course.specs.Along.{Along}
use Rattle.lane_course.specs.Scratch.{SamePuts}
use Rattle.plain_ways.proofs.end_way.scan_from.Given as goal

abbrev pub invariant-others : goal.invariant-others
invariant-others l = record {
  along : Along l.words.table_id l.words.key l.shape l.caller (Close l.closing (LoadHazard l.other)) l.scratch l.fn.token l.token;
  at_hand : SamePuts l.fn.scratch l.scratch;
}

abbrev pub decreases-others : goal.decreases-others
decreases-others l = left_of l.token.me.0
