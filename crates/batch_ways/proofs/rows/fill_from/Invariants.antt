use Rattle.lane_steps.specs.declared.point.Point.TheVariants.{Take}
use Rattle.lane_steps.specs.declared.point.TakePoint.TheVariants.{ClearMark}
use Rattle.lane_steps.specs.declared.point.Taking.TheVariants as taking
use Rattle.lane_rule.specs.Goes.{left_of}
use Rattle.lane_course.specs.Along.{Along}
use Rattle.lane_course.specs.Scratch.{SamePuts}
use Rattle.batch_ways.proofs.rows.fill_from.Given as goal

abbrev pub invariant-rows : goal.invariant-rows
invariant-rows l = record {
  along : Along l.words.table_id l.words.key l.shape l.caller (Take (taking.Batch l.fn.notice l.value) (ClearMark l.row)) l.scratch l.fn.token l.token;
  same : SamePuts l.fn.scratch l.scratch;
}

abbrev pub decreases-rows : goal.decreases-rows
decreases-rows l = left_of l.token.me.0
