use Rattle.lane_steps.specs.declared.point.Point.TheVariants.{Take}
use Rattle.lane_steps.specs.declared.point.TakePoint.TheVariants.{LoadMark}
use Rattle.lane_course.specs.Along.{Along}
use Rattle.plain_ways.proofs.row_search.find.Given as goal

abbrev pub invariant-rows : goal.invariant-rows
invariant-rows l = Along l.words.table_id l.words.key l.shape l.caller (Take l.fn.taking (LoadMark l.row l.left)) l.scratch l.fn.token l.token

abbrev pub decreases-rows : goal.decreases-rows
decreases-rows l = l.left
