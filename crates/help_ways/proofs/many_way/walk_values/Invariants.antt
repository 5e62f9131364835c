use Rattle.lane_steps.specs.declared.point.Point.TheVariants.{Many}
use Rattle.lane_steps.specs.declared.point.ManyPoint.TheVariants.{LoadValue}
use Rattle.lane_course.specs.Along.{Along}
use Rattle.lane_course.specs.Scratch.{SamePuts}
use Rattle.help_ways.proofs.many_way.walk_values.Given as goal

abbrev pub invariant-values : goal.invariant-values
invariant-values l = record {
  along : Along l.words.table_id l.words.key l.shape l.caller (Many l.plan (LoadValue l.row l.left)) l.scratch l.fn.token l.token;
  same : SamePuts l.fn.scratch l.scratch;
}

abbrev pub decreases-values : goal.decreases-values
decreases-values l = l.left
