use Rattle.lane_steps.specs.declared.point.Point.TheVariants.{Answer}
use Rattle.lane_steps.specs.declared.point.AnswerPoint.TheVariants.{LoadLink}
use Rattle.lane_course.specs.Along.{Along}
use Rattle.lane_course.specs.Scratch.{SamePuts}
use Rattle.help_ways.proofs.answer_way.read_values.Given as goal

abbrev pub invariant-values : goal.invariant-values
invariant-values l = record {
  along : Along l.words.table_id l.words.key l.shape l.caller (Answer (LoadLink l.reading l.row l.left)) l.scratch l.fn.token l.token;
  same : SamePuts l.fn.scratch l.scratch;
}

abbrev pub decreases-values : goal.decreases-values
decreases-values l = l.left
