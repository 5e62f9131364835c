use Rattle.lane_steps.specs.declared.point.Point.TheVariants.{Help}
use Rattle.lane_steps.specs.declared.point.HelpPoint.TheVariants.{LoadTail}
use Rattle.lane_course.specs.Along.{Along}
use Rattle.lane_course.specs.Scratch.{SamePuts}
use Rattle.lane_rule.specs.Goes.{left_of}
use Rattle.help_ways.proofs.help_tail.find_old_tail.Given as goal

abbrev pub invariant-tails : goal.invariant-tails
invariant-tails l = record {
  along : Along l.words.table_id l.words.key l.shape l.caller (Help l.help LoadTail) l.scratch l.fn.token l.token;
  same : SamePuts l.fn.scratch l.scratch;
}

abbrev pub decreases-tails : goal.decreases-tails
decreases-tails l = left_of l.token.me.0
