use Rattle.lane_steps.specs.declared.point.EnqueuePoint.TheVariants.{LoadTail}
use Rattle.lane_steps.specs.declared.point.Point.TheVariants.{Enqueue}
use Rattle.lane_rule.specs.Goes.{left_of}
use Rattle.lane_course.specs.Along.{Along}
use Rattle.lane_course.specs.Scratch.{SamePuts}
use Rattle.plain_ways.proofs.put_way.hold_tail.Given as goal

abbrev pub invariant-holds : goal.invariant-holds
invariant-holds l = record {
  along : Along l.words.table_id l.words.key l.shape l.caller (Enqueue l.fn.item LoadTail) l.scratch l.fn.token l.token;
  same : SamePuts l.fn.scratch l.scratch;
}

abbrev pub decreases-holds : goal.decreases-holds
decreases-holds l = left_of l.token.me.0
