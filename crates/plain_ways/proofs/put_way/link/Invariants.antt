use Rattle.lane_steps.specs.declared.point.EnqueuePoint.TheVariants.{LoadTail}
use Rattle.lane_steps.specs.declared.point.Point.TheVariants.{Enqueue}
use Rattle.lane_rule.specs.Goes.{left_of}
use Rattle.lane_course.specs.Along.{Along}
use Rattle.lane_course.specs.Scratch.{SamePuts}
use Rattle.plain_ways.proofs.put_way.link.Given as goal

abbrev pub invariant-tries : goal.invariant-tries
invariant-tries l = record {
  along : Along l.words.table_id l.words.key l.shape l.caller (Enqueue l.fn.item LoadTail) l.scratch l.fn.token l.token;
  same : SamePuts l.fn.scratch l.scratch;
}

abbrev pub decreases-tries : goal.decreases-tries
decreases-tries l = left_of l.token.me.0
