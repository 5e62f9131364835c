use Rattle.std.proofs.Common.{◌≡◌}
use Rattle.lane_course.specs.Running.{Running, GoesTo}
use Rattle.lane_course.specs.Scratch.{SameRoom}
use Rattle.bq_lane.proofs.drive.drive.Given as goal
use Rattle.lane_rule.specs.Goes.{left_of}

abbrev pub invariant-steps : goal.invariant-steps
invariant-steps l = record {
  runs : Running l.words.table_id l.words.key l.shape l.caller l.point l.scratch l.token;
  goes : GoesTo l.fn.token l.token;
  room : SameRoom l.fn.scratch l.scratch;
  out : l.out.capacity ≡ l.fn.out.capacity;
}

abbrev pub decreases-steps : goal.decreases-steps
decreases-steps l = left_of l.token.me.0
