use Rattle.std.proofs.Common.{◌<◌, ◌≤◌, length}
use Rattle.lane_steps.specs.Fill.{scan_from}
use Rattle.lane_steps.specs.LaneSizes.{lane_sizes}
use Rattle.lane_rule.specs.Goes.{left_of}
use Rattle.lane_course.specs.Along.{Along}
use Rattle.lane_course.specs.Scratch.{SamePuts}
use Rattle.batch_ways.proofs.announce.listen_to_all.Given as goal

abbrev pub invariant-callers : goal.invariant-callers
invariant-callers l = record {
  along : Along l.words.table_id l.words.key l.shape l.caller (scan_from (lane_sizes l.shape) l.caller l.scratch.named.items l.notice l.next) l.scratch l.fn.token l.token;
  same : SamePuts l.fn.scratch l.scratch;
  within : l.next ≤ l.shape.callers;
  left : length l.scratch.named.items < l.shape.callers;
}

abbrev pub decreases-callers : goal.decreases-callers
decreases-callers l = left_of l.token.me.0
