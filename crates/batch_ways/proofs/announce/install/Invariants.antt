use Rattle.std.proofs.Common.{◌<◌, ◌≡◌}
use Rattle.lane_steps.specs.declared.point.BatchPoint.TheVariants.{LoadHead}
use Rattle.lane_steps.specs.declared.point.Point.TheVariants.{Batch}
use Rattle.lane_rule.specs.Goes.{left_of}
use Rattle.lane_course.specs.Along.{Along}
use Rattle.batch_ways.proofs.announce.install.Given as goal

abbrev pub invariant-tries : goal.invariant-tries
invariant-tries l = record {
  along : Along l.words.table_id l.words.key l.shape l.caller (Batch l.draft LoadHead) l.scratch l.fn.token l.token;
  puts : 0 < l.draft.notice.counts.enqs;
  at_hand : l.scratch ≡ l.fn.scratch;
}

abbrev pub decreases-tries : goal.decreases-tries
decreases-tries l = left_of l.token.me.0
