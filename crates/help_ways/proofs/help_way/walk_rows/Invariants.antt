use Rattle.std.proofs.Common.{◌≡◌}
use Rattle.lane_steps.specs.declared.point.Point.TheVariants.{Help}
use Rattle.lane_steps.specs.declared.point.HelpPoint.TheVariants.{LoadWalk}
use Rattle.lane_course.specs.Along.{Along}
use Rattle.help_ways.proofs.help_way.walk_rows.Given as goal

abbrev pub invariant-rows : goal.invariant-rows
invariant-rows l = record {
  along : Along l.words.table_id l.words.key l.shape l.caller (Help l.help (LoadWalk l.values l.row l.left)) l.scratch l.fn.token l.token;
  at_hand : l.scratch ≡ l.fn.scratch;
}

abbrev pub decreases-rows : goal.decreases-rows
decreases-rows l = l.left
