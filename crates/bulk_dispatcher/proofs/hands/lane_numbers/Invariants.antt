use Rattle.std.proofs.Common.{◌≡◌}
use Rattle.bulk_dispatcher.proofs.Lanes.{lanes_below_number}
use Rattle.bulk_dispatcher.proofs.hands.lane_numbers.Given as goal

-- those of the numbers so far that occur
abbrev pub invariant-loop-lane : goal.invariant-loop-lane
invariant-loop-lane l = l.numbers.items ≡ lanes_below_number l.jobs l.lane
