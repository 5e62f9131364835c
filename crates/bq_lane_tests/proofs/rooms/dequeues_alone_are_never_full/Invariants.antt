use Rattle.std.proofs.Common.{◌≡◌}
use Rattle.bq_lane_tests.proofs.rooms.dequeues_alone_are_never_full.Given as goal

-- the pass stays that of the one caller on this lane
abbrev pub invariant-loop-round : goal.invariant-loop-round
invariant-loop-round g l = record { table : l.pass.table ≡ l.initial.pass.table; shape : l.pass.shape ≡ l.initial.pass.shape; callers : l.pass.callers ≡ l.initial.pass.callers }
