-- the pass stays that of its caller on this lane
use Rattle.std.proofs.Common.{◌≡◌}
use Rattle.lane_tests.proofs.mixed.works.Given as goal

abbrev pub invariant-loop-number : goal.invariant-loop-number
invariant-loop-number g l = record {
  batch : l.batch.capacity ≡ 8;
  answers : l.out.capacity ≡ 8;
  identity : g.L.Lane.pass_identity l.pass ≡ g.L.Lane.pass_identity l.fn.pass;
  shape : g.L.Lane.pass_shape l.pass ≡ g.L.Lane.pass_shape l.fn.pass;
  callers : g.L.Lane.callers l.pass ≡ g.L.Lane.callers l.fn.pass;
}
