use Rattle.std.proofs.Common.{◌≡◌}
use Rattle.lane_tests.proofs.mixed.takes_the_rest.Given as goal

abbrev pub invariant-loop : goal.invariant-loop
invariant-loop g l = record {
  identity : g.L.Lane.pass_identity l.pass ≡ g.L.Lane.pass_identity l.fn.pass;
  shape : g.L.Lane.pass_shape l.pass ≡ g.L.Lane.pass_shape l.fn.pass;
  callers : g.L.Lane.callers l.pass ≡ g.L.Lane.callers l.fn.pass;
}
