use Rattle.std.proofs.Common.{◌≡◌}
use Rattle.lane_tests.proofs.beside.puts_and_takes.Given as goal

abbrev pub invariant-loop-k : goal.invariant-loop-k
invariant-loop-k g l = record {
  identity : g.L.Lane.pass_identity l.pass ≡ g.L.Lane.pass_identity l.fn.pass;
  shape : g.L.Lane.pass_shape l.pass ≡ g.L.Lane.pass_shape l.fn.pass;
  callers : g.L.Lane.callers l.pass ≡ g.L.Lane.callers l.fn.pass;
}

abbrev pub invariant-loop : goal.invariant-loop
invariant-loop g l = record {
  identity : g.L.Lane.pass_identity l.pass ≡ g.L.Lane.pass_identity l.fn.pass;
  shape : g.L.Lane.pass_shape l.pass ≡ g.L.Lane.pass_shape l.fn.pass;
  callers : g.L.Lane.callers l.pass ≡ g.L.Lane.callers l.fn.pass;
}
