use Rattle.std.proofs.Common.{◌≡◌}
use Rattle.step_tests.proofs.plain.kinds_of.Given as goal

abbrev pub invariant-loop : goal.invariant-loop
invariant-loop l = l.machine.shape ≡ l.fn.machine.shape
