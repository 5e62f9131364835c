use Rattle.std.proofs.Common.{◌≡◌}
use Rattle.step_tests.proofs.short.notes_of.Given as goal

abbrev pub invariant-loop-turn : goal.invariant-loop-turn
invariant-loop-turn l = l.machine.shape ≡ l.fn.machine.shape
