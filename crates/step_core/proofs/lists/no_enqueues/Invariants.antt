use Rattle.std.proofs.Common.{◌≡◌, vec_len}
use Rattle.step_core.proofs.lists.no_enqueues.Given as goal

abbrev pub invariant-loop-made : goal.invariant-loop-made
invariant-loop-made l = vec_len l.enqueues ≡ l._made
