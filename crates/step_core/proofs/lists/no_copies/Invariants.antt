use Rattle.std.proofs.Common.{◌≡◌, vec_len}
use Rattle.step_core.proofs.lists.no_copies.Given as goal

abbrev pub invariant-loop-made : goal.invariant-loop-made
invariant-loop-made l = vec_len l.copies ≡ l._made
