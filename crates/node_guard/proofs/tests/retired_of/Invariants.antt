-- The rows so far are put, in order.
use Rattle.std.proofs.Common.{◌≡◌, take}
use Rattle.node_guard.proofs.tests.retired_of.Given as goal

abbrev pub invariant-loop-row : goal.invariant-loop-row
invariant-loop-row l = (l.retired.items ≡ take l.row-index l.rows) × (l.retired.capacity ≡ 7)
