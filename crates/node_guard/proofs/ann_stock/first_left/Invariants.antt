-- The numbers so far are in the list, so the first that is left is the first from here on.
use Rattle.std.proofs.Common.{◌-◌, ◌≡◌, ◌≤◌}
use Rattle.node_guard.specs.Pick.{first_left}
use Rattle.node_guard.proofs.ann_stock.first_left.Given as goal

abbrev pub invariant-loop-number : goal.invariant-loop-number
invariant-loop-number l = (l.number ≤ l.behind) × (first_left l.held (l.behind - l.number) l.number ≡ first_left l.held l.count l.first)

abbrev pub decreases-loop-number : goal.decreases-loop-number
decreases-loop-number l = l.behind - l.number
