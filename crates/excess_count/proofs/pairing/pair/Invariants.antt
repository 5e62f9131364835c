use Rattle.std.proofs.Common.{◌≡◌, ◌+◌, ◌≤◌, ◌++◌, min, length, drop}
use Rattle.excess_count.specs.Pairing.{paired}
use Rattle.excess_count.proofs.pairing.pair.Given as goal

-- the answers so far, and those that the rest of the operations has
abbrev pub invariant-loop-op : goal.invariant-loop-op
invariant-loop-op l = record {
  capacity : l.out.capacity ≡ l.initial.out.capacity;
  answered : length l.out.items ≡ l.op-index;
  queued : l.standing.queued ≤ length l.ops + l.op-index;
  got : l.standing.got ≤ l.op-index;
  rest : l.out.items ++ paired (drop l.op-index l.ops) l.standing.queued (drop l.standing.got l.values) ≡ paired l.ops (min l.fn.queued (length l.ops)) l.values;
}
