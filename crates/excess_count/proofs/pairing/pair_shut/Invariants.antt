use Rattle.std.proofs.Common.{◌≡◌, ◌++◌, length, drop}
use Rattle.excess_count.specs.Pairing.{paired_shut}
use Rattle.excess_count.proofs.pairing.pair_shut.Given as goal

-- the answers so far, and those that the rest of the operations has
abbrev pub invariant-loop-op : goal.invariant-loop-op
invariant-loop-op l = record {
  capacity : l.out.capacity ≡ l.initial.out.capacity;
  answered : length l.out.items ≡ l.op-index;
  rest : l.out.items ++ paired_shut (drop l.op-index l.ops) l.left ≡ paired_shut l.ops l.values;
}
