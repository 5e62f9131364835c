use Rattle.std.proofs.Common.{◌≡◌, ◌+◌, ◌≤◌, take}
use Rattle.excess_count.specs.Counts.{counts_of}
use Rattle.excess_count.proofs.counts.count.Given as goal

abbrev pub invariant-loop-op : goal.invariant-loop-op
invariant-loop-op l = record {
  counted : l.counts ≡ counts_of (take l.op-index l.ops);
  within : l.counts.excess ≤ l.counts.deqs;
  every : l.counts.enqs + l.counts.deqs ≡ l.op-index;
}
