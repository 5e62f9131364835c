use Rattle.std.proofs.Common.{◌≡◌, ◌*◌, ◌≤◌, sum, take}
use Rattle.job_work.proofs.sum.total.Given as goal

-- the numbers so far are added up, and each is below 2^64
abbrev pub invariant-loop-number : goal.invariant-loop-number
invariant-loop-number l = record {
  added : l.total ≡ sum (take l.number-index l.numbers);
  bounded : l.total ≤ 18446744073709551615 * l.number-index;
}
