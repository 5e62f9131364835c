use Rattle.std.proofs.Common.{◌≡◌, length, map, take}
use Rattle.bq_c.specs.Crossing.{crossed_answer}
use Rattle.bq_c.proofs.crossing.hand_out.Given as goal

abbrev pub invariant-loop-k : goal.invariant-loop-k
invariant-loop-k l = record {
  long : length l.out ≡ length l.answers;
  written : take l.k l.out ≡ map crossed_answer (take l.k l.answers);
}
