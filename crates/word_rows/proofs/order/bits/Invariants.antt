use Rattle.std.proofs.Common.{◌≡◌, take}
use Rattle.word_rows.specs.Order.{enqueue_bits}
use Rattle.word_rows.proofs.order.bits.Given as goal

abbrev pub invariant-loop-k : goal.invariant-loop-k
invariant-loop-k l = l.bits ≡ enqueue_bits (take l.k l.fn.ops)
