-- Which operations of a batch are enqueues, one bit for each.
use Rattle.std.specs.Prelude.{ℕ, ◌+◌, ◌*◌, List, [], ◌∷◌, take, drop, if◌then◌else◌}
use Rattle.bq_model.specs.declared.op.Op.{Op}
use Rattle.excess_count.specs.Excess.{is_enqueue}

-- a bit for each operation, 1 for an enqueue; that of the first is the lowest
abbrev pub enqueue_bits : List Op → ℕ
enqueue_bits [] = 0
enqueue_bits (op ∷ ops) = (if is_enqueue op then 1 else 0) + 2 * enqueue_bits ops

-- the bits of the operations from 64 * word on, of 64 at most
abbrev pub order_word_of : List Op → ℕ → ℕ
order_word_of ops word = enqueue_bits (take 64 (drop (64 * word) ops))
