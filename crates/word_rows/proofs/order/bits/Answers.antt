use Rattle.std.proofs.Common.{◌≡◌, ◌∙◌, ℕ, ◌*◌, ◌^◌, ◌%◌, take, get_or, ap, arith}
use Rattle.std.specs.Prelude.{bit_or}
use Rattle.std.proofs.lemmas.Grind.{common_steps}
use Rattle.bq_model.specs.declared.op.Op.TheVariants.{Enq}
use Rattle.word_rows.specs.Order.{enqueue_bits}
use Rattle.word_rows.proofs.OrderLemmas.{weight, enqueue_bits-more}
use Rattle.word_rows.proofs.order.bits.Goals as goal

pub loop-k-preserved : goal.loop-k-preserved
loop-k-preserved c =
    let k : ℕ = c.loop-k.k in
    let weighed : c.from.result ≡ weight (get_or c.args.ops.now k (Enq 0)) = grind (arith, common_steps) in
    ap (λ (bits : ℕ). bit_or bits (c.from.result * 2 ^ k % 2 ^ 64)) c.loop-k.invariant
    ∙ ap (λ (n : ℕ). bit_or (enqueue_bits (take k c.args.ops.now)) (n * 2 ^ k % 2 ^ 64)) weighed
    ∙ enqueue_bits-more c.args.ops.now k (Enq 0) c.loop-k-test.true (omega arith)
