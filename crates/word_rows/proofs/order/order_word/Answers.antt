use Rattle.std.proofs.Common.{◌∙◌, ◌*◌, ap}
use Rattle.word_rows.specs.Order.{enqueue_bits}
use Rattle.word_rows.proofs.OrderLemmas.{cut-from}
use Rattle.word_rows.proofs.order.order_word.Goals as goal

pub returns : goal.returns
returns c = c.bits.ensures ∙ ap enqueue_bits (cut-from c.args.ops.now (64 * c.args.word) c.min-start.result c.min-end.result c.min-start.ensures c.min-end.ensures)
