use Rattle.std.proofs.Common.{◌∙◌, ℕ, nat_eq, ap, ◌/◌, ◌^◌}
use Rattle.std.specs.Prelude.{bit_and}
use Rattle.word_rows.proofs.OrderLemmas.{order_word_of-at, weight-is}
use Rattle.word_rows.proofs.order.is_enqueue_in.Goals as goal

pub returns : goal.returns
returns c = λ ops word op is at.
    ap (λ (n : ℕ). nat_eq (bit_and (n / 2 ^ c.args.k) 1) 1) is
    ∙ ap (λ (n : ℕ). nat_eq n 1) (order_word_of-at ops word c.args.k op c.requires at)
    ∙ weight-is op
