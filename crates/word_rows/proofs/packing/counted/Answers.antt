use Rattle.std.proofs.Common.{◌∙◌, ap}
use Rattle.std.specs.Prelude.{ℕ, ◌*◌, ◌^◌, ◌%◌, bit_or}
use Rattle.word_rows.proofs.PackingLemmas.{counted_bits}
use Rattle.word_rows.proofs.packing.counted.Goals as goal

pub returns : goal.returns
returns c =
    ap (λ (number : ℕ). bit_or (bit_or (c.args.count * 2 ^ 20 % 2 ^ 64) (number * 2 ^ 2 % 2 ^ 64)) c.args.kind) c.from.ensures
    ∙ counted_bits c.args.count c.args.number c.args.kind c.requires.count c.requires.number c.requires.kind
