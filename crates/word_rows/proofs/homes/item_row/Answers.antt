use Rattle.std.proofs.Common.{◌<◌, ◌+◌, ◌*◌, ℕ, subst, sym, arith}
use Rattle.word_rows.specs.Sizes.{rows_of}
use Rattle.word_rows.proofs.HomeLemmas.{own_row-lt}
use Rattle.word_rows.proofs.homes.item_row.Goals as goal

pub returns-clause-is_a_row : goal.returns-clause-is_a_row
returns-clause-is_a_row c =
    let P : ℕ → Type 0 = λ own. 1 + c.args.caller * own + c.args.number < rows_of c.args.shape.now in
    let number = c.requires.number in
    subst P (sym c.own_rows.ensures) (own_row-lt c.args.shape.now c.args.caller c.args.number c.requires.caller (omega arith))
