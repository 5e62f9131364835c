use Rattle.std.proofs.Common.{◌<◌, ◌+◌, ◌*◌, ℕ, subst, sym, arith}
use Rattle.word_rows.specs.Sizes.{items_of, rows_of}
use Rattle.word_rows.proofs.HomeLemmas.{own_row-lt}
use Rattle.word_rows.proofs.homes.stopper_row.Goals as goal

pub returns-clause-is_a_row : goal.returns-clause-is_a_row
returns-clause-is_a_row c =
    let P : ℕ → Type 0 = λ own. 1 + c.args.caller * own + c.items.result + c.args.number < rows_of c.args.shape.now in
    let number = c.requires.number in
    let below = own_row-lt c.args.shape.now c.args.caller (items_of c.args.shape.now + c.args.number) c.requires.caller (omega arith) in
    subst P (sym c.own_rows.ensures) (omega arith)
