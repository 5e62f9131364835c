use Rattle.std.proofs.Common.{◌<◌, ◌-◌, ◌%◌, arith}
use Rattle.word_rows.specs.Sizes.{items_of, stoppers_of}
use Rattle.word_rows.specs.declared.homes.RowKind.TheVariants.{Item, Stopper}
use Rattle.word_rows.proofs.HomeLemmas.{own_row-found, row_kind-found}
use Rattle.word_rows.proofs.homes.row_kind.Goals as goal

pub returns-then-number-items : goal.returns-then-number-items
returns-then-number-items c =
    let found = own_row-found c.args.shape.now c.args.row _ c.own_rows-own.ensures c.if-row-eq0.false c.requires in
    let inside : (c.args.row - 1) % c.own_rows-own.result < items_of c.args.shape.now = omega arith in
    row_kind-found c.args.shape.now (Item _ _) c.args.row (found.0, inside) found.2

pub returns-else-number-items : goal.returns-else-number-items
returns-else-number-items c =
    let found = own_row-found c.args.shape.now c.args.row _ c.own_rows-own.ensures c.if-row-eq0.false c.requires in
    let below = found.1 in
    let is = found.2 in
    let inside : (c.args.row - 1) % c.own_rows-own.result - c.items-items.result < stoppers_of c.args.shape.now = omega arith in
    row_kind-found c.args.shape.now (Stopper _ _) c.args.row (found.0, inside) (omega arith)
