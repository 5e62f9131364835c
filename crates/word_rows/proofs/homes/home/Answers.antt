use Rattle.std.proofs.Common.{Some, ap}
use Rattle.word_rows.specs.declared.homes.RowKind.TheVariants.{Dummy, Item, Stopper}
use Rattle.word_rows.proofs.HomeLemmas.{home-nobody, home-caller}
use Rattle.word_rows.proofs.homes.home.Goals as goal

pub returns-in-Dummy : goal.returns-in-Dummy
returns-in-Dummy c =
    let found = (c.row_kind.ensures Dummy).0 (ap (λ k. Some k) c.in-Dummy.is) in
    record {
      nobody_for_row_0 = home-nobody c.args.shape.now Dummy c.args.row found.0 found.1;
      the_caller_whose_row_it_is = home-caller c.args.shape.now Dummy c.args.row found.0 found.1;
    }

pub returns-in-Item : goal.returns-in-Item
returns-in-Item c =
    let found = (c.row_kind.ensures (Item c.in-Item.caller _)).0 (ap (λ k. Some k) c.in-Item.is) in
    record {
      nobody_for_row_0 = home-nobody c.args.shape.now (Item c.in-Item.caller _) c.args.row found.0 found.1;
      the_caller_whose_row_it_is = home-caller c.args.shape.now (Item c.in-Item.caller _) c.args.row found.0 found.1;
    }

pub returns-in-Stopper : goal.returns-in-Stopper
returns-in-Stopper c =
    let found = (c.row_kind.ensures (Stopper c.in-Stopper.caller _)).0 (ap (λ k. Some k) c.in-Stopper.is) in
    record {
      nobody_for_row_0 = home-nobody c.args.shape.now (Stopper c.in-Stopper.caller _) c.args.row found.0 found.1;
      the_caller_whose_row_it_is = home-caller c.args.shape.now (Stopper c.in-Stopper.caller _) c.args.row found.0 found.1;
    }
