use Rattle.lane_steps.specs.declared.act.Act.TheVariants.{Join}
use Rattle.word_rows.specs.declared.location.Location.TheVariants.{Mark}
use Rattle.lane_rule.proofs.Seated.{on, is_valid, join_owes, is_read, moved}
use Rattle.lane_rule.proofs.steps.join.Goals as goal

pub index-requires : goal.index-requires
index-requires c = is_valid _ _ _ _ _ _ c.requires.at (Join c.args.row c.args.marks) c.requires.join

pub fetch_or-found-requires : goal.fetch_or-found-requires
fetch_or-found-requires c = join_owes _ _ _ _ _ _ c.requires.at c.index.result c.args.row c.args.marks c.pack.result c.index.ensures.by_the_layout c.requires.join c.pack.ensures

pub unwrap-requires : goal.unwrap-requires
unwrap-requires c = let e = c.fetch_or-found.ensures in is_read _ _ _ _ _ _ c.requires.at (Mark c.args.row) c.fetch_or-found.result _ _ e.2 (on _ _ _ _ _ _ c.requires.at (Join c.args.row c.args.marks) c.requires.join) c.unpack.ensures

pub returns : goal.returns
returns c = moved _ _ _ _ _ _ c.requires.at _ (Mark c.args.row) c.fetch_or-found.result _ _ c.fetch_or-found.ensures (on _ _ _ _ _ _ c.requires.at (Join c.args.row c.args.marks) c.requires.join) c.unpack.ensures c.unwrap.ensures
