use Rattle.lane_steps.specs.declared.act.Act.TheVariants.{Store}
use Rattle.lane_rule.proofs.Seated.{is_valid, store_owes, store_packs}
use Rattle.lane_rule.proofs.StoreLaws.{stored_moves}
use Rattle.lane_rule.proofs.steps.store.Goals as goal

pub index-requires : goal.index-requires
index-requires c = is_valid _ _ _ _ _ _ c.requires.at (Store c.args.location c.args.new) c.requires.store

pub pack-requires : goal.pack-requires
pack-requires c = store_packs _ _ _ _ _ _ c.requires.at c.args.location c.args.new c.requires.store

pub store-requires : goal.store-requires
store-requires c = store_owes _ _ _ _ _ _ c.requires.at c.index.result c.args.location c.args.new c.pack.result c.index.ensures.by_the_layout c.requires.store c.pack.ensures

pub returns : goal.returns
returns c = let e = c.store.ensures in stored_moves _ _ _ _ _ _ _ c.args.location c.args.new e.2.0 c.requires.at c.requires.store (e.0, e.1, e.2.1, e.2.2)
