use Rattle.lane_steps.specs.declared.act.Act.TheVariants.{Exchange}
use Rattle.lane_rule.proofs.Seated.{on, is_valid, exchange_owes, old_packs, new_packs, is_read, moved}
use Rattle.lane_rule.proofs.steps.exchange.Goals as goal

pub index-requires : goal.index-requires
index-requires c = is_valid _ _ _ _ _ _ c.requires.at (Exchange c.args.location c.args.old c.args.new) c.requires.exchange

pub pack-requires : goal.pack-requires
pack-requires c = old_packs _ _ _ _ _ _ c.requires.at c.args.location c.args.old c.args.new c.requires.exchange

pub pack-requires-2 : goal.pack-requires-2
pack-requires-2 c = new_packs _ _ _ _ _ _ c.requires.at c.args.location c.args.old c.args.new c.requires.exchange

pub compare_exchange-found-requires : goal.compare_exchange-found-requires
compare_exchange-found-requires c = exchange_owes _ _ _ _ _ _ c.requires.at c.index.result c.args.location c.args.old c.args.new c.pack.result c.pack-2.result c.index.ensures.by_the_layout c.requires.exchange c.pack.ensures c.pack-2.ensures

pub unwrap-requires : goal.unwrap-requires
unwrap-requires c = let e = c.compare_exchange-found.ensures in is_read _ _ _ _ _ _ c.requires.at c.args.location c.compare_exchange-found.result _ _ e.2 (on _ _ _ _ _ _ c.requires.at (Exchange c.args.location c.args.old c.args.new) c.requires.exchange) c.unpack.ensures

pub returns : goal.returns
returns c = moved _ _ _ _ _ _ c.requires.at _ c.args.location c.compare_exchange-found.result _ _ c.compare_exchange-found.ensures (on _ _ _ _ _ _ c.requires.at (Exchange c.args.location c.args.old c.args.new) c.requires.exchange) c.unpack.ensures c.unwrap.ensures
