use Rattle.lane_steps.specs.declared.act.Act.TheVariants.{Load}
use Rattle.lane_rule.proofs.Seated.{on, is_valid, load_owes, is_read, moved}
use Rattle.lane_rule.proofs.steps.load.Goals as goal

pub index-requires : goal.index-requires
index-requires c = is_valid _ _ _ _ _ _ c.requires.at (Load c.args.location) c.requires.load

pub load-found-requires : goal.load-found-requires
load-found-requires c = load_owes _ _ _ _ _ _ c.requires.at c.index.result c.args.location c.index.ensures.by_the_layout c.requires.load

pub unwrap-requires : goal.unwrap-requires
unwrap-requires c = let e = c.load-found.ensures in is_read _ _ _ _ _ _ c.requires.at c.args.location c.load-found.result _ _ e.2 (on _ _ _ _ _ _ c.requires.at (Load c.args.location) c.requires.load) c.unpack.ensures

pub returns : goal.returns
returns c = moved _ _ _ _ _ _ c.requires.at _ c.args.location c.load-found.result _ _ c.load-found.ensures (on _ _ _ _ _ _ c.requires.at (Load c.args.location) c.requires.load) c.unpack.ensures c.unwrap.ensures
