use Rattle.lane_steps.specs.declared.act.Act.TheVariants.{Load}
use Rattle.lane_rule.proofs.FirstSteps.{first_on, first_valid, first_load_owes, first_read, first_moved}
use Rattle.lane_rule.proofs.steps.first_load.Goals as goal

pub index-requires : goal.index-requires
index-requires g c = first_valid _ _ _ _ _ _ _ c.requires.idle (Load c.args.location) c.requires.load

pub load-found-requires : goal.load-found-requires
load-found-requires g c = first_load_owes _ _ _ _ _ _ _ c.requires.idle c.index.result c.args.location c.index.ensures.by_the_layout c.requires.load

pub unwrap-requires : goal.unwrap-requires
unwrap-requires g c = let e = c.load-found.ensures in first_read _ _ _ _ _ _ _ c.requires.idle c.args.location c.load-found.result _ _ e.2 (first_on _ _ _ _ _ _ _ c.requires.idle (Load c.args.location) c.requires.load) c.unpack.ensures

pub returns : goal.returns
returns g c = first_moved _ _ _ _ _ _ _ c.requires.idle _ c.args.location c.load-found.result _ _ c.load-found.ensures (first_on _ _ _ _ _ _ _ c.requires.idle (Load c.args.location) c.requires.load) c.unpack.ensures c.unwrap.ensures
