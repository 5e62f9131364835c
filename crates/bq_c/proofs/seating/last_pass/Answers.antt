use Rattle.std.proofs.Common.{◌≡◌, [], length}
use Rattle.std.specs.Arc.{arc_value}
use Rattle.bq_lane.specs.Pass.{PassState}
use Rattle.bq_c.proofs.Lasts.{all_left, last_too, both_too, one_less, map_last}
use Rattle.bq_c.proofs.seating.last_pass.Goals as goal

pub returns-clause-its_lane : goal.returns-clause-its_lane
returns-clause-its_lane c = both_too c.args.passes.now.items c.pop.new.self.items (λ p. p.table ≡ (arc_value c.args.lane.now).table) (λ p. p.shape ≡ (arc_value c.args.lane.now).shape) c.pop.result c.requires.table c.requires.shape c.pop.ensures.items

pub returns-clause-its_caller : goal.returns-clause-its_caller
returns-clause-its_caller c = last_too c.args.passes.now.items c.pop.new.self.items (λ p. length p.callers ≡ 1) c.pop.result c.requires.one_caller c.pop.ensures.items

pub returns-clause-table : goal.returns-clause-table
returns-clause-table c = all_left c.args.passes.now.items c.pop.new.self.items (λ p. p.table ≡ (arc_value c.args.lane.now).table) c.pop.result c.requires.table c.pop.ensures.items

pub returns-clause-shape : goal.returns-clause-shape
returns-clause-shape c = all_left c.args.passes.now.items c.pop.new.self.items (λ p. p.shape ≡ (arc_value c.args.lane.now).shape) c.pop.result c.requires.shape c.pop.ensures.items

pub returns-clause-one_caller : goal.returns-clause-one_caller
returns-clause-one_caller c = all_left c.args.passes.now.items c.pop.new.self.items (λ p. length p.callers ≡ 1) c.pop.result c.requires.one_caller c.pop.ensures.items

pub returns-clause-one_less : goal.returns-clause-one_less
returns-clause-one_less c = one_less c.args.passes.now.items c.pop.new.self.items c.pop.result c.pop.ensures.items

pub returns-clause-it_saw_nothing : goal.returns-clause-it_saw_nothing
returns-clause-it_saw_nothing c = last_too c.args.passes.now.items c.pop.new.self.items (λ p. p.seen ≡ []) c.pop.result c.requires.nothing_seen c.pop.ensures.items

pub returns-clause-nothing_seen : goal.returns-clause-nothing_seen
returns-clause-nothing_seen c = all_left c.args.passes.now.items c.pop.new.self.items (λ p. p.seen ≡ []) c.pop.result c.requires.nothing_seen c.pop.ensures.items

pub returns-clause-callers : goal.returns-clause-callers
returns-clause-callers c = map_last (λ (p : PassState). p.callers) c.args.passes.now.items c.pop.new.self.items c.pop.result c.pop.ensures.items
