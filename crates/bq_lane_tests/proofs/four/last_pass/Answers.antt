use Rattle.std.proofs.Common.{◌≡◌}
use Rattle.bq_lane.specs.Pass.{PassState}
use Rattle.bq_lane_tests.proofs.Lasts.{its_caller, others_left, all_left, last_too}
use Rattle.bq_lane_tests.proofs.four.last_pass.Goals as goal

pub returns-clause-caller : goal.returns-clause-caller
returns-clause-caller c = its_caller (λ (p : PassState). p.callers) c.args.number c.args.passes.now.items c.pop.new.self.items c.pop.result c.requires.callers c.pop.ensures.items

pub returns-clause-its_lane : goal.returns-clause-its_lane
returns-clause-its_lane c = last_too c.args.passes.now.items c.pop.new.self.items (λ p. p.table ≡ c.args.lane.now.table) (λ p. p.shape ≡ c.args.lane.now.shape) c.pop.result c.requires.of_this_lane c.requires.of_this_shape c.pop.ensures.items

pub returns-clause-others : goal.returns-clause-others
returns-clause-others c = others_left (λ (p : PassState). p.callers) c.args.number c.args.passes.now.items c.pop.new.self.items c.pop.result c.requires.callers c.pop.ensures.items

pub returns-clause-of_this_lane : goal.returns-clause-of_this_lane
returns-clause-of_this_lane c = all_left c.args.passes.now.items c.pop.new.self.items (λ p. p.table ≡ c.args.lane.now.table) c.pop.result c.requires.of_this_lane c.pop.ensures.items

pub returns-clause-of_this_shape : goal.returns-clause-of_this_shape
returns-clause-of_this_shape c = all_left c.args.passes.now.items c.pop.new.self.items (λ p. p.shape ≡ c.args.lane.now.shape) c.pop.result c.requires.of_this_shape c.pop.ensures.items
