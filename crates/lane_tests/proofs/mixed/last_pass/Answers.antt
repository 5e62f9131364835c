use Rattle.std.proofs.Common.{◌≡◌}
use Rattle.lane_tests.proofs.Lasts.{its_caller, others_left, all_left, last_too}
use Rattle.lane_tests.proofs.mixed.last_pass.Goals as goal

pub returns-clause-caller : goal.returns-clause-caller
returns-clause-caller g c = its_caller g.L.Lane.callers c.args.number c.args.passes.now.items c.pop.new.self.items c.pop.result c.requires.callers c.pop.ensures.items

pub returns-clause-its_lane : goal.returns-clause-its_lane
returns-clause-its_lane g c = last_too c.args.passes.now.items c.pop.new.self.items (λ p. g.L.Lane.pass_identity p ≡ g.L.Lane.identity c.args.lane.now) (λ p. g.L.Lane.pass_shape p ≡ g.L.Lane.lane_shape c.args.lane.now) c.pop.result c.requires.of_this_lane c.requires.of_this_shape c.pop.ensures.items

pub returns-clause-others : goal.returns-clause-others
returns-clause-others g c = others_left g.L.Lane.callers c.args.number c.args.passes.now.items c.pop.new.self.items c.pop.result c.requires.callers c.pop.ensures.items

pub returns-clause-of_this_lane : goal.returns-clause-of_this_lane
returns-clause-of_this_lane g c = all_left c.args.passes.now.items c.pop.new.self.items (λ p. g.L.Lane.pass_identity p ≡ g.L.Lane.identity c.args.lane.now) c.pop.result c.requires.of_this_lane c.pop.ensures.items

pub returns-clause-of_this_shape : goal.returns-clause-of_this_shape
returns-clause-of_this_shape g c = all_left c.args.passes.now.items c.pop.new.self.items (λ p. g.L.Lane.pass_shape p ≡ g.L.Lane.lane_shape c.args.lane.now) c.pop.result c.requires.of_this_shape c.pop.ensures.items
