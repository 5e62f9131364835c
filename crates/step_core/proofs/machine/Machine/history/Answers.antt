use Rattle.std.proofs.Common.{subst}
use Rattle.lane_steps.specs.LaneSizes.{lane_sizes}
use Rattle.core_model.specs.Lawful.{Lawful}
use Rattle.step_core.specs.Machine.{View, state_at}
use Rattle.step_core.proofs.machine.Machine.history.Goals as goal

pub returns-clause-lawful : goal.returns-clause-lawful
returns-clause-lawful c = subst (λ (v : View). Lawful (lane_sizes v.shape) (state_at v)) c.self.view_is c.self.invariant.roomy.lawful
