use Rattle.std.proofs.Common.{◌≡◌, Some, subst}
use Rattle.lane_steps.specs.declared.point.CallEnd.TheVariants.{Done}
use Rattle.core_model.specs.Kept.{LastDone}
use Rattle.step_core.specs.Machine.{View, caller_at}
use Rattle.step_core.proofs.machine.Machine.answers.Goals as goal

pub returns-clause-of_a_command_that_was_done : goal.returns-clause-of_a_command_that_was_done
returns-clause-of_a_command_that_was_done c = subst (λ (v : View). (caller_at v c.args.caller).outcome ≡ Some Done → LastDone v.history c.args.caller (caller_at v c.args.caller)) c.self.view_is (c.self.invariant.roomy.lawful.callers c.args.caller).knows.last.done
