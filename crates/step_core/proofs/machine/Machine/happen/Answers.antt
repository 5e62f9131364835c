use Rattle.std.proofs.Common.{List, ltb, ap, sym, ◌∙◌, subst}
use Rattle.bq_model.specs.declared.op.Op.{Op}
use Rattle.lane_steps.specs.Start.{IsCommand}
use Rattle.step_core.specs.declared.schedule.Event.{Event}
use Rattle.step_core.specs.Commands.{is_command}
use Rattle.step_core.specs.Due.{is_idle}
use Rattle.step_core.specs.Machine.{state_at}
use Rattle.step_core.specs.Schedule.{cause_of}
use Rattle.step_core.proofs.Begins.{command_is}
use Rattle.step_core.proofs.Runs.{start_taken}
use Rattle.step_core.proofs.machine.Machine.happen.Goals as goal

pub start-requires-clause-command : goal.start-requires-clause-command
start-requires-clause-command c =
    let none = ap (λ (e : Event). cause_of c.args.self.now.shape (state_at c.args.self.now) e) (sym c.in-Start.is) ∙ c.requires in
    let takes = start_taken (ltb c.in-Start.caller c.args.self.now.shape.callers) (is_command c.args.self.now.shape.batch c.in-Start.ops) (is_idle ((state_at c.args.self.now).callers c.in-Start.caller).point) none in
    subst (λ (ops : List Op). IsCommand ops) (sym c.as_slice.ensures) (command_is c.args.self.now.shape.batch c.in-Start.ops takes).0
