use Rattle.std.proofs.Common.{◌≢◌, sym, ap, subst, ◌∙◌}
use Rattle.lane_steps.specs.declared.point.Point.TheVariants.{Idle}
use Rattle.lane_steps.specs.State.{State}
use Rattle.lane_steps.specs.LaneSizes.{lane_sizes}
use Rattle.lane_steps.specs.Start.{start}
use Rattle.step_core.specs.Machine.{state_at}
use Rattle.step_core.proofs.Begins.{start_runs}
use Rattle.step_core.proofs.machine.Machine.start.Goals as goal

pub returns-clause-running : goal.returns-clause-running
returns-clause-running c = λ is. c.start.ensures.running is ∙ λ i. start (lane_sizes (c.self.view_is i).shape) (state_at (c.self.view_is i)) c.args.caller c.args.ops.now

pub returns-clause-runs : goal.returns-clause-runs
returns-clause-runs c = λ is. let v = c.args.self.now in let who = c.args.caller in
    subst (λ (s : State). (s.callers who).point ≢ Idle) (sym (returns-clause-running c is)) (start_runs (lane_sizes v.shape) (state_at v) who c.args.ops.now c.requires.command)

pub returns-clause-refusal_changes_nothing : goal.returns-clause-refusal_changes_nothing
returns-clause-refusal_changes_nothing c = λ no. c.start.ensures.refusal no ∙ ap state_at c.self.view_is
