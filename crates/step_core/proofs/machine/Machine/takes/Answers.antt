use Rattle.std.proofs.Common.{rules, sym, ◌∙◌}
use Rattle.step_core.proofs.Shuts.{no_shut}
use Rattle.step_core.proofs.machine.Machine.takes.Goals as goal

pub returns-then-ops-batch-clause-can_start : goal.returns-then-ops-batch-clause-can_start
returns-then-ops-batch-clause-can_start c = λ is. ((search rules, no_shut c.args.ops.now (sym c.none_shuts.ensures ∙ is)), search rules)
