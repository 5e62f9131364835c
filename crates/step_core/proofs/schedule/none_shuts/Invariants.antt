use Rattle.std.proofs.Common.{◌≡◌, drop}
use Rattle.step_core.specs.Commands.{none_shuts}
use Rattle.step_core.proofs.schedule.none_shuts.Given as goal

abbrev pub invariant-loop-op : goal.invariant-loop-op
invariant-loop-op l = none_shuts (drop l.op-index l.ops) ≡ none_shuts l.ops
