use Rattle.std.proofs.Common.{◌<◌, ℕ, ◌≤◌, get_or}
use Rattle.trace_conditions.specs.declared.stamped.Stamped.{Stamped}
use Rattle.trace_conditions.specs.Stamps.{IsBefore}
use Rattle.trace_conditions.specs.Conditions.{stamp_of}
use Rattle.trace_conditions.proofs.LatestMade.{IsLatest}
use Rattle.trace_conditions.proofs.ahead.are_ahead.Given as goal

abbrev pub invariant-loop-op : goal.invariant-loop-op
invariant-loop-op l = record {
  ahead : (i j : ℕ) (d : Stamped) → i ≤ j → j < l.op-index → IsBefore (get_or l.ops i d).made (stamp_of l.stamp (get_or l.ops j d));
  latest : IsLatest l.ops l.op-index l.latest;
}
