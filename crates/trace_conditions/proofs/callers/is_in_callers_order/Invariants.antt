use Rattle.std.proofs.Common.{◌≡◌, ◌<◌, ℕ, get_or, length}
use Rattle.trace_conditions.specs.declared.stamped.Stamped.{Stamped}
use Rattle.trace_conditions.proofs.LatestOfCallers.{AreLatest}
use Rattle.trace_conditions.proofs.callers.is_in_callers_order.Given as goal

abbrev pub invariant-loop-op : goal.invariant-loop-op
invariant-loop-op l = record {
  length : length l.latest ≡ 17;
  ordered : (i j : ℕ) (d : Stamped) → i < j → j < l.op-index → (get_or l.ops i d).caller ≡ (get_or l.ops j d).caller → (get_or l.ops i d).made < (get_or l.ops j d).made;
  latest : AreLatest l.ops l.op-index l.latest;
}
