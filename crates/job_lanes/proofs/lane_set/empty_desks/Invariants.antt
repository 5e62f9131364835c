use Rattle.std.proofs.Common.{◌≡◌, [], length, All}
use Rattle.job_lanes.proofs.lane_set.empty_desks.Given as goal

abbrev pub invariant-loop : goal.invariant-loop
invariant-loop g l = record {
  count : length l.desks.items ≡ l.counter;
  empty : All (λ desk. desk.sessions.items ≡ []) l.desks.items;
}
