use Rattle.std.proofs.Common.{◌≡◌, ◌+◌, length}
use Rattle.std.specs.List.{range_with_len}
use Rattle.bq_model.specs.Grows.{SawMore}
use Rattle.job_lanes.specs.Rows.{Longer}
use Rattle.job_lanes.proofs.Dealing.{Dealt}
use Rattle.job_lanes.proofs.seating.close_last.Given as goal

-- the pass holds the callers from `at` on, and goes on what each of them had seen
abbrev pub invariant-loop-at : goal.invariant-loop-at
invariant-loop-at g l =
    let lane = g.L.Lane in
    record {
      identity : lane.pass_identity l.all ≡ lane.identity l.lane;
      shape : lane.pass_shape l.all ≡ lane.lane_shape l.lane;
      callers : lane.callers l.all ≡ range_with_len l.at (length (lane.callers l.all));
      all : length (lane.callers l.all) + l.at ≡ length l.fn.desks.items;
      dealt : Dealt (λ c old new. Longer (λ s. SawMore c (lane.seen s.pass) (lane.seen l.all)) old.sessions.items new.sessions.items) l.at l.fn.desks.items l.desks.items;
    }

abbrev pub decreases-loop-at : goal.decreases-loop-at
decreases-loop-at g l = l.at
