use Rattle.std.proofs.Common.{◌≡◌, ◌≤◌, ◌∷◌, [], length, map, All}
use Rattle.std.specs.List.{range_with_len}
use Rattle.job_lanes.specs.Seats.{seat}
use Rattle.job_lanes.specs.Rest.{IsAtRest}
use Rattle.job_lanes.specs.Rows.{Longer}
use Rattle.job_lanes.proofs.Dealing.{Dealt}
use Rattle.job_lanes.proofs.seating.seat_all.Given as goal

-- the desks of the callers whose passes are left are as they were, and the others have their sessions
abbrev pub invariant-loop-pass : goal.invariant-loop-pass
invariant-loop-pass g l =
    let lane = g.L.Lane in
    record {
      fewer : length l.passes.items ≤ length l.fn.desks.items;
      callers : map lane.callers l.passes.items ≡ map (λ c. c ∷ []) (range_with_len 0 (length l.passes.items));
      of_this_lane : All (λ pass. lane.pass_identity pass ≡ lane.identity l.lane) l.passes.items;
      of_this_shape : All (λ pass. lane.pass_shape pass ≡ lane.lane_shape l.lane) l.passes.items;
      nothing_seen : All (λ pass. lane.seen pass ≡ []) l.passes.items;
      dealt : Dealt (λ c old new. Longer
          (λ s. (seat (lane.pass_identity s.pass) (lane.pass_shape s.pass) (lane.callers s.pass) ≡ seat (lane.identity l.lane) (lane.lane_shape l.lane) (c ∷ []))
          × (lane.seen s.pass ≡ []) × IsAtRest l.number c s)
          new.sessions.items old.sessions.items) (length l.passes.items) l.fn.desks.items l.desks.items;
    }

abbrev pub decreases-loop-pass : goal.decreases-loop-pass
decreases-loop-pass g l = length l.passes.items
