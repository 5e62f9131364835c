use Rattle.std.proofs.Common.{◌≡◌, ◌≤◌, ◌+◌, ◌∷◌, [], length, map, All, vec_len, vec_capacity}
use Rattle.std.specs.List.{range_with_len, AllZip}
use Rattle.bq_model.specs.Grows.{SawMore}
use Rattle.bq_model.specs.NoShut.{NeverShut}
use Rattle.bq_model.specs.Proper.{IsProper}
use Rattle.job_lanes.specs.Seats.{seat}
use Rattle.job_lanes.specs.Rows.{AtEach}
use Rattle.job_lanes.proofs.Rounds.{Gone}
use Rattle.job_lanes.proofs.lane_set.LaneSet.close.Given as goal

-- the desks have their sessions on the lanes that are left, and the others have gone to the books
abbrev pub invariant-loop-lane : goal.invariant-loop-lane
invariant-loop-lane g l =
    let lane = g.L.Lane in
    record {
      callers : All (λ x. (lane.lane_shape x).callers ≡ length l.fn.desks.items) l.lanes.items;
      seated : AllZip (λ c desk. (map (λ s. seat (lane.pass_identity s.pass) (lane.pass_shape s.pass) (lane.callers s.pass)) desk.sessions.items
          ≡ map (λ x. seat (lane.identity x) (lane.lane_shape x) (c ∷ [])) l.lanes.items)
          × All (λ s. s.pending ≡ []) desk.sessions.items)
          (range_with_len 0 (length l.fn.desks.items)) l.desks.items;
      gone : AtEach (λ c old now. Gone (λ s book. SawMore c (lane.seen s.pass) (lane.history book)) l.books.items old.sessions.items now.sessions.items) 0 l.fn.desks.items l.desks.items;
      proper : All (λ book. IsProper (length l.fn.desks.items) (lane.history book)) l.books.items;
      never_shut : All (λ book. NeverShut (lane.history book)) l.books.items;
      room : vec_len l.lanes + vec_len l.books ≤ vec_capacity l.books;
      one_each : length l.lanes.items + length l.books.items ≡ length l.fn.self.lanes.items;
    }

abbrev pub decreases-loop-lane : goal.decreases-loop-lane
decreases-loop-lane g l = length l.lanes.items
