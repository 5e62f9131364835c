use Rattle.std.proofs.Common.{◌≡◌, ◌+◌, ◌∷◌, [], length, map, take, All}
use Rattle.std.specs.List.{range_with_len, AllZip}
use Rattle.job_lanes.specs.Seats.{seat, IsForHands}
use Rattle.job_lanes.specs.Rest.{IsAtRest}
use Rattle.job_lanes.proofs.lane_set.LaneSet.make.Given as goal

-- each desk has its sessions on the lanes so far
abbrev pub invariant-loop-number : goal.invariant-loop-number
invariant-loop-number g l =
    let lane = g.L.Lane in
    record {
      count : length l.lanes.items ≡ l.number-index;
      shapes : All (λ x. IsForHands l.hands (lane.lane_shape x)) l.lanes.items;
      desks : length l.desks.items ≡ l.hands + 1;
      seated : AllZip (λ c desk. AllZip (λ number s. IsAtRest number c s) (take l.number-index l.numbers) desk.sessions.items
          × (map (λ s. seat (lane.pass_identity s.pass) (lane.pass_shape s.pass) (lane.callers s.pass)) desk.sessions.items
          ≡ map (λ x. seat (lane.identity x) (lane.lane_shape x) (c ∷ [])) l.lanes.items)
          × All (λ s. lane.seen s.pass ≡ []) desk.sessions.items)
          (range_with_len 0 (l.hands + 1)) l.desks.items;
    }
