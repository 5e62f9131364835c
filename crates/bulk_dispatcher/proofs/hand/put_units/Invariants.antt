use Rattle.std.proofs.Common.{◌≡◌, ◌∷◌, [], map, take}
use Rattle.std.specs.List.{AllZip}
use Rattle.job_text.specs.JobFile.{job_count}
use Rattle.job_lanes.specs.Seats.{seat}
use Rattle.job_lanes.specs.Rest.{IsAtRest}
use Rattle.bulk_dispatcher.specs.Hands.{units_of, HasReplied}
use Rattle.bulk_dispatcher.specs.Stops.{HandTried}
use Rattle.bulk_dispatcher.proofs.hand.put_units.Given as goal

-- the hand has put those of the units so far that are its own
abbrev pub invariant-loop-place : goal.invariant-loop-place
invariant-loop-place g l =
    let lane = g.L.Lane in
    record {
      first : l.first ≡ job_count (take l.place l.jobs);
      seats : map (λ s. seat (lane.pass_identity s.pass) (lane.pass_shape s.pass) (lane.callers s.pass)) l.desk.sessions.items ≡ map (λ x. seat (lane.identity x) (lane.lane_shape x) (l.part.hand ∷ [])) l.lanes;
      at_rest : AllZip (λ number s. IsAtRest number l.part.hand s) l.numbers l.desk.sessions.items;
      put : AllZip (λ n h. HandTried (units_of (take l.place l.jobs) l.part.hands n l.part.hand) l.part.hand h) l.numbers (map (λ s. lane.seen s.pass) l.desk.sessions.items);
      replied : HasReplied l.jobs l.numbers l.part.hand (map (λ s. lane.seen s.pass) l.desk.sessions.items) l.replies.items;
    }
