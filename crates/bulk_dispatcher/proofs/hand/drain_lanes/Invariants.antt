use Rattle.std.proofs.Common.{◌≡◌, ◌<◌, ◌≤◌, ◌*◌, length, ℕ, ◌∷◌, [], map, get_or}
use Rattle.std.specs.List.{AllZip}
use Rattle.job_lanes.specs.Seats.{seat}
use Rattle.job_lanes.specs.Rest.{IsAtRest}
use Rattle.bulk_dispatcher.specs.Hands.{units_of, HandPut, EndedEmpty, HasReplied, found_nothing_by}
use Rattle.bulk_dispatcher.proofs.hand.drain_lanes.Given as goal

-- the lanes so far are drained, and on the others few dequeues found nothing
abbrev pub invariant-loop-k : goal.invariant-loop-k
invariant-loop-k g l =
    let lane = g.L.Lane in
    record {
      seats : map (λ s. seat (lane.pass_identity s.pass) (lane.pass_shape s.pass) (lane.callers s.pass)) l.desk.sessions.items ≡ map (λ x. seat (lane.identity x) (lane.lane_shape x) (l.part.hand ∷ [])) l.lanes;
      at_rest : AllZip (λ number s. IsAtRest number l.part.hand s) l.numbers l.desk.sessions.items;
      put : AllZip (λ n h. HandPut (units_of l.jobs l.part.hands n l.part.hand) l.part.hand h) l.numbers (map (λ s. lane.seen s.pass) l.desk.sessions.items);
      ended : (j : ℕ) → j < l.k → EndedEmpty l.part.batch l.part.hand (get_or (map (λ s. lane.seen s.pass) l.desk.sessions.items) j []);
      fresh : (j : ℕ) → l.k ≤ j → found_nothing_by (get_or (map (λ s. lane.seen s.pass) l.desk.sessions.items) j []) l.part.hand ≤ 256 * length l.jobs;
      replied : HasReplied l.jobs l.numbers l.part.hand (map (λ s. lane.seen s.pass) l.desk.sessions.items) l.replies.items;
    }
