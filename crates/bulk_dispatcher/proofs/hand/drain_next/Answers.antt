use Rattle.std.proofs.Common.{◌≡◌, ℕ, [], ◌∷◌, map, get_or, refl, subst, arith}
use Rattle.std.proofs.lemmas.List.{map-set}
use Rattle.job_lanes.specs.Seats.{seat}
use Rattle.bulk_dispatcher.specs.Hands.{Answered}
use Rattle.bulk_dispatcher.specs.Stops.{Serves}
use Rattle.bulk_dispatcher.proofs.Places.{ok_then, if_ok_both, there, at_map, same_there, still_told, rest_there, rest_own, rest_still}
use Rattle.bulk_dispatcher.proofs.Zips.{zip_length}
use Rattle.bulk_dispatcher.proofs.hand.drain_next.Goals as goal

pub drain-requires-clause-of_this_lane : goal.drain-requires-clause-of_this_lane
drain-requires-clause-of_this_lane g c κs within =
    let lane = g.L.Lane in
    let k = c.args.k in
    let count = zip_length _ c.args.numbers.now c.args.desk.now.sessions.items c.requires.at_rest in
    same_there (λ s. seat (lane.pass_identity s.pass) (lane.pass_shape s.pass) (lane.callers s.pass)) (λ x. seat (lane.identity x) (lane.lane_shape x) (c.args.part.hand ∷ []))
    c.args.desk.now.sessions.items c.args.lanes.now k c.session-session.result.now c.index-lanes-k.result c.requires.seats (omega (arith, count, c.requires.place)) (omega (arith, c.requires.one_lane_each, c.requires.place)) c.session-session.ensures.value c.index-lanes-k.is

pub drain-requires-clause-at_rest : goal.drain-requires-clause-at_rest
drain-requires-clause-at_rest g c κs within = rest_own (rest_there c.args.numbers.now c.args.part.hand c.args.desk.now.sessions.items c.args.k c.session-session.result.now c.requires.at_rest c.requires.place c.session-session.ensures.value)

pub drain-requires-clause-serves : goal.drain-requires-clause-serves
drain-requires-clause-serves g c κs within =
    let lane = g.L.Lane in
    there (λ x. Serves (lane.lane_shape x)) c.args.lanes.now c.args.k c.index-lanes-k.result (omega (arith, c.requires.one_lane_each, c.requires.place)) c.index-lanes-k.is c.requires.serve

pub returns-clause-seats : goal.returns-clause-seats
returns-clause-seats g c =
    let lane = g.L.Lane in
    ok_then c.drain.result (λ stays. still_told (λ s. seat (lane.pass_identity s.pass) (lane.pass_shape s.pass) (lane.callers s.pass)) c.args.desk.now.sessions.items _ c.args.k c.session-session.result.now c.drain.new.session c.requires.seats c.session-session.ensures.value stays) c.drain.ensures.seat_stays

pub returns-clause-at_rest : goal.returns-clause-at_rest
returns-clause-at_rest g c =
    ok_then c.drain.result (rest_still c.args.numbers.now c.args.part.hand c.args.desk.now.sessions.items c.args.k c.session-session.result.now c.drain.new.session c.requires.at_rest c.requires.place c.session-session.ensures.value) c.drain.ensures.at_rest

pub returns-clause-drained : goal.returns-clause-drained
returns-clause-drained g c =
    let lane = g.L.Lane in
    let k = c.args.k in
    let session = c.session-session.result.now in
    let rest = rest_there c.args.numbers.now c.args.part.hand c.args.desk.now.sessions.items k session c.requires.at_rest c.requires.place c.session-session.ensures.value in
    let number : session.futures.lane ≡ get_or c.args.numbers.now c.args.k 0 = rest.lane in
    let count = zip_length _ c.args.numbers.now c.args.desk.now.sessions.items c.requires.at_rest in
    let same : get_or (map (λ s. lane.seen s.pass) c.args.desk.now.sessions.items) k [] ≡ lane.seen session.pass = at_map (λ s. lane.seen s.pass) c.args.desk.now.sessions.items k [] session (omega (arith, count, c.requires.place)) c.session-session.ensures.value in
    if_ok_both c.drain.result (λ work puts answered. record {
      place = k;
      within = c.requires.place;
      found = refl;
      seen = lane.seen c.drain.new.session.pass;
      changed = map-set (λ s. lane.seen s.pass) c.args.desk.now.sessions.items k c.drain.new.session;
      holds = rw same (puts, subst (λ (n : ℕ). Answered c.args.jobs.now n c.args.part.hand (lane.seen session.pass) (lane.seen c.drain.new.session.pass) c.args.replies.now.items c.drain.new.replies.items) number answered);
    }) c.drain.ensures.ends c.drain.ensures.answered
