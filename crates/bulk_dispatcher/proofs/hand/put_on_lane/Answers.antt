use Rattle.std.proofs.Common.{◌≡◌, ℕ, [], ◌∷◌, map, get_or, subst, ◌∙◌, arith}
use Rattle.std.proofs.lemmas.List.{map-set}
use Rattle.job_lanes.specs.Seats.{seat}
use Rattle.bulk_dispatcher.specs.Hands.{Answered}
use Rattle.bulk_dispatcher.specs.Stops.{Serves}
use Rattle.bulk_dispatcher.proofs.Places.{ok_then, if_ok_both, there, at_map, same_there, still_told, rest_there, rest_own, rest_still}
use Rattle.bulk_dispatcher.proofs.Zips.{zip_length}
use Rattle.bulk_dispatcher.proofs.hand.put_on_lane.Goals as goal

pub put_unit-requires-clause-of_this_lane : goal.put_unit-requires-clause-of_this_lane
put_unit-requires-clause-of_this_lane g c κs within =
    let lane = g.L.Lane in
    let k = c.place_of-k.result in
    let count = zip_length _ c.args.numbers.now c.args.desk.now.sessions.items c.requires.at_rest in
    same_there (λ s. seat (lane.pass_identity s.pass) (lane.pass_shape s.pass) (lane.callers s.pass)) (λ x. seat (lane.identity x) (lane.lane_shape x) (c.args.hand ∷ []))
    c.args.desk.now.sessions.items c.args.lanes.now k c.session-session.result.now c.index-lanes-k.result c.requires.seats (omega (arith, count, c.place_of-k.ensures.within)) (omega (arith, c.requires.one_lane_each, c.place_of-k.ensures.within)) c.session-session.ensures.value c.index-lanes-k.is

pub put_unit-requires-clause-at_rest : goal.put_unit-requires-clause-at_rest
put_unit-requires-clause-at_rest g c κs within = rest_own (rest_there c.args.numbers.now c.args.hand c.args.desk.now.sessions.items c.place_of-k.result c.session-session.result.now c.requires.at_rest c.place_of-k.ensures.within c.session-session.ensures.value)

pub put_unit-requires-clause-serves : goal.put_unit-requires-clause-serves
put_unit-requires-clause-serves g c κs within =
    let lane = g.L.Lane in
    there (λ x. Serves (lane.lane_shape x)) c.args.lanes.now c.place_of-k.result c.index-lanes-k.result (omega (arith, c.requires.one_lane_each, c.place_of-k.ensures.within)) c.index-lanes-k.is c.requires.serve

pub returns-clause-seats : goal.returns-clause-seats
returns-clause-seats g c =
    let lane = g.L.Lane in
    ok_then c.put_unit.result (λ stays. still_told (λ s. seat (lane.pass_identity s.pass) (lane.pass_shape s.pass) (lane.callers s.pass)) c.args.desk.now.sessions.items _ c.place_of-k.result c.session-session.result.now c.put_unit.new.session c.requires.seats c.session-session.ensures.value stays) c.put_unit.ensures.seat_stays

pub returns-clause-at_rest : goal.returns-clause-at_rest
returns-clause-at_rest g c =
    ok_then c.put_unit.result (rest_still c.args.numbers.now c.args.hand c.args.desk.now.sessions.items c.place_of-k.result c.session-session.result.now c.put_unit.new.session c.requires.at_rest c.place_of-k.ensures.within c.session-session.ensures.value) c.put_unit.ensures.at_rest

pub returns-clause-put : goal.returns-clause-put
returns-clause-put g c =
    let lane = g.L.Lane in
    let k = c.place_of-k.result in
    let session = c.session-session.result.now in
    let rest = rest_there c.args.numbers.now c.args.hand c.args.desk.now.sessions.items k session c.requires.at_rest c.place_of-k.ensures.within c.session-session.ensures.value in
    let number : session.futures.lane ≡ c.args.lane = rest.lane ∙ c.place_of-k.ensures.found in
    let count = zip_length _ c.args.numbers.now c.args.desk.now.sessions.items c.requires.at_rest in
    let same : get_or (map (λ s. lane.seen s.pass) c.args.desk.now.sessions.items) k [] ≡ lane.seen session.pass = at_map (λ s. lane.seen s.pass) c.args.desk.now.sessions.items k [] session (omega (arith, count, c.place_of-k.ensures.within)) c.session-session.ensures.value in
    if_ok_both c.put_unit.result (λ work puts answered. record {
      place = k;
      within = c.place_of-k.ensures.within;
      found = c.place_of-k.ensures.found;
      seen = lane.seen c.put_unit.new.session.pass;
      changed = map-set (λ s. lane.seen s.pass) c.args.desk.now.sessions.items k c.put_unit.new.session;
      holds = rw same (puts, subst (λ (n : ℕ). Answered c.args.jobs.now n c.args.hand (lane.seen session.pass) (lane.seen c.put_unit.new.session.pass) c.args.replies.now.items c.put_unit.new.replies.items) number answered);
    }) c.put_unit.ensures.put c.put_unit.ensures.answered
