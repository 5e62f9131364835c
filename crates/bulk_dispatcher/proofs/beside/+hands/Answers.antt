-- The last hand's run goes to the end of the others'.
use Rattle.std.proofs.Common.{rules, ℕ, arith, map, All, length, ◌≡◌, ◌∷◌, [], ap, subst, ◌∙◌}
use Rattle.std.specs.List.{AllZip}
use Rattle.job_lanes.specs.Seats.{seat}
use Rattle.job_lanes.specs.Rest.{IsAtRest}
use Rattle.bulk_dispatcher.specs.Hands.{HandRan}
use Rattle.bulk_dispatcher.specs.Stops.{HandStopped, AtWork}
use Rattle.bulk_dispatcher.proofs.Ranks.{one_more, all_but_one}
use Rattle.bulk_dispatcher.proofs.beside.+hands.Goals as goal

pub join-run-requires-after_bounds : goal.join-run-requires-after_bounds
join-run-requires-after_bounds g t c κs within =
    let lane = g.L.Lane in
    let both = all_but_one (λ n desk. (map (λ s. seat (lane.pass_identity s.pass) (lane.pass_shape s.pass) (lane.callers s.pass)) desk.sessions.items ≡ map (λ x. seat (lane.identity x) (lane.lane_shape x) (n ∷ [])) c.args.lanes.now)
    × AllZip (λ number s. IsAtRest number n s) c.args.numbers.now desk.sessions.items
    × All (λ s. lane.seen s.pass ≡ []) desk.sessions.items) c.args.desks.items c.pop.new.self.items c.in-Some.desk c.in-Some.ensures.items c.requires.seated in
    let count : length c.pop.new.self.items ≡ c.len.result = omega (arith, c.len.ensures, c.pop.new.self.ok) in
    let seats : map (λ s. seat (lane.pass_identity s.pass) (lane.pass_shape s.pass) (lane.callers s.pass)) c.in-Some.desk.sessions.items ≡ map (λ x. seat (lane.identity x) (lane.lane_shape x) (c.len.result ∷ [])) c.args.lanes.now =
    both.1.0 ∙ ap (λ (n : ℕ). map (λ x. seat (lane.identity x) (lane.lane_shape x) (n ∷ [])) c.args.lanes.now) count in
    let rests : AllZip (λ number s. IsAtRest number c.len.result s) c.args.numbers.now c.in-Some.desk.sessions.items = subst (λ (n : ℕ). AllZip (λ number s. IsAtRest number n s) c.args.numbers.now c.in-Some.desk.sessions.items) count both.1.1 in
    let unseen : All (λ s. lane.seen s.pass ≡ []) c.in-Some.desk.sessions.items = both.1.2 in
    let others = both.0 in
    search rules

pub returns-clause-ran : goal.returns-clause-ran
returns-clause-ran g t c =
    let lane = g.L.Lane in
    one_more (λ n run. (map (λ s. seat (lane.pass_identity s.pass) (lane.pass_shape s.pass) (lane.callers s.pass)) run.desk.sessions.items ≡ map (λ x. seat (lane.identity x) (lane.lane_shape x) (n ∷ [])) c.args.lanes.now)
    × AllZip (λ number s. IsAtRest number n s) c.args.numbers.now run.desk.sessions.items
    × AtWork run.work (HandRan c.args.numbers.now c.args.jobs.now c.args.hands c.args.batch n (map (λ s. lane.seen s.pass) run.desk.sessions.items) run.replies.items) (HandStopped c.args.numbers.now c.args.jobs.now c.args.hands n (map (λ s. lane.seen s.pass) run.desk.sessions.items)))
    c.len.result c.in_ok-runs.runs.items c.push.new.self.items c.in_ok-run.run' (search rules) (search rules) (search rules) (search rules)
