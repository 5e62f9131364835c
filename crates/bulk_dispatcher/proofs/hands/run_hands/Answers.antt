use Rattle.std.proofs.Common.{◌≡◌, ◌+◌, ◌++◌, ◌∷◌, ℕ, List, [], length, map, All, refl, sym, ap, subst, ◌∙◌, arith, length-append}
use Rattle.std.specs.List.{AllZip, range_with_len, flat_map, list_any}
use Rattle.std.specs.List.Sorted.{IsPermutation}
use Rattle.std.proofs.lemmas.List.{length-map, map-append}
use Rattle.std.proofs.lemmas.List.Elements.{All-from_recursion, All-weaker, All-same, All-push, All-map}
use Rattle.bq_model.specs.declared.group.Group.{Group}
use Rattle.bq_model.specs.NoShut.{NeverShut}
use Rattle.bq_model.specs.Proper.{IsProper}
use Rattle.bq_model.specs.Grows.{SawMore}
use Rattle.job_lanes.specs.Seats.{seat, IsForHands}
use Rattle.job_lanes.specs.Rest.{IsAtRest}
use Rattle.bulk_dispatcher.specs.declared.reply.Reply.{Reply}
use Rattle.bulk_dispatcher.specs.Books.{lanes_of}
use Rattle.bulk_dispatcher.specs.Hands.{HandRan, Run}
use Rattle.bulk_dispatcher.specs.Stops.{Serves, HandStopped, has_stopped}
use Rattle.bulk_dispatcher.proofs.Stopped.{none_stopped, ran_of, map_twice}
use Rattle.bulk_dispatcher.proofs.Lanes.{rise_of, climb_of, low_of, known_of}
use Rattle.bulk_dispatcher.proofs.Ranks.{one_more, all_but_one}
use Rattle.bulk_dispatcher.proofs.Finish.{units_low, IsFinished, finished, begun_rows, zip_three, zip_mapped, zip_told, pieces_mapped, maps_same, as_shown}
use Rattle.bulk_dispatcher.proofs.Zips.{zip_weaker}
use Rattle.bulk_dispatcher.proofs.hands.run_hands.Goals as goal

pub make-requires-clause-numbers_rise : goal.make-requires-clause-numbers_rise
make-requires-clause-numbers_rise g c κs within = rise_of c.args.jobs.now c.deref.result.now (c.deref.ensures.value ∙ c.in_ok-numbers.ensures)

pub make-requires-clause-are_lane_numbers : goal.make-requires-clause-are_lane_numbers
make-requires-clause-are_lane_numbers g c κs within = low_of c.args.jobs.now c.deref.result.now (c.deref.ensures.value ∙ c.in_ok-numbers.ensures)

pub run_beside-requires-clause-rise : goal.run_beside-requires-clause-rise
run_beside-requires-clause-rise g c κs within = climb_of c.args.jobs.now c.deref-2.result.now (c.deref-2.ensures.value ∙ c.in_ok-numbers.ensures)

pub run_beside-requires-clause-known : goal.run_beside-requires-clause-known
run_beside-requires-clause-known g c κs within = known_of c.args.jobs.now c.deref-2.result.now (c.deref-2.ensures.value ∙ c.in_ok-numbers.ensures) (units_low c.args.jobs.now c.count-count.ensures.ranges)

pub run_beside-requires-clause-seated : goal.run_beside-requires-clause-seated
run_beside-requires-clause-seated g c κs within =
    let lane = g.L.Lane in
    let made = c.in_ok-set.ensures in
    let lanes_are : c.deref.result.now ≡ lanes_of c.args.jobs.now = c.deref.ensures.value ∙ c.in_ok-numbers.ensures in
    let all = zip_three (λ n desk. map (λ s. seat (lane.pass_identity s.pass) (lane.pass_shape s.pass) (lane.callers s.pass)) desk.sessions.items ≡ map (λ x. seat (lane.identity x) (lane.lane_shape x) (n ∷ [])) c.in_ok-set.set.lanes.items) (λ n desk. AllZip (λ number s. IsAtRest number n s) c.deref.result.now desk.sessions.items) (λ desk. All (λ s. lane.seen s.pass ≡ []) desk.sessions.items) (range_with_len 0 (c.args.hands + 1)) c.in_ok-set.desks.items made.seats made.at_rest made.nothing_seen in
    let both = all_but_one (λ n desk. (map (λ s. seat (lane.pass_identity s.pass) (lane.pass_shape s.pass) (lane.callers s.pass)) desk.sessions.items ≡ map (λ x. seat (lane.identity x) (lane.lane_shape x) (n ∷ [])) c.in_ok-set.set.lanes.items) × AllZip (λ number s. IsAtRest number n s) c.deref.result.now desk.sessions.items × All (λ s. lane.seen s.pass ≡ []) desk.sessions.items) c.in_ok-set.desks.items c.pop.new.self.items c.in-Some.own c.in-Some.ensures.items (subst (λ (k : ℕ). AllZip (λ n desk. (map (λ s. seat (lane.pass_identity s.pass) (lane.pass_shape s.pass) (lane.callers s.pass)) desk.sessions.items ≡ map (λ x. seat (lane.identity x) (lane.lane_shape x) (n ∷ [])) c.in_ok-set.set.lanes.items) × AllZip (λ number s. IsAtRest number n s) c.deref.result.now desk.sessions.items × All (λ s. lane.seen s.pass ≡ []) desk.sessions.items) (range_with_len 0 k) c.in_ok-set.desks.items) (sym made.desks) all) in
    let count : length c.pop.new.self.items ≡ c.args.hands = let n = ap length c.in-Some.ensures.items ∙ length-append c.pop.new.self.items (c.in-Some.own ∷ []) in let m = made.desks in omega (arith, n, m) in
    subst (λ xs. AllZip (λ n desk. (map (λ s. seat (lane.pass_identity s.pass) (lane.pass_shape s.pass) (lane.callers s.pass)) desk.sessions.items ≡ map (λ x. seat (lane.identity x) (lane.lane_shape x) (n ∷ [])) xs) × AllZip (λ number s. IsAtRest number n s) c.deref-2.result.now desk.sessions.items × All (λ s. lane.seen s.pass ≡ []) desk.sessions.items) (range_with_len 0 (length c.pop.new.self.items)) c.pop.new.self.items) (sym c.lanes.ensures)
    (subst (λ (ms : List ℕ). AllZip (λ n desk. (map (λ s. seat (lane.pass_identity s.pass) (lane.pass_shape s.pass) (lane.callers s.pass)) desk.sessions.items ≡ map (λ x. seat (lane.identity x) (lane.lane_shape x) (n ∷ [])) c.in_ok-set.set.lanes.items) × AllZip (λ number s. IsAtRest number n s) ms desk.sessions.items × All (λ s. lane.seen s.pass ≡ []) desk.sessions.items) (range_with_len 0 (length c.pop.new.self.items)) c.pop.new.self.items) (c.deref.ensures.value ∙ sym c.deref-2.ensures.value) both.0)

pub close-books-requires-clause-callers : goal.close-books-requires-clause-callers
close-books-requires-clause-callers g c κs within =
    let lane = g.L.Lane in
    let made = c.in_ok-set.ensures in
    let lanes_are : c.deref.result.now ≡ lanes_of c.args.jobs.now = c.deref.ensures.value ∙ c.in_ok-numbers.ensures in
    let all = zip_three (λ n desk. map (λ s. seat (lane.pass_identity s.pass) (lane.pass_shape s.pass) (lane.callers s.pass)) desk.sessions.items ≡ map (λ x. seat (lane.identity x) (lane.lane_shape x) (n ∷ [])) c.in_ok-set.set.lanes.items) (λ n desk. AllZip (λ number s. IsAtRest number n s) c.deref.result.now desk.sessions.items) (λ desk. All (λ s. lane.seen s.pass ≡ []) desk.sessions.items) (range_with_len 0 (c.args.hands + 1)) c.in_ok-set.desks.items made.seats made.at_rest made.nothing_seen in
    let both = all_but_one (λ n desk. (map (λ s. seat (lane.pass_identity s.pass) (lane.pass_shape s.pass) (lane.callers s.pass)) desk.sessions.items ≡ map (λ x. seat (lane.identity x) (lane.lane_shape x) (n ∷ [])) c.in_ok-set.set.lanes.items) × AllZip (λ number s. IsAtRest number n s) c.deref.result.now desk.sessions.items × All (λ s. lane.seen s.pass ≡ []) desk.sessions.items) c.in_ok-set.desks.items c.pop.new.self.items c.in-Some.own c.in-Some.ensures.items (subst (λ (k : ℕ). AllZip (λ n desk. (map (λ s. seat (lane.pass_identity s.pass) (lane.pass_shape s.pass) (lane.callers s.pass)) desk.sessions.items ≡ map (λ x. seat (lane.identity x) (lane.lane_shape x) (n ∷ [])) c.in_ok-set.set.lanes.items) × AllZip (λ number s. IsAtRest number n s) c.deref.result.now desk.sessions.items × All (λ s. lane.seen s.pass ≡ []) desk.sessions.items) (range_with_len 0 k) c.in_ok-set.desks.items) (sym made.desks) all) in
    let count : length c.pop.new.self.items ≡ c.args.hands = let n = ap length c.in-Some.ensures.items ∙ length-append c.pop.new.self.items (c.in-Some.own ∷ []) in let m = made.desks in omega (arith, n, m) in
    let runs = c.in_ok-runs.runs.items in
    let ran = c.in_ok-runs.ensures.ran in
    let many : length runs ≡ c.args.hands = c.in_ok-runs.ensures.all ∙ count in
    let desks : c.push.new.self.items ≡ map (λ run. run.desk) runs ++ c.in-Some.own ∷ [] = c.in_ok-push.ensures.items ∙ ap (λ ds. ds ++ c.in-Some.own ∷ []) c.in_ok-desks.ensures.desks in
    let desk_count : length (map (λ run. run.desk) runs) ≡ length runs = length-map runs (λ run. run.desk) in
    let all_count : length c.push.new.self.items ≡ c.args.hands + 1 = ap length desks ∙ length-append (map (λ run. run.desk) runs) (c.in-Some.own ∷ []) ∙ (let m = many in omega (arith, m, desk_count)) in
    All-weaker (λ x. IsForHands c.args.hands (lane.lane_shape x)) (λ x. (lane.lane_shape x).callers ≡ length c.push.new.self.items) (λ x h. h.callers ∙ sym all_count) c.in_ok-set.set.lanes.items made.shapes

pub close-books-requires-clause-seats : goal.close-books-requires-clause-seats
close-books-requires-clause-seats g c κs within =
    let lane = g.L.Lane in
    let made = c.in_ok-set.ensures in
    let lanes_are : c.deref.result.now ≡ lanes_of c.args.jobs.now = c.deref.ensures.value ∙ c.in_ok-numbers.ensures in
    let all = zip_three (λ n desk. map (λ s. seat (lane.pass_identity s.pass) (lane.pass_shape s.pass) (lane.callers s.pass)) desk.sessions.items ≡ map (λ x. seat (lane.identity x) (lane.lane_shape x) (n ∷ [])) c.in_ok-set.set.lanes.items) (λ n desk. AllZip (λ number s. IsAtRest number n s) c.deref.result.now desk.sessions.items) (λ desk. All (λ s. lane.seen s.pass ≡ []) desk.sessions.items) (range_with_len 0 (c.args.hands + 1)) c.in_ok-set.desks.items made.seats made.at_rest made.nothing_seen in
    let both = all_but_one (λ n desk. (map (λ s. seat (lane.pass_identity s.pass) (lane.pass_shape s.pass) (lane.callers s.pass)) desk.sessions.items ≡ map (λ x. seat (lane.identity x) (lane.lane_shape x) (n ∷ [])) c.in_ok-set.set.lanes.items) × AllZip (λ number s. IsAtRest number n s) c.deref.result.now desk.sessions.items × All (λ s. lane.seen s.pass ≡ []) desk.sessions.items) c.in_ok-set.desks.items c.pop.new.self.items c.in-Some.own c.in-Some.ensures.items (subst (λ (k : ℕ). AllZip (λ n desk. (map (λ s. seat (lane.pass_identity s.pass) (lane.pass_shape s.pass) (lane.callers s.pass)) desk.sessions.items ≡ map (λ x. seat (lane.identity x) (lane.lane_shape x) (n ∷ [])) c.in_ok-set.set.lanes.items) × AllZip (λ number s. IsAtRest number n s) c.deref.result.now desk.sessions.items × All (λ s. lane.seen s.pass ≡ []) desk.sessions.items) (range_with_len 0 k) c.in_ok-set.desks.items) (sym made.desks) all) in
    let count : length c.pop.new.self.items ≡ c.args.hands = let n = ap length c.in-Some.ensures.items ∙ length-append c.pop.new.self.items (c.in-Some.own ∷ []) in let m = made.desks in omega (arith, n, m) in
    let runs = c.in_ok-runs.runs.items in
    let ran = c.in_ok-runs.ensures.ran in
    let many : length runs ≡ c.args.hands = c.in_ok-runs.ensures.all ∙ count in
    let desks : c.push.new.self.items ≡ map (λ run. run.desk) runs ++ c.in-Some.own ∷ [] = c.in_ok-push.ensures.items ∙ ap (λ ds. ds ++ c.in-Some.own ∷ []) c.in_ok-desks.ensures.desks in
    let desk_count : length (map (λ run. run.desk) runs) ≡ length runs = length-map runs (λ run. run.desk) in
    let all_count : length c.push.new.self.items ≡ c.args.hands + 1 = ap length desks ∙ length-append (map (λ run. run.desk) runs) (c.in-Some.own ∷ []) ∙ (let m = many in omega (arith, m, desk_count)) in
    subst (λ xs. AllZip (λ n desk. map (λ s. seat (lane.pass_identity s.pass) (lane.pass_shape s.pass) (lane.callers s.pass)) desk.sessions.items ≡ map (λ x. seat (lane.identity x) (lane.lane_shape x) (n ∷ [])) xs) (range_with_len 0 (length c.push.new.self.items)) c.push.new.self.items) c.lanes.ensures
    (one_more (λ n desk. map (λ s. seat (lane.pass_identity s.pass) (lane.pass_shape s.pass) (lane.callers s.pass)) desk.sessions.items ≡ map (λ x. seat (lane.identity x) (lane.lane_shape x) (n ∷ [])) c.lanes.result.now) c.args.hands (map (λ run. run.desk) runs) c.push.new.self.items c.in-Some.own desks (desk_count ∙ many)
    (subst (λ (k : ℕ). AllZip (λ n desk. map (λ s. seat (lane.pass_identity s.pass) (lane.pass_shape s.pass) (lane.callers s.pass)) desk.sessions.items ≡ map (λ x. seat (lane.identity x) (lane.lane_shape x) (n ∷ [])) c.lanes.result.now) (range_with_len 0 k) (map (λ run. run.desk) runs)) (sym desk_count)
    (zip_mapped (λ n desk. map (λ s. seat (lane.pass_identity s.pass) (lane.pass_shape s.pass) (lane.callers s.pass)) desk.sessions.items ≡ map (λ x. seat (lane.identity x) (lane.lane_shape x) (n ∷ [])) c.lanes.result.now) (λ run. run.desk) (range_with_len 0 (length runs)) runs (zip_weaker _ _ (λ n run h. h.0) (range_with_len 0 (length runs)) runs ran)))
    (subst (λ (n : ℕ). map (λ s. seat (lane.pass_identity s.pass) (lane.pass_shape s.pass) (lane.callers s.pass)) c.in-Some.own.sessions.items ≡ map (λ x. seat (lane.identity x) (lane.lane_shape x) (n ∷ [])) c.lanes.result.now) count (both.1.0 ∙ ap (map (λ x. seat (lane.identity x) (lane.lane_shape x) (length c.pop.new.self.items ∷ []))) (sym c.lanes.ensures))))

pub close-books-requires-clause-nothing_pending : goal.close-books-requires-clause-nothing_pending
close-books-requires-clause-nothing_pending g c κs within =
    let lane = g.L.Lane in
    let made = c.in_ok-set.ensures in
    let lanes_are : c.deref.result.now ≡ lanes_of c.args.jobs.now = c.deref.ensures.value ∙ c.in_ok-numbers.ensures in
    let all = zip_three (λ n desk. map (λ s. seat (lane.pass_identity s.pass) (lane.pass_shape s.pass) (lane.callers s.pass)) desk.sessions.items ≡ map (λ x. seat (lane.identity x) (lane.lane_shape x) (n ∷ [])) c.in_ok-set.set.lanes.items) (λ n desk. AllZip (λ number s. IsAtRest number n s) c.deref.result.now desk.sessions.items) (λ desk. All (λ s. lane.seen s.pass ≡ []) desk.sessions.items) (range_with_len 0 (c.args.hands + 1)) c.in_ok-set.desks.items made.seats made.at_rest made.nothing_seen in
    let both = all_but_one (λ n desk. (map (λ s. seat (lane.pass_identity s.pass) (lane.pass_shape s.pass) (lane.callers s.pass)) desk.sessions.items ≡ map (λ x. seat (lane.identity x) (lane.lane_shape x) (n ∷ [])) c.in_ok-set.set.lanes.items) × AllZip (λ number s. IsAtRest number n s) c.deref.result.now desk.sessions.items × All (λ s. lane.seen s.pass ≡ []) desk.sessions.items) c.in_ok-set.desks.items c.pop.new.self.items c.in-Some.own c.in-Some.ensures.items (subst (λ (k : ℕ). AllZip (λ n desk. (map (λ s. seat (lane.pass_identity s.pass) (lane.pass_shape s.pass) (lane.callers s.pass)) desk.sessions.items ≡ map (λ x. seat (lane.identity x) (lane.lane_shape x) (n ∷ [])) c.in_ok-set.set.lanes.items) × AllZip (λ number s. IsAtRest number n s) c.deref.result.now desk.sessions.items × All (λ s. lane.seen s.pass ≡ []) desk.sessions.items) (range_with_len 0 k) c.in_ok-set.desks.items) (sym made.desks) all) in
    let count : length c.pop.new.self.items ≡ c.args.hands = let n = ap length c.in-Some.ensures.items ∙ length-append c.pop.new.self.items (c.in-Some.own ∷ []) in let m = made.desks in omega (arith, n, m) in
    let runs = c.in_ok-runs.runs.items in
    let ran = c.in_ok-runs.ensures.ran in
    let many : length runs ≡ c.args.hands = c.in_ok-runs.ensures.all ∙ count in
    let desks : c.push.new.self.items ≡ map (λ run. run.desk) runs ++ c.in-Some.own ∷ [] = c.in_ok-push.ensures.items ∙ ap (λ ds. ds ++ c.in-Some.own ∷ []) c.in_ok-desks.ensures.desks in
    let desk_count : length (map (λ run. run.desk) runs) ≡ length runs = length-map runs (λ run. run.desk) in
    let all_count : length c.push.new.self.items ≡ c.args.hands + 1 = ap length desks ∙ length-append (map (λ run. run.desk) runs) (c.in-Some.own ∷ []) ∙ (let m = many in omega (arith, m, desk_count)) in
    All-same (λ desk. All (λ s. s.pending ≡ []) desk.sessions.items) c.push.new.self.items (map (λ run. run.desk) runs ++ c.in-Some.own ∷ []) desks
    (All-push (λ desk. All (λ s. s.pending ≡ []) desk.sessions.items) (map (λ run. run.desk) runs) c.in-Some.own
    (All-map (λ desk. All (λ s. s.pending ≡ []) desk.sessions.items) (λ run. run.desk) runs (All-from_recursion (λ run. All (λ s. s.pending ≡ []) run.desk.sessions.items) runs
    (zip_told _ (λ run. All (λ s. s.pending ≡ []) run.desk.sessions.items) (range_with_len 0 (length runs)) runs (λ n run h. All-from_recursion (λ s. s.pending ≡ []) run.desk.sessions.items (zip_told (λ number s. IsAtRest number n s) (λ s. s.pending ≡ []) c.deref-2.result.now run.desk.sessions.items (λ k s r. r.nothing_pending) h.1)) ran)))
    (All-from_recursion (λ s. s.pending ≡ []) c.in-Some.own.sessions.items (zip_told (λ number s. IsAtRest number (length c.pop.new.self.items) s) (λ s. s.pending ≡ []) c.deref.result.now c.in-Some.own.sessions.items (λ k s r. r.nothing_pending) both.1.1)))

pub run_beside-requires-clause-serve : goal.run_beside-requires-clause-serve
run_beside-requires-clause-serve g c κs within =
    let lane = g.L.Lane in
    subst (λ xs. All (λ x. Serves (lane.lane_shape x)) xs) (sym c.lanes.ensures)
    (All-weaker (λ x. IsForHands c.args.hands (lane.lane_shape x)) (λ x. Serves (lane.lane_shape x)) (λ x h. record { room = h.room; allowance = h.allowance }) c.in_ok-set.set.lanes.items c.in_ok-set.ensures.shapes)

-- by the books no hand stopped
pub unreachable-requires-then-stopped : goal.unreachable-requires-then-stopped
unreachable-requires-then-stopped g c =
    let lane = g.L.Lane in
    let made = c.in_ok-set.ensures in
    let lanes_are : c.deref.result.now ≡ lanes_of c.args.jobs.now = c.deref.ensures.value ∙ c.in_ok-numbers.ensures in
    let all = zip_three (λ n desk. map (λ s. seat (lane.pass_identity s.pass) (lane.pass_shape s.pass) (lane.callers s.pass)) desk.sessions.items ≡ map (λ x. seat (lane.identity x) (lane.lane_shape x) (n ∷ [])) c.in_ok-set.set.lanes.items) (λ n desk. AllZip (λ number s. IsAtRest number n s) c.deref.result.now desk.sessions.items) (λ desk. All (λ s. lane.seen s.pass ≡ []) desk.sessions.items) (range_with_len 0 (c.args.hands + 1)) c.in_ok-set.desks.items made.seats made.at_rest made.nothing_seen in
    let both = all_but_one (λ n desk. (map (λ s. seat (lane.pass_identity s.pass) (lane.pass_shape s.pass) (lane.callers s.pass)) desk.sessions.items ≡ map (λ x. seat (lane.identity x) (lane.lane_shape x) (n ∷ [])) c.in_ok-set.set.lanes.items) × AllZip (λ number s. IsAtRest number n s) c.deref.result.now desk.sessions.items × All (λ s. lane.seen s.pass ≡ []) desk.sessions.items) c.in_ok-set.desks.items c.pop.new.self.items c.in-Some.own c.in-Some.ensures.items (subst (λ (k : ℕ). AllZip (λ n desk. (map (λ s. seat (lane.pass_identity s.pass) (lane.pass_shape s.pass) (lane.callers s.pass)) desk.sessions.items ≡ map (λ x. seat (lane.identity x) (lane.lane_shape x) (n ∷ [])) c.in_ok-set.set.lanes.items) × AllZip (λ number s. IsAtRest number n s) c.deref.result.now desk.sessions.items × All (λ s. lane.seen s.pass ≡ []) desk.sessions.items) (range_with_len 0 k) c.in_ok-set.desks.items) (sym made.desks) all) in
    let count : length c.pop.new.self.items ≡ c.args.hands = let n = ap length c.in-Some.ensures.items ∙ length-append c.pop.new.self.items (c.in-Some.own ∷ []) in let m = made.desks in omega (arith, n, m) in
    let runs = c.in_ok-runs.runs.items in
    let ran = c.in_ok-runs.ensures.ran in
    let many : length runs ≡ c.args.hands = c.in_ok-runs.ensures.all ∙ count in
    let desks : c.push.new.self.items ≡ map (λ run. run.desk) runs ++ c.in-Some.own ∷ [] = c.in_ok-push.ensures.items ∙ ap (λ ds. ds ++ c.in-Some.own ∷ []) c.in_ok-desks.ensures.desks in
    let desk_count : length (map (λ run. run.desk) runs) ≡ length runs = length-map runs (λ run. run.desk) in
    let all_count : length c.push.new.self.items ≡ c.args.hands + 1 = ap length desks ∙ length-append (map (λ run. run.desk) runs) (c.in-Some.own ∷ []) ∙ (let m = many in omega (arith, m, desk_count)) in
    let file = c.args.jobs.now in
    let hands = c.args.hands in
    let batch = c.args.batch in
    let numbers = c.deref-2.result.now in
    let numbers_are : numbers ≡ lanes_of file = c.deref-2.ensures.value ∙ c.in_ok-numbers.ensures in
    let closed = c.close-books.ensures in
    let own : List (List Group) = map (λ s. lane.seen s.pass) c.in-Some.own.sessions.items in
    let books : List (List Group) = map lane.history c.close-books.result.items in
    let all_rows : List (List (List Group)) = map (λ desk. map (λ s. lane.seen s.pass) desk.sessions.items) c.push.new.self.items in
    let none : All (λ h. h ≡ []) own = All-map (λ (h : List Group). h ≡ []) (λ s. lane.seen s.pass) c.in-Some.own.sessions.items both.1.2 in
    let as_many : length books ≡ length numbers = length-map c.close-books.result.items lane.history ∙ closed.one_each ∙ made.lanes ∙ ap length (c.deref.ensures.value ∙ sym c.deref-2.ensures.value) in
    let proper : All (λ book. IsProper (hands + 1) book) books = All-map (λ book. IsProper (hands + 1) book) lane.history c.close-books.result.items
    (subst (λ (k : ℕ). All (λ book. IsProper k (lane.history book)) c.close-books.result.items) all_count closed.proper) in
    let never : All NeverShut books = All-map NeverShut lane.history c.close-books.result.items closed.never_shut in
    let begun : AllZip (λ n row. AllZip (SawMore n) row books) (range_with_len 0 (length all_rows)) all_rows =
    subst (λ (k : ℕ). AllZip (λ n row. AllZip (SawMore n) row books) (range_with_len 0 k) all_rows) (sym (length-map c.push.new.self.items (λ desk. map (λ s. lane.seen s.pass) desk.sessions.items)))
    (begun_rows (λ desk. desk.sessions.items) (λ s. lane.seen s.pass) lane.history (range_with_len 0 (length c.push.new.self.items)) c.push.new.self.items c.close-books.result.items closed.begun) in
    let seen_rows : all_rows ≡ map (λ run. map (λ s. lane.seen s.pass) run.desk.sessions.items) runs ++ own ∷ [] =
    ap (map (λ desk. map (λ s. lane.seen s.pass) desk.sessions.items)) desks ∙ map-append (λ desk. map (λ s. lane.seen s.pass) desk.sessions.items) (map (λ run. run.desk) runs) (c.in-Some.own ∷ [])
    ∙ ap (λ (rs : List (List (List Group))). rs ++ own ∷ []) (map_twice (λ desk. map (λ s. lane.seen s.pass) desk.sessions.items) (λ run. run.desk) runs) in
    let works = zip_weaker _ _ (λ n run h. h.2) (range_with_len 0 (length runs)) runs ran in
    let stays = none_stopped (λ run. map (λ s. lane.seen s.pass) run.desk.sessions.items) (λ run. run.replies.items) (λ run. run.work) numbers file hands batch runs own books
    (record { some = omega (arith, c.requires.hands.0); file_is = c.count-count.ensures.ranges; many = many; ran = works; rows = all_rows; rows_are = seen_rows; own_unseen = none; as_many = as_many; proper = proper; never_shut = never; begun = begun }) in
    cc (sym c.if-stopped.true ∙ c.any_stopped-stopped.ensures ∙ ap (list_any (λ run. has_stopped run.work)) c.deref-3.ensures.value ∙ stays)

pub returns : goal.returns
returns g c =
    let lane = g.L.Lane in
    let made = c.in_ok-set.ensures in
    let lanes_are : c.deref.result.now ≡ lanes_of c.args.jobs.now = c.deref.ensures.value ∙ c.in_ok-numbers.ensures in
    let all = zip_three (λ n desk. map (λ s. seat (lane.pass_identity s.pass) (lane.pass_shape s.pass) (lane.callers s.pass)) desk.sessions.items ≡ map (λ x. seat (lane.identity x) (lane.lane_shape x) (n ∷ [])) c.in_ok-set.set.lanes.items) (λ n desk. AllZip (λ number s. IsAtRest number n s) c.deref.result.now desk.sessions.items) (λ desk. All (λ s. lane.seen s.pass ≡ []) desk.sessions.items) (range_with_len 0 (c.args.hands + 1)) c.in_ok-set.desks.items made.seats made.at_rest made.nothing_seen in
    let both = all_but_one (λ n desk. (map (λ s. seat (lane.pass_identity s.pass) (lane.pass_shape s.pass) (lane.callers s.pass)) desk.sessions.items ≡ map (λ x. seat (lane.identity x) (lane.lane_shape x) (n ∷ [])) c.in_ok-set.set.lanes.items) × AllZip (λ number s. IsAtRest number n s) c.deref.result.now desk.sessions.items × All (λ s. lane.seen s.pass ≡ []) desk.sessions.items) c.in_ok-set.desks.items c.pop.new.self.items c.in-Some.own c.in-Some.ensures.items (subst (λ (k : ℕ). AllZip (λ n desk. (map (λ s. seat (lane.pass_identity s.pass) (lane.pass_shape s.pass) (lane.callers s.pass)) desk.sessions.items ≡ map (λ x. seat (lane.identity x) (lane.lane_shape x) (n ∷ [])) c.in_ok-set.set.lanes.items) × AllZip (λ number s. IsAtRest number n s) c.deref.result.now desk.sessions.items × All (λ s. lane.seen s.pass ≡ []) desk.sessions.items) (range_with_len 0 k) c.in_ok-set.desks.items) (sym made.desks) all) in
    let count : length c.pop.new.self.items ≡ c.args.hands = let n = ap length c.in-Some.ensures.items ∙ length-append c.pop.new.self.items (c.in-Some.own ∷ []) in let m = made.desks in omega (arith, n, m) in
    let runs = c.in_ok-runs.runs.items in
    let ran = c.in_ok-runs.ensures.ran in
    let many : length runs ≡ c.args.hands = c.in_ok-runs.ensures.all ∙ count in
    let desks : c.push.new.self.items ≡ map (λ run. run.desk) runs ++ c.in-Some.own ∷ [] = c.in_ok-push.ensures.items ∙ ap (λ ds. ds ++ c.in-Some.own ∷ []) c.in_ok-desks.ensures.desks in
    let desk_count : length (map (λ run. run.desk) runs) ≡ length runs = length-map runs (λ run. run.desk) in
    let all_count : length c.push.new.self.items ≡ c.args.hands + 1 = ap length desks ∙ length-append (map (λ run. run.desk) runs) (c.in-Some.own ∷ []) ∙ (let m = many in omega (arith, m, desk_count)) in
    let file = c.args.jobs.now in
    let hands = c.args.hands in
    let batch = c.args.batch in
    let numbers = c.deref-2.result.now in
    let numbers_are : numbers ≡ lanes_of file = c.deref-2.ensures.value ∙ c.in_ok-numbers.ensures in
    let closed = c.close-books.ensures in
    let rows : List Run = map (λ run. record { seen = map (λ s. lane.seen s.pass) run.desk.sessions.items; replies = run.replies.items }) runs in
    let own : List (List Group) = map (λ s. lane.seen s.pass) c.in-Some.own.sessions.items in
    let books : List (List Group) = map lane.history c.close-books.result.items in
    let all_rows : List (List (List Group)) = map (λ desk. map (λ s. lane.seen s.pass) desk.sessions.items) c.push.new.self.items in
    let row_count : length rows ≡ length runs = length-map runs (λ run. record { seen = map (λ s. lane.seen s.pass) run.desk.sessions.items; replies = run.replies.items }) in
    let rows_are : all_rows ≡ map (λ (r : Run). r.seen) rows ++ own ∷ [] =
    ap (map (λ desk. map (λ s. lane.seen s.pass) desk.sessions.items)) desks ∙ map-append (λ desk. map (λ s. lane.seen s.pass) desk.sessions.items) (map (λ run. run.desk) runs) (c.in-Some.own ∷ [])
    ∙ ap (λ (rs : List (List (List Group))). rs ++ own ∷ []) (maps_same (λ run. run.desk) (λ desk. map (λ s. lane.seen s.pass) desk.sessions.items) (λ run. record { seen = map (λ s. lane.seen s.pass) run.desk.sessions.items; replies = run.replies.items }) (λ (r : Run). r.seen) runs (λ run. refl)) in
    let none : All (λ h. h ≡ []) own = All-map (λ (h : List Group). h ≡ []) (λ s. lane.seen s.pass) c.in-Some.own.sessions.items both.1.2 in
    let as_many : length books ≡ length numbers = length-map c.close-books.result.items lane.history ∙ closed.one_each ∙ made.lanes ∙ ap length (c.deref.ensures.value ∙ sym c.deref-2.ensures.value) in
    let proper : All (λ book. IsProper (hands + 1) book) books = All-map (λ book. IsProper (hands + 1) book) lane.history c.close-books.result.items
    (subst (λ (k : ℕ). All (λ book. IsProper k (lane.history book)) c.close-books.result.items) all_count closed.proper) in
    let never : All NeverShut books = All-map NeverShut lane.history c.close-books.result.items closed.never_shut in
    let begun : AllZip (λ n row. AllZip (SawMore n) row books) (range_with_len 0 (length all_rows)) all_rows =
    subst (λ (k : ℕ). AllZip (λ n row. AllZip (SawMore n) row books) (range_with_len 0 k) all_rows) (sym (length-map c.push.new.self.items (λ desk. map (λ s. lane.seen s.pass) desk.sessions.items)))
    (begun_rows (λ desk. desk.sessions.items) (λ s. lane.seen s.pass) lane.history (range_with_len 0 (length c.push.new.self.items)) c.push.new.self.items c.close-books.result.items closed.begun) in
    let seen_rows : all_rows ≡ map (λ run. map (λ s. lane.seen s.pass) run.desk.sessions.items) runs ++ own ∷ [] =
    ap (map (λ desk. map (λ s. lane.seen s.pass) desk.sessions.items)) desks ∙ map-append (λ desk. map (λ s. lane.seen s.pass) desk.sessions.items) (map (λ run. run.desk) runs) (c.in-Some.own ∷ [])
    ∙ ap (λ (rs : List (List (List Group))). rs ++ own ∷ []) (map_twice (λ desk. map (λ s. lane.seen s.pass) desk.sessions.items) (λ run. run.desk) runs) in
    let works = zip_weaker _ _ (λ n run h. h.2) (range_with_len 0 (length runs)) runs ran in
    let stays = none_stopped (λ run. map (λ s. lane.seen s.pass) run.desk.sessions.items) (λ run. run.replies.items) (λ run. run.work) numbers file hands batch runs own books
    (record { some = omega (arith, c.requires.hands.0); file_is = c.count-count.ensures.ranges; many = many; ran = works; rows = all_rows; rows_are = seen_rows; own_unseen = none; as_many = as_many; proper = proper; never_shut = never; begun = begun }) in
    let all_ran = ran_of (λ n run. HandRan numbers file hands batch n (map (λ s. lane.seen s.pass) run.desk.sessions.items) run.replies.items) (λ n run. HandStopped numbers file hands n (map (λ s. lane.seen s.pass) run.desk.sessions.items)) (λ run. run.work) 0 runs works stays in
    let did : AllZip (λ n r. HandRan numbers file hands batch n r.seen r.replies) (range_with_len 0 (length rows)) rows =
    subst (λ (k : ℕ). AllZip (λ n (r : Run). HandRan numbers file hands batch n r.seen r.replies) (range_with_len 0 k) rows) (sym row_count)
    (zip_mapped (λ n (r : Run). HandRan numbers file hands batch n r.seen r.replies) (λ run. record { seen = map (λ s. lane.seen s.pass) run.desk.sessions.items; replies = run.replies.items }) (range_with_len 0 (length runs)) runs all_ran) in
    let moved : IsPermutation (flat_map (λ (r : Run). r.replies) rows) c.sort_replies.new.replies.items =
    subst (λ (rs : List Reply). IsPermutation rs c.sort_replies.new.replies.items) (c.in_ok-desks.ensures.replies ∙ sym (pieces_mapped (λ run. record { seen = map (λ s. lane.seen s.pass) run.desk.sessions.items; replies = run.replies.items }) (λ (r : Run). r.replies) runs)) c.sort_replies.ensures.moved in
    let end : IsFinished file hands batch books c.sort_replies.new.replies.items =
    finished numbers file hands batch rows all_rows own books c.sort_replies.new.replies.items (omega (arith, c.requires.hands.0)) c.count-count.ensures.ranges numbers_are (row_count ∙ many) did rows_are none as_many proper never begun moved c.sort_replies.ensures.order in
    let shown = as_shown file hands batch lane.history c.close-books.result.items c.from-2.result c.sort_replies.new.replies.items c.from.result c.from-2.ensures c.from.ensures end in
    record { ran = record { books_fit = shown.books_fit; replies_fit = shown.replies_fit; dealt_in_turn = shown.dealt_in_turn; ended = shown.ended }; lines = shown.lines }
