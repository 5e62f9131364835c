use Rattle.std.proofs.Common.{◌≡◌, ◌+◌, ℕ, [], ◌∷◌, ◌++◌, length, map, take, get_or, refl, sym, ap, subst, ◌∙◌, add-one, length-append, All}
use Rattle.std.specs.List.{range_with_len}
use Rattle.std.proofs.Math.Seq.{take-suc}
use Rattle.std.proofs.lemmas.List.{take_all}
use Rattle.std.proofs.lemmas.List.Elements.{All-push, All-nil, All-same}
use Rattle.job_lanes.specs.Rest.{IsAtRest}
use Rattle.job_lanes.specs.Seats.{seat, IsForHands}
use Rattle.job_lanes.proofs.Rounds.{each-length, zip_weaker, zip_all, zip_along, zip_from_all, zip_count, map_longer, all_longer, count_of, zip_none, zip_longer, zip_for}
use Rattle.job_lanes.proofs.lane_set.LaneSet.make.Goals as goal

pub loop-number-init : goal.loop-number-init
loop-number-init g c =
    let lane = g.L.Lane in
    let none = c.in_ok-lanes.ensures.items in
    record {
      count = ap length none;
      shapes = All-same (λ x. IsForHands c.args.hands (lane.lane_shape x)) c.in_ok-lanes.lanes.items [] none (All-nil _);
      desks = c.in_ok-desks.ensures.count;
      seated = zip_count _ 0 _ (length c.in_ok-desks.desks.items) (c.args.hands + 1) c.in_ok-desks.ensures.count
          (zip_from_all _ (λ desk. desk.sessions.items ≡ []) 0 c.in_ok-desks.desks.items
          (λ n desk e. (zip_none (λ (k : ℕ) s. IsAtRest k n s) [] desk.sessions.items refl e, ap (map _) e ∙ sym (ap (map (λ x. seat (lane.identity x) (lane.lane_shape x) (n ∷ []))) none), All-same (λ s. lane.seen s.pass ≡ []) desk.sessions.items [] e (All-nil _)))
          c.in_ok-desks.ensures.empty);
    }

pub seat_all-requires-clause-one_each : goal.seat_all-requires-clause-one_each
seat_all-requires-clause-one_each g c κs within =
    let passes = count_of g.L.Lane.callers (λ n. n ∷ []) c.shape_for-shape.result.callers c.in_ok-lane.passes.items c.in_ok-lane.ensures.one_pass_each in
    c.loop-number.invariant.desks ∙ sym (passes ∙ c.shape_for-shape.ensures.callers)

pub seat_all-requires-clause-callers : goal.seat_all-requires-clause-callers
seat_all-requires-clause-callers g c κs within =
    let passes = count_of g.L.Lane.callers (λ n. n ∷ []) c.shape_for-shape.result.callers c.in_ok-lane.passes.items c.in_ok-lane.ensures.one_pass_each in
    c.in_ok-lane.ensures.one_pass_each ∙ ap (λ (k : ℕ). map (λ n. n ∷ []) (range_with_len 0 k)) (sym passes)

pub loop-number-preserved : goal.loop-number-preserved
loop-number-preserved g c =
    let lane = g.L.Lane in
    let kept = c.loop-number.invariant in
    let index = c.loop-number.number-index in
    let more = c.in_ok-push.ensures.items in
    let numbers = c.args.numbers.now in
    let next : take (index + 1) numbers ≡ take index numbers ++ get_or numbers index 0 ∷ [] = rw add-one (take-suc numbers index 0 c.loop-number-test.true) in
    record {
      count = ap length more ∙ length-append c.loop-number.lanes.items (c.in_ok-lane.lane ∷ []) ∙ ap (λ (n : ℕ). n + 1) kept.count;
      shapes = All-same (λ x. IsForHands c.args.hands (lane.lane_shape x)) _ _ more (All-push (λ x. IsForHands c.args.hands (lane.lane_shape x)) c.loop-number.lanes.items c.in_ok-lane.lane kept.shapes
          (subst (IsForHands c.args.hands) (sym c.in_ok-lane.ensures.shape) c.shape_for-shape.ensures));
      desks = each-length _ 0 _ _ c.in_ok-seat_all.ensures.seated ∙ kept.desks;
      seated = zip_along _ _ _ 0 (c.args.hands + 1) c.loop-number.desks.items _
          (λ n x y p r. (
            zip_longer _ (take index numbers) _ (get_or numbers index 0) x.sessions.items y.sessions.items r.last next r.stands p.0 r.holds.2,
            map_longer _ x.sessions.items y.sessions.items r.last _ _ r.stands p.1 r.holds.0 ∙ sym (map_longer (λ z. seat (lane.identity z) (lane.lane_shape z) (n ∷ [])) c.loop-number.lanes.items _ c.in_ok-lane.lane _ _ more refl refl),
            all_longer (λ s. lane.seen s.pass ≡ []) x.sessions.items y.sessions.items r.last r.stands p.2 r.holds.1,
          ))
          kept.seated c.in_ok-seat_all.ensures.seated;
    }

pub returns-clause-seats : goal.returns-clause-seats
returns-clause-seats g c = zip_weaker _ _ _ _ (λ n desk h. h.1) c.loop-number.invariant.seated

pub returns-clause-nothing_seen : goal.returns-clause-nothing_seen
returns-clause-nothing_seen g c = zip_all _ (λ desk. All (λ s. g.L.Lane.seen s.pass ≡ []) desk.sessions.items) (range_with_len 0 (c.args.hands + 1)) c.loop-number.desks.items (λ n desk h. h.2) c.loop-number.invariant.seated

pub returns-clause-at_rest : goal.returns-clause-at_rest
returns-clause-at_rest g c =
    let all = take_all c.loop-number.number-index c.args.numbers.now c.loop-number-test.false in
    zip_weaker _ _ _ _ (λ n desk h. zip_for _ _ _ desk.sessions.items all h.0) c.loop-number.invariant.seated
