use Rattle.std.proofs.Common.{◌≡◌, ℕ, [], ◌∷◌, Some, length, map, sym, ap, subst, ◌∙◌, arith, length-append}
use Rattle.std.proofs.lemmas.List.Elements.{All-push, All-pop, All-nil, All-same}
use Rattle.bq_model.specs.Grows.{SawMore}
use Rattle.bq_model.specs.NoShut.{NeverShut}
use Rattle.bq_model.specs.Proper.{IsProper}
use Rattle.job_lanes.specs.Seats.{seat}
use Rattle.job_lanes.proofs.Rounds.{gone-none, gone-more, gone-all, each_itself, each_then, each-length, zip_and, zip_weaker, zip_along, zip_back, ends_like, ends_and, map_shorter, all_shorter, nothing_left, seats_end, zip_count, zip_books, nothing_in, All-reverse}
use Rattle.job_lanes.proofs.lane_set.LaneSet.close.Goals as goal

pub loop-lane-init : goal.loop-lane-init
loop-lane-init g c = record {
  callers = c.requires.callers;
  seated = zip_and _ _ _ _ c.requires.seats c.requires.nothing_pending;
  gone = each_itself _ 0 c.args.desks.items (λ k x. gone-none c.args.self.books.items x.sessions.items c.args.self.no_book);
  proper = All-same (λ book. IsProper (length c.args.desks.items) (g.L.Lane.history book)) c.args.self.books.items [] c.args.self.no_book (All-nil _);
  never_shut = All-same (λ book. NeverShut (g.L.Lane.history book)) c.args.self.books.items [] c.args.self.no_book (All-nil _);
  room = omega (arith, c.args.self.room_for_books, c.args.self.books.ok, ap length c.args.self.no_book);
  one_each = omega (arith, ap length c.args.self.no_book);
}

pub close_last-requires-clause-some : goal.close_last-requires-clause-some
close_last-requires-clause-some g c κs within = let count = each-length _ 0 _ _ c.loop-lane.invariant.gone in omega (arith, count, c.requires.some)

pub close_last-requires-clause-callers : goal.close_last-requires-clause-callers
close_last-requires-clause-callers g c κs within =
    let lane = g.L.Lane in
    let count = each-length _ 0 _ _ c.loop-lane.invariant.gone in
    (All-pop (λ x. (lane.lane_shape x).callers ≡ length c.args.desks.items) c.loop-lane.lanes.items c.pop.new.self.items (Some c.in-Some.lane) c.in-Some.ensures.items c.loop-lane.invariant.callers).1 ∙ sym count

pub close_last-requires-clause-seated : goal.close_last-requires-clause-seated
close_last-requires-clause-seated g c κs within =
    let lane = g.L.Lane in
    let kept = c.loop-lane.invariant in
    let count = each-length _ 0 _ _ kept.gone in
    zip_count _ 0 _ (length c.args.desks.items) (length c.loop-lane.desks.items) (sym count)
    (zip_weaker _ _ _ _ (λ n desk h. ends_and _ (λ s. s.pending ≡ []) desk.sessions.items
    (ends_like _ desk.sessions.items _ _ (seats_end _ (λ x. seat (lane.identity x) (lane.lane_shape x) (n ∷ [])) desk.sessions.items c.loop-lane.lanes.items c.pop.new.self.items c.in-Some.lane c.in-Some.ensures.items h.0)) h.1) kept.seated)

pub loop-lane-preserved : goal.loop-lane-preserved
loop-lane-preserved g c =
    let lane = g.L.Lane in
    let kept = c.loop-lane.invariant in
    let count = each-length _ 0 _ _ kept.gone in
    let left = c.in-Some.ensures.items in
    let fewer = ap length left ∙ length-append c.pop.new.self.items (c.in-Some.lane ∷ []) in
    let more = ap length c.push_reserved.ensures.items ∙ length-append c.loop-lane.books.items (c.close_last.result ∷ []) in
    let callers = All-pop (λ x. (lane.lane_shape x).callers ≡ length c.args.desks.items) c.loop-lane.lanes.items c.pop.new.self.items (Some c.in-Some.lane) left kept.callers in
    record {
      callers = callers.0;
      seated = zip_along _ _ _ 0 (length c.args.desks.items) c.loop-lane.desks.items _
          (λ n x y p r. (
            map_shorter _ x.sessions.items y.sessions.items r.last _ _ r.stands (seats_end _ (λ z. seat (lane.identity z) (lane.lane_shape z) (n ∷ [])) x.sessions.items c.loop-lane.lanes.items c.pop.new.self.items c.in-Some.lane left p.0),
            all_shorter (λ s. s.pending ≡ []) x.sessions.items y.sessions.items r.last r.stands p.1,
          ))
          kept.seated c.close_last.ensures.begun;
      gone = each_then _ _ _ 0 c.args.desks.items c.loop-lane.desks.items _ (λ n x y z a b. gone-more c.loop-lane.books.items _ c.close_last.result _ _ _ c.push_reserved.ensures.items a b) kept.gone c.close_last.ensures.begun;
      proper = All-same (λ book. IsProper (length c.args.desks.items) (lane.history book)) _ _ c.push_reserved.ensures.items
          (All-push (λ book. IsProper (length c.args.desks.items) (lane.history book)) c.loop-lane.books.items c.close_last.result kept.proper
          (subst (λ (n : ℕ). IsProper n (lane.history c.close_last.result)) count c.close_last.ensures.proper));
      never_shut = All-same (λ book. NeverShut (lane.history book)) _ _ c.push_reserved.ensures.items
          (All-push (λ book. NeverShut (lane.history book)) c.loop-lane.books.items c.close_last.result kept.never_shut c.close_last.ensures.never_shut);
      room = omega (arith, c.in-Some.ensures.len, c.push_reserved.ensures.len, c.push_reserved.ensures.capacity, kept.room);
      one_each = omega (arith, fewer, more, kept.one_each);
    }

pub returns-clause-proper : goal.returns-clause-proper
returns-clause-proper g c =
    All-same (λ book. IsProper (length c.args.desks.items) (g.L.Lane.history book)) _ _ c.reverse.ensures.items (All-reverse (λ book. IsProper (length c.args.desks.items) (g.L.Lane.history book)) c.loop-lane.books.items c.loop-lane.invariant.proper)

pub returns-clause-never_shut : goal.returns-clause-never_shut
returns-clause-never_shut g c =
    All-same (λ book. NeverShut (g.L.Lane.history book)) _ _ c.reverse.ensures.items (All-reverse (λ book. NeverShut (g.L.Lane.history book)) c.loop-lane.books.items c.loop-lane.invariant.never_shut)

pub returns-clause-begun : goal.returns-clause-begun
returns-clause-begun g c =
    let none : c.loop-lane.lanes.items ≡ [] = nothing_in c.loop-lane.lanes.items (omega (arith, c.in_default.ensures.cases, c.loop-lane.lanes.ok)) in
    zip_back _ _ _ 0 (length c.args.desks.items) c.args.desks.items c.loop-lane.desks.items
    (λ n x y p r. zip_books _ _ _ _ c.reverse.ensures.items (gone-all (λ s book. SawMore n (g.L.Lane.seen s.pass) (g.L.Lane.history book)) c.loop-lane.books.items x.sessions.items y.sessions.items r
    (nothing_left _ y.sessions.items (p.0 ∙ ap (map _) none))))
    c.loop-lane.invariant.seated c.loop-lane.invariant.gone
