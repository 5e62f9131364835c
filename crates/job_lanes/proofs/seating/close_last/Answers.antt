use Rattle.std.proofs.Common.{◌≡◌, ◌+◌, ◌-◌, ℕ, suc, List, [], ◌∷◌, ◌++◌, length, Contains, refl, sym, ap, subst, ◌∙◌, arith}
use Rattle.std.specs.List.{range_with_len}
use Rattle.std.proofs.lemmas.List.Elements.{Contains-push}
use Rattle.bq_model.specs.declared.group.Group.{Group}
use Rattle.bq_model.specs.Grows.{SawMore}
use Rattle.bq_model.proofs.Growing.{SawMore-refl, SawMore-trans}
use Rattle.job_lanes.specs.Seats.{seat}
use Rattle.job_lanes.specs.Rows.{Ends}
use Rattle.job_lanes.proofs.Dealing.{Dealt-start, Dealt-next, Dealt-length, Dealt-same, Dealt-weaker, Dealt-end, at_place, both_last, seat_parts, Ends-weaker, Longer-weaker, held}
use Rattle.job_lanes.proofs.seating.close_last.Goals as goal

pub end_last-all-requires-clause-nothing_pending : goal.end_last-all-requires-clause-nothing_pending
end_last-all-requires-clause-nothing_pending g c κs within = λ d.
    let lane = g.L.Lane in
    Ends-weaker (λ s h. h.1) (at_place (λ n desk. Ends
    (λ s. (seat (lane.pass_identity s.pass) (lane.pass_shape s.pass) (lane.callers s.pass) ≡ seat (lane.identity c.args.lane) (lane.lane_shape c.args.lane) (n ∷ [])) × (s.pending ≡ [])) desk.sessions.items)
    c.args.desks.now.items (c.len-at.result - 1) d (omega (arith, c.len-at.ensures, c.args.desks.now.ok, c.requires.some)) c.requires.seated)

pub loop-at-init : goal.loop-at-init
loop-at-init g c =
    let lane = g.L.Lane in
    let old = c.args.desks.now.items in
    let at = c.len-at.result - 1 in
    let taken = c.end_last-all.ensures.taken in
    let count : suc at ≡ length old = omega (arith, c.len-at.ensures, c.args.desks.now.ok, c.requires.some) in
    let ends = at_place (λ n desk. Ends
    (λ s. (seat (lane.pass_identity s.pass) (lane.pass_shape s.pass) (lane.callers s.pass) ≡ seat (lane.identity c.args.lane) (lane.lane_shape c.args.lane) (n ∷ [])) × (s.pending ≡ [])) desk.sessions.items)
    old at taken.0 (omega (arith, count)) c.requires.seated in
    let last = taken.2 taken.0 in
    let parts = seat_parts (both_last _ _ ends last).0 in
    let callers = sym (ap lane.callers last.holds) ∙ parts.2 in
    record {
      identity = sym (ap lane.pass_identity last.holds) ∙ parts.0;
      shape = sym (ap lane.pass_shape last.holds) ∙ parts.1;
      callers = callers ∙ ap (λ (cs : List ℕ). range_with_len at (length cs)) (sym callers);
      all = ap (λ (cs : List ℕ). length cs + at) callers ∙ omega (arith, count);
      dealt = Dealt-next (length old) at old old _ taken.0 taken.0 (sym count) (omega (arith, count)) taken.1 (Dealt-start _ old refl)
          (Longer-weaker (λ s e. subst (λ (h : List Group). SawMore at h (lane.seen c.end_last-all.result)) (sym (ap lane.seen e)) (SawMore-refl at (lane.seen c.end_last-all.result))) last);
    }

pub end_last-pass-requires-clause-within : goal.end_last-pass-requires-clause-within
end_last-pass-requires-clause-within g c κs within =
    let count = Dealt-length _ _ _ c.loop-at.invariant.dealt in
    omega (arith, count, c.loop-at.invariant.all, c.loop-at-test.true)

pub end_last-pass-requires-clause-nothing_pending : goal.end_last-pass-requires-clause-nothing_pending
end_last-pass-requires-clause-nothing_pending g c κs within = λ d.
    let lane = g.L.Lane in
    let ends = at_place (λ n desk. Ends
    (λ s. (seat (lane.pass_identity s.pass) (lane.pass_shape s.pass) (lane.callers s.pass) ≡ seat (lane.identity c.args.lane) (lane.lane_shape c.args.lane) (n ∷ [])) × (s.pending ≡ [])) desk.sessions.items)
    c.args.desks.now.items (c.loop-at.at - 1) d (omega (arith, c.loop-at.invariant.all, c.loop-at-test.true)) c.requires.seated in
    rw (Dealt-same c.loop-at.at c.args.desks.now.items c.loop-at.desks.items (c.loop-at.at - 1) d (omega (arith, c.loop-at-test.true)) c.loop-at.invariant.dealt) (Ends-weaker (λ s h. h.1) ends)

pub gather-all-requires-clause-first_of_this_lane : goal.gather-all-requires-clause-first_of_this_lane
gather-all-requires-clause-first_of_this_lane g c =
    let lane = g.L.Lane in
    let taken = c.end_last-pass.ensures.taken in
    let ends = at_place (λ n desk. Ends
    (λ s. (seat (lane.pass_identity s.pass) (lane.pass_shape s.pass) (lane.callers s.pass) ≡ seat (lane.identity c.args.lane) (lane.lane_shape c.args.lane) (n ∷ [])) × (s.pending ≡ [])) desk.sessions.items)
    c.args.desks.now.items (c.loop-at.at - 1) taken.0 (omega (arith, c.loop-at.invariant.all, c.loop-at-test.true)) c.requires.seated in
    let same = Dealt-same c.loop-at.at c.args.desks.now.items c.loop-at.desks.items (c.loop-at.at - 1) taken.0 (omega (arith, c.loop-at-test.true)) c.loop-at.invariant.dealt in
    let last = taken.2 taken.0 in
    let parts = seat_parts (both_last _ _ (subst (λ desk. Ends (λ s. (seat (lane.pass_identity s.pass) (lane.pass_shape s.pass) (lane.callers s.pass) ≡ seat (lane.identity c.args.lane) (lane.lane_shape c.args.lane) ((c.loop-at.at - 1) ∷ [])) × (s.pending ≡ [])) desk.sessions.items) (sym same) ends) last).0 in
    (sym (ap lane.pass_identity last.holds) ∙ parts.0, sym (ap lane.pass_shape last.holds) ∙ parts.1)

pub loop-at-preserved : goal.loop-at-preserved
loop-at-preserved g c =
    let lane = g.L.Lane in
    let at = c.loop-at.at - 1 in
    let old = c.args.desks.now.items in
    let kept = c.loop-at.invariant in
    let gathered = c.gather-all.ensures in
    let taken = c.end_last-pass.ensures.taken in
    let ends = at_place (λ n desk. Ends
    (λ s. (seat (lane.pass_identity s.pass) (lane.pass_shape s.pass) (lane.callers s.pass) ≡ seat (lane.identity c.args.lane) (lane.lane_shape c.args.lane) (n ∷ [])) × (s.pending ≡ [])) desk.sessions.items)
    c.args.desks.now.items (c.loop-at.at - 1) taken.0 (omega (arith, c.loop-at.invariant.all, c.loop-at-test.true)) c.requires.seated in
    let same = Dealt-same c.loop-at.at old c.loop-at.desks.items at taken.0 (omega (arith, c.loop-at-test.true)) kept.dealt in
    let count = Dealt-length _ _ _ kept.dealt in
    let last = taken.2 taken.0 in
    let parts = seat_parts (both_last _ _ (subst (λ desk. Ends (λ s. (seat (lane.pass_identity s.pass) (lane.pass_shape s.pass) (lane.callers s.pass) ≡ seat (lane.identity c.args.lane) (lane.lane_shape c.args.lane) ((c.loop-at.at - 1) ∷ [])) × (s.pending ≡ [])) desk.sessions.items) (sym same) ends) last).0 in
    let own : lane.callers c.end_last-pass.result ≡ at ∷ [] = sym (ap lane.callers last.holds) ∙ parts.2 in
    let callers = gathered.of_both ∙ ap (λ (cs : List ℕ). cs ++ lane.callers c.loop-at.all) own in
    let more : length (lane.callers c.gather-all.result) ≡ suc (length (lane.callers c.loop-at.all)) = ap length callers in
    record {
      identity = gathered.of_this_lane.0;
      shape = gathered.of_this_lane.1;
      callers = callers ∙ ap (λ (cs : List ℕ). at ∷ cs) (kept.callers ∙ ap (λ (k : ℕ). range_with_len k (length (lane.callers c.loop-at.all))) (let e : c.loop-at.at ≡ at + 1 = omega (arith, c.loop-at-test.true) in e)) ∙ ap (range_with_len at) (sym more);
      all = omega (arith, more, kept.all, c.loop-at-test.true);
      dealt = Dealt-next c.loop-at.at at old c.loop-at.desks.items _ taken.0 taken.0 (omega (arith, c.loop-at-test.true)) (omega (arith, count, kept.all, c.loop-at-test.true)) taken.1
          (Dealt-weaker c.loop-at.at old c.loop-at.desks.items
          (λ n x y l m r. Longer-weaker (λ s h. SawMore-trans n _ _ _ h (gathered.goes_on_the_second n (held (lane.callers c.loop-at.all) c.loop-at.at (length (lane.callers c.loop-at.all)) n kept.callers l (omega (arith, m, kept.all))))) r) kept.dealt)
          (Longer-weaker (λ s e. subst (λ (h : List Group). SawMore at h (lane.seen c.gather-all.result)) (sym (ap lane.seen e)) (gathered.goes_on_the_first at (subst (λ (cs : List ℕ). Contains cs at) (sym own) (Contains-push [] at)))) last);
    }

pub close-requires-clause-every_caller : goal.close-requires-clause-every_caller
close-requires-clause-every_caller g c = λ n l.
    held (g.L.Lane.callers c.loop-at.all) c.loop-at.at (length (g.L.Lane.callers c.loop-at.all)) n c.loop-at.invariant.callers (omega (arith, c.loop-at-test.false)) (omega (arith, l, c.requires.callers, c.loop-at.invariant.all))

pub returns-clause-begun : goal.returns-clause-begun
returns-clause-begun g c =
    Dealt-end c.loop-at.at c.args.desks.now.items c.loop-at.desks.items (omega (arith, c.loop-at-test.false))
    (Dealt-weaker c.loop-at.at c.args.desks.now.items c.loop-at.desks.items (λ n x y l m r. Longer-weaker (λ s h. subst (λ (k : List Group). SawMore n (g.L.Lane.seen s.pass) k) (sym c.close.ensures.history) h) r) c.loop-at.invariant.dealt)
