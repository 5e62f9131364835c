use Rattle.std.proofs.Common.{◌≡◌, ◌≤◌, ◌+◌, ℕ, List, [], ◌∷◌, length, refl, sym, ap, subst, ◌∙◌, arith, inl}
use Rattle.std.specs.List.{range_with_len}
use Rattle.bq_model.specs.declared.op.Op.TheVariants.{Deq}
use Rattle.bq_model.specs.Values.{enqueued}
use Rattle.bq_model.specs.Grows.{SawMore}
use Rattle.bq_model.specs.Rooms.{PassesAllowance}
use Rattle.bq_session.specs.Outcome.{made_by}
use Rattle.bulk_dispatcher.specs.declared.reply.Reply.{Reply}
use Rattle.bulk_dispatcher.specs.declared.round.Round.TheVariants as round
use Rattle.bulk_dispatcher.specs.Hands.{Answered}
use Rattle.bulk_dispatcher.specs.UnitOps.{unit_ops}
use Rattle.bulk_dispatcher.proofs.Few.{tries-begin, tries-full, tries-dequeue, unit_short, unit_enqueues}
use Rattle.bulk_dispatcher.proofs.Rounds.{rest_holds, holds_as, nothing_put, nothing_put-saw_more, answered_none, answered-saw_more, round_from, answered_round, nothing_round, unit_round, came_from, met_try, less_left, at_some, at_none}
use Rattle.bulk_dispatcher.proofs.unit.put_unit.Goals as goal

pub tries-init : goal.tries-init
tries-init g c =
    let seen = g.L.Lane.seen c.args.session.now.pass in
    record {
      rests = rest_holds c.requires.at_rest;
      held = c.in_ok-held.ensures.items;
      capacity = omega (arith, c.in_ok-held.ensures.exact);
      put = nothing_put c.args.hand seen;
      few = tries-begin c.args.hand seen;
      answered = answered_none c.args.jobs.now c.args.session.now.futures.lane c.args.hand seen c.args.replies.now.items;
      identity = refl;
      shape = refl;
      callers = refl;
    }

pub returns-in-Made-clause-put : goal.returns-in-Made-clause-put
returns-in-Made-clause-put g c =
    let lane = g.L.Lane in
    let kept = c.tries.invariant in
    let shape = lane.lane_shape c.args.lane.now in
    let number = c.args.session.now.futures.lane in
    let hand = c.args.hand in
    let wanted = unit_ops (range_with_len c.args.first c.args.count) in
    let start = lane.seen c.args.session.now.pass in
    let now = lane.seen c.tries.session.pass in
    let one = c.defer_unit.new.session in
    let two = c.make_round.new.session in
    let pending = c.defer_unit.ensures.holds in
    let at : one.futures.lane ≡ number = pending.lane ∙ kept.rests.lane in
    let whose : one.futures.caller ≡ hand = pending.caller ∙ kept.rests.caller in
    let saw : lane.seen one.pass ≡ now = ap lane.seen c.defer_unit.ensures.pass_stays in
    let came = came_from shape c.args.jobs.now number hand one.futures.lane one.futures.caller one.pending wanted (lane.seen one.pass) now (lane.seen two.pass) c.tries.replies.items c.make_round.new.replies.items c.in_ok-came.came (round.Made c.in-Made.empty) c.in_ok-came.ensures.came at whose pending.pending saw c.in-Made.is in
    unit_round c.args.jobs.now number hand c.args.first c.args.count start now (lane.seen two.pass) c.tries.replies.items c.make_round.new.replies.items c.in-Made.empty c.requires.unit kept.few kept.put came.0

pub returns-in-Made-clause-answered : goal.returns-in-Made-clause-answered
returns-in-Made-clause-answered g c =
    let lane = g.L.Lane in
    let kept = c.tries.invariant in
    let shape = lane.lane_shape c.args.lane.now in
    let number = c.args.session.now.futures.lane in
    let hand = c.args.hand in
    let wanted = unit_ops (range_with_len c.args.first c.args.count) in
    let start = lane.seen c.args.session.now.pass in
    let now = lane.seen c.tries.session.pass in
    let one = c.defer_unit.new.session in
    let two = c.make_round.new.session in
    let pending = c.defer_unit.ensures.holds in
    let at : one.futures.lane ≡ number = pending.lane ∙ kept.rests.lane in
    let whose : one.futures.caller ≡ hand = pending.caller ∙ kept.rests.caller in
    let saw : lane.seen one.pass ≡ now = ap lane.seen c.defer_unit.ensures.pass_stays in
    let came = came_from shape c.args.jobs.now number hand one.futures.lane one.futures.caller one.pending wanted (lane.seen one.pass) now (lane.seen two.pass) c.tries.replies.items c.make_round.new.replies.items c.in_ok-came.came (round.Made c.in-Made.empty) c.in_ok-came.ensures.came at whose pending.pending saw c.in-Made.is in
    answered_round c.args.jobs.now number hand wanted start now (lane.seen two.pass) c.args.replies.now.items c.tries.replies.items c.make_round.new.replies.items c.in-Made.empty kept.answered came.0

pub returns-in-Spent-clause-put : goal.returns-in-Spent-clause-put
returns-in-Spent-clause-put g c =
    let lane = g.L.Lane in
    let kept = c.tries.invariant in
    let shape = lane.lane_shape c.args.lane.now in
    let number = c.args.session.now.futures.lane in
    let hand = c.args.hand in
    let wanted = unit_ops (range_with_len c.args.first c.args.count) in
    let start = lane.seen c.args.session.now.pass in
    let now = lane.seen c.tries.session.pass in
    let one = c.defer_unit.new.session in
    let two = c.make_round.new.session in
    let pending = c.defer_unit.ensures.holds in
    let at : one.futures.lane ≡ number = pending.lane ∙ kept.rests.lane in
    let whose : one.futures.caller ≡ hand = pending.caller ∙ kept.rests.caller in
    let saw : lane.seen one.pass ≡ now = ap lane.seen c.defer_unit.ensures.pass_stays in
    let came = came_from shape c.args.jobs.now number hand one.futures.lane one.futures.caller one.pending wanted (lane.seen one.pass) now (lane.seen two.pass) c.tries.replies.items c.make_round.new.replies.items c.in_ok-came.came round.Spent c.in_ok-came.ensures.came at whose pending.pending saw c.in-Spent.is in
    met_try shape hand wanted start now (lane.seen two.pass) c.requires.serves (let short = unit_short c.args.first c.args.count c.requires.unit in omega (arith, short)) kept.put kept.few came.0 came.2

pub returns-in-Spent-clause-answered : goal.returns-in-Spent-clause-answered
returns-in-Spent-clause-answered g c =
    let lane = g.L.Lane in
    let kept = c.tries.invariant in
    let shape = lane.lane_shape c.args.lane.now in
    let number = c.args.session.now.futures.lane in
    let hand = c.args.hand in
    let wanted = unit_ops (range_with_len c.args.first c.args.count) in
    let start = lane.seen c.args.session.now.pass in
    let now = lane.seen c.tries.session.pass in
    let one = c.defer_unit.new.session in
    let two = c.make_round.new.session in
    let pending = c.defer_unit.ensures.holds in
    let at : one.futures.lane ≡ number = pending.lane ∙ kept.rests.lane in
    let whose : one.futures.caller ≡ hand = pending.caller ∙ kept.rests.caller in
    let saw : lane.seen one.pass ≡ now = ap lane.seen c.defer_unit.ensures.pass_stays in
    let came = came_from shape c.args.jobs.now number hand one.futures.lane one.futures.caller one.pending wanted (lane.seen one.pass) now (lane.seen two.pass) c.tries.replies.items c.make_round.new.replies.items c.in_ok-came.came round.Spent c.in_ok-came.ensures.came at whose pending.pending saw c.in-Spent.is in
    subst (λ (rs : List Reply). Answered c.args.jobs.now number hand start (lane.seen two.pass) c.args.replies.now.items rs) (sym came.1)
    (answered-saw_more c.args.jobs.now number hand start now (lane.seen two.pass) c.args.replies.now.items c.tries.replies.items kept.answered came.0)

pub returns-in-None-clause-put : goal.returns-in-None-clause-put
returns-in-None-clause-put g c =
    let lane = g.L.Lane in
    let kept = c.tries.invariant in
    let shape = lane.lane_shape c.args.lane.now in
    let number = c.args.session.now.futures.lane in
    let hand = c.args.hand in
    let wanted = unit_ops (range_with_len c.args.first c.args.count) in
    let start = lane.seen c.args.session.now.pass in
    let now = lane.seen c.tries.session.pass in
    let one = c.defer_unit.new.session in
    let two = c.make_round.new.session in
    let pending = c.defer_unit.ensures.holds in
    let at : one.futures.lane ≡ number = pending.lane ∙ kept.rests.lane in
    let whose : one.futures.caller ≡ hand = pending.caller ∙ kept.rests.caller in
    let saw : lane.seen one.pass ≡ now = ap lane.seen c.defer_unit.ensures.pass_stays in
    let came = came_from shape c.args.jobs.now number hand one.futures.lane one.futures.caller one.pending wanted (lane.seen one.pass) now (lane.seen two.pass) c.tries.replies.items c.make_round.new.replies.items c.in_ok-came.came round.Full c.in_ok-came.ensures.came at whose pending.pending saw c.in-Full.is in
    let enqueues : length (enqueued wanted) ≤ 256 = (let some = unit_enqueues c.args.first c.args.count in let most = c.requires.unit in omega (arith, some, most)) in
    let found = tries-full shape hand wanted start now (lane.seen two.pass) c.requires.serves enqueues kept.few came.0 came.3 in
    let rests = c.in_ok-came.ensures.holds in
    let three = c.dequeue_round.new.session in
    let put = nothing_put-saw_more hand start now (lane.seen two.pass) kept.put came.0 in
    let asked : Answered c.args.jobs.now number hand start (lane.seen two.pass) c.args.replies.now.items c.make_round.new.replies.items =
    subst (λ (rs : List Reply). Answered c.args.jobs.now number hand start (lane.seen two.pass) c.args.replies.now.items rs) (sym came.1)
    (answered-saw_more c.args.jobs.now number hand start now (lane.seen two.pass) c.args.replies.now.items c.tries.replies.items kept.answered came.0) in
    let none = at_none _ _ c.in_ok-found.found c.in-None.is c.in_ok-found.ensures.made in
    met_try shape hand (Deq ∷ []) start (lane.seen two.pass) (lane.seen three.pass) c.requires.serves (omega arith) put (inl found)
    (subst (λ (n : ℕ). SawMore n (lane.seen two.pass) (lane.seen three.pass)) (rests.caller ∙ whose) none.0) (subst (λ (n : ℕ). PassesAllowance shape (lane.seen two.pass) n (Deq ∷ [])) (rests.caller ∙ whose) none.2)

pub returns-in-None-clause-answered : goal.returns-in-None-clause-answered
returns-in-None-clause-answered g c =
    let lane = g.L.Lane in
    let kept = c.tries.invariant in
    let shape = lane.lane_shape c.args.lane.now in
    let number = c.args.session.now.futures.lane in
    let hand = c.args.hand in
    let wanted = unit_ops (range_with_len c.args.first c.args.count) in
    let start = lane.seen c.args.session.now.pass in
    let now = lane.seen c.tries.session.pass in
    let one = c.defer_unit.new.session in
    let two = c.make_round.new.session in
    let pending = c.defer_unit.ensures.holds in
    let at : one.futures.lane ≡ number = pending.lane ∙ kept.rests.lane in
    let whose : one.futures.caller ≡ hand = pending.caller ∙ kept.rests.caller in
    let saw : lane.seen one.pass ≡ now = ap lane.seen c.defer_unit.ensures.pass_stays in
    let came = came_from shape c.args.jobs.now number hand one.futures.lane one.futures.caller one.pending wanted (lane.seen one.pass) now (lane.seen two.pass) c.tries.replies.items c.make_round.new.replies.items c.in_ok-came.came round.Full c.in_ok-came.ensures.came at whose pending.pending saw c.in-Full.is in
    let enqueues : length (enqueued wanted) ≤ 256 = (let some = unit_enqueues c.args.first c.args.count in let most = c.requires.unit in omega (arith, some, most)) in
    let found = tries-full shape hand wanted start now (lane.seen two.pass) c.requires.serves enqueues kept.few came.0 came.3 in
    let rests = c.in_ok-came.ensures.holds in
    let three = c.dequeue_round.new.session in
    let put = nothing_put-saw_more hand start now (lane.seen two.pass) kept.put came.0 in
    let asked : Answered c.args.jobs.now number hand start (lane.seen two.pass) c.args.replies.now.items c.make_round.new.replies.items =
    subst (λ (rs : List Reply). Answered c.args.jobs.now number hand start (lane.seen two.pass) c.args.replies.now.items rs) (sym came.1)
    (answered-saw_more c.args.jobs.now number hand start now (lane.seen two.pass) c.args.replies.now.items c.tries.replies.items kept.answered came.0) in
    let none = at_none _ _ c.in_ok-found.found c.in-None.is c.in_ok-found.ensures.made in
    subst (λ (rs : List Reply). Answered c.args.jobs.now number hand start (lane.seen three.pass) c.args.replies.now.items rs) (sym none.1)
    (answered-saw_more c.args.jobs.now number hand start (lane.seen two.pass) (lane.seen three.pass) c.args.replies.now.items c.make_round.new.replies.items asked (subst (λ (n : ℕ). SawMore n (lane.seen two.pass) (lane.seen three.pass)) (rests.caller ∙ whose) none.0))

pub tries-preserved : goal.tries-preserved
tries-preserved g c =
    let lane = g.L.Lane in
    let kept = c.tries.invariant in
    let shape = lane.lane_shape c.args.lane.now in
    let number = c.args.session.now.futures.lane in
    let hand = c.args.hand in
    let wanted = unit_ops (range_with_len c.args.first c.args.count) in
    let start = lane.seen c.args.session.now.pass in
    let now = lane.seen c.tries.session.pass in
    let one = c.defer_unit.new.session in
    let two = c.make_round.new.session in
    let pending = c.defer_unit.ensures.holds in
    let at : one.futures.lane ≡ number = pending.lane ∙ kept.rests.lane in
    let whose : one.futures.caller ≡ hand = pending.caller ∙ kept.rests.caller in
    let saw : lane.seen one.pass ≡ now = ap lane.seen c.defer_unit.ensures.pass_stays in
    let came = came_from shape c.args.jobs.now number hand one.futures.lane one.futures.caller one.pending wanted (lane.seen one.pass) now (lane.seen two.pass) c.tries.replies.items c.make_round.new.replies.items c.in_ok-came.came round.Full c.in_ok-came.ensures.came at whose pending.pending saw c.in-Full.is in
    let enqueues : length (enqueued wanted) ≤ 256 = (let some = unit_enqueues c.args.first c.args.count in let most = c.requires.unit in omega (arith, some, most)) in
    let found = tries-full shape hand wanted start now (lane.seen two.pass) c.requires.serves enqueues kept.few came.0 came.3 in
    let rests = c.in_ok-came.ensures.holds in
    let three = c.dequeue_round.new.session in
    let put = nothing_put-saw_more hand start now (lane.seen two.pass) kept.put came.0 in
    let asked : Answered c.args.jobs.now number hand start (lane.seen two.pass) c.args.replies.now.items c.make_round.new.replies.items =
    subst (λ (rs : List Reply). Answered c.args.jobs.now number hand start (lane.seen two.pass) c.args.replies.now.items rs) (sym came.1)
    (answered-saw_more c.args.jobs.now number hand start now (lane.seen two.pass) c.args.replies.now.items c.tries.replies.items kept.answered came.0) in
    let made = at_some _ _ c.in_ok-found.found c.in-Some.field-0 c.in-Some.is c.in_ok-found.ensures.made in
    let round = round_from c.args.jobs.now number hand two.futures.lane two.futures.caller (Deq ∷ []) (Deq ∷ []) (lane.seen two.pass) (lane.seen two.pass) (lane.seen three.pass) c.make_round.new.replies.items c.dequeue_round.new.replies.items c.in-Some.field-0 made.0 (rests.lane ∙ at) (rests.caller ∙ whose) refl refl in
    record {
      rests = holds_as c.in_ok-found.ensures.holds (rests.lane ∙ at) (rests.caller ∙ whose);
      held = c.in_ok-came.ensures.none;
      capacity = omega (arith, kept.capacity, c.defer_unit.ensures.capacity_stays, c.in_ok-came.ensures.capacity);
      put = nothing_round c.args.jobs.now number hand (Deq ∷ []) start (lane.seen two.pass) (lane.seen three.pass) c.make_round.new.replies.items c.dequeue_round.new.replies.items _ put refl round;
      few = tries-dequeue hand round.answers start (lane.seen two.pass) (lane.seen three.pass) found round.made;
      answered = answered_round c.args.jobs.now number hand (Deq ∷ []) start (lane.seen two.pass) (lane.seen three.pass) c.args.replies.now.items c.make_round.new.replies.items c.dequeue_round.new.replies.items _ asked round;
      identity = c.dequeue_round.ensures.pass_stays.0 ∙ c.make_round.ensures.pass_stays.0 ∙ ap lane.pass_identity c.defer_unit.ensures.pass_stays ∙ kept.identity;
      shape = c.dequeue_round.ensures.pass_stays.1 ∙ c.make_round.ensures.pass_stays.1 ∙ ap lane.pass_shape c.defer_unit.ensures.pass_stays ∙ kept.shape;
      callers = c.dequeue_round.ensures.pass_stays.2 ∙ c.make_round.ensures.pass_stays.2 ∙ ap lane.callers c.defer_unit.ensures.pass_stays ∙ kept.callers;
    }

pub tries-smaller : goal.tries-smaller
tries-smaller g c =
    let lane = g.L.Lane in
    let kept = c.tries.invariant in
    let shape = lane.lane_shape c.args.lane.now in
    let number = c.args.session.now.futures.lane in
    let hand = c.args.hand in
    let wanted = unit_ops (range_with_len c.args.first c.args.count) in
    let start = lane.seen c.args.session.now.pass in
    let now = lane.seen c.tries.session.pass in
    let one = c.defer_unit.new.session in
    let two = c.make_round.new.session in
    let pending = c.defer_unit.ensures.holds in
    let at : one.futures.lane ≡ number = pending.lane ∙ kept.rests.lane in
    let whose : one.futures.caller ≡ hand = pending.caller ∙ kept.rests.caller in
    let saw : lane.seen one.pass ≡ now = ap lane.seen c.defer_unit.ensures.pass_stays in
    let came = came_from shape c.args.jobs.now number hand one.futures.lane one.futures.caller one.pending wanted (lane.seen one.pass) now (lane.seen two.pass) c.tries.replies.items c.make_round.new.replies.items c.in_ok-came.came round.Full c.in_ok-came.ensures.came at whose pending.pending saw c.in-Full.is in
    let enqueues : length (enqueued wanted) ≤ 256 = (let some = unit_enqueues c.args.first c.args.count in let most = c.requires.unit in omega (arith, some, most)) in
    let found = tries-full shape hand wanted start now (lane.seen two.pass) c.requires.serves enqueues kept.few came.0 came.3 in
    let rests = c.in_ok-came.ensures.holds in
    let three = c.dequeue_round.new.session in
    let put = nothing_put-saw_more hand start now (lane.seen two.pass) kept.put came.0 in
    let asked : Answered c.args.jobs.now number hand start (lane.seen two.pass) c.args.replies.now.items c.make_round.new.replies.items =
    subst (λ (rs : List Reply). Answered c.args.jobs.now number hand start (lane.seen two.pass) c.args.replies.now.items rs) (sym came.1)
    (answered-saw_more c.args.jobs.now number hand start now (lane.seen two.pass) c.args.replies.now.items c.tries.replies.items kept.answered came.0) in
    let made = at_some _ _ c.in_ok-found.found c.in-Some.field-0 c.in-Some.is c.in_ok-found.ensures.made in
    let round = round_from c.args.jobs.now number hand two.futures.lane two.futures.caller (Deq ∷ []) (Deq ∷ []) (lane.seen two.pass) (lane.seen two.pass) (lane.seen three.pass) c.make_round.new.replies.items c.dequeue_round.new.replies.items c.in-Some.field-0 made.0 (rests.lane ∙ at) (rests.caller ∙ whose) refl refl in
    less_left shape.allowance hand (Deq ∷ []) round.answers now (lane.seen two.pass) (lane.seen three.pass) came.0 round.made (omega arith)
    (subst (λ (n : ℕ). made_by (lane.seen two.pass) n + 1 ≤ shape.allowance) (rests.caller ∙ whose) made.1)
