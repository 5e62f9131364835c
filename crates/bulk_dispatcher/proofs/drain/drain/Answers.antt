use Rattle.std.proofs.Common.{◌+◌, ◌≤◌, ℕ, List, replicate, refl, sym, subst, ◌∙◌, arith, inl}
use Rattle.std.proofs.lemmas.List.{length-replicate}
use Rattle.bq_model.specs.declared.op.Op.TheVariants.{Deq}
use Rattle.bq_model.specs.Grows.{SawMore}
use Rattle.bq_model.specs.Rooms.{PassesAllowance}
use Rattle.bq_model.proofs.Growing.{SawMore-refl}
use Rattle.bq_session.specs.Outcome.{made_by}
use Rattle.bulk_dispatcher.specs.declared.reply.Reply.{Reply}
use Rattle.bulk_dispatcher.specs.Hands.{Answered}
use Rattle.bulk_dispatcher.proofs.Few.{batch_found}
use Rattle.bulk_dispatcher.proofs.Rounds.{rest_holds, holds_as, nothing_put, nothing_round, answered_none, answered_round, answered-saw_more, batch_ends, dequeues_none, round_as, at_some, at_none, met_try, less_left}
use Rattle.bulk_dispatcher.proofs.drain.drain.Goals as goal

pub rounds-init : goal.rounds-init
rounds-init g c =
    let seen = g.L.Lane.seen c.args.session.now.pass in
    record {
      rests = rest_holds c.requires.at_rest;
      held = c.in_ok-held.ensures.items;
      capacity = omega (arith, c.in_ok-held.ensures.exact);
      put = nothing_put c.args.hand seen;
      few = omega arith;
      answered = answered_none c.args.jobs.now c.args.session.now.futures.lane c.args.hand seen c.args.replies.now.items;
      identity = refl;
      shape = refl;
      callers = refl;
    }

pub returns-then-empty-clause-ends : goal.returns-then-empty-clause-ends
returns-then-empty-clause-ends g c =
    let lane = g.L.Lane in
    let kept = c.rounds.invariant in
    let shape = lane.lane_shape c.args.lane.now in
    let number = c.args.session.now.futures.lane in
    let hand = c.args.hand in
    let ops = replicate c.args.batch Deq in
    let start = lane.seen c.args.session.now.pass in
    let now = lane.seen c.rounds.session.pass in
    let next = lane.seen c.take_round.new.session.pass in
    let made = at_some _ _ c.in_ok-found.found c.in-Some.empty c.in-Some.is c.in_ok-found.ensures.made in
    let round = round_as c.args.jobs.now number hand c.rounds.session.futures.lane c.rounds.session.futures.caller ops now next c.rounds.replies.items c.take_round.new.replies.items c.in-Some.empty made.0 kept.rests.lane kept.rests.caller in
    batch_ends c.args.jobs.now number c.args.batch hand start now next c.rounds.replies.items c.take_round.new.replies.items c.in-Some.empty (omega (arith, c.requires.batch.0)) kept.put c.if-empty.true round

pub returns-then-empty-clause-answered : goal.returns-then-empty-clause-answered
returns-then-empty-clause-answered g c =
    let lane = g.L.Lane in
    let kept = c.rounds.invariant in
    let shape = lane.lane_shape c.args.lane.now in
    let number = c.args.session.now.futures.lane in
    let hand = c.args.hand in
    let ops = replicate c.args.batch Deq in
    let start = lane.seen c.args.session.now.pass in
    let now = lane.seen c.rounds.session.pass in
    let next = lane.seen c.take_round.new.session.pass in
    let made = at_some _ _ c.in_ok-found.found c.in-Some.empty c.in-Some.is c.in_ok-found.ensures.made in
    let round = round_as c.args.jobs.now number hand c.rounds.session.futures.lane c.rounds.session.futures.caller ops now next c.rounds.replies.items c.take_round.new.replies.items c.in-Some.empty made.0 kept.rests.lane kept.rests.caller in
    answered_round c.args.jobs.now number hand ops start now next c.args.replies.now.items c.rounds.replies.items c.take_round.new.replies.items c.in-Some.empty kept.answered round

pub returns-in-None-clause-ends : goal.returns-in-None-clause-ends
returns-in-None-clause-ends g c =
    let lane = g.L.Lane in
    let kept = c.rounds.invariant in
    let shape = lane.lane_shape c.args.lane.now in
    let number = c.args.session.now.futures.lane in
    let hand = c.args.hand in
    let ops = replicate c.args.batch Deq in
    let start = lane.seen c.args.session.now.pass in
    let now = lane.seen c.rounds.session.pass in
    let next = lane.seen c.take_round.new.session.pass in
    let none = at_none _ _ c.in_ok-found.found c.in-None.is c.in_ok-found.ensures.made in
    let more = subst (λ (n : ℕ). SawMore n now next) kept.rests.caller none.0 in
    met_try shape hand ops start now next c.requires.serves (let many = length-replicate c.args.batch Deq in let most = c.requires.batch.1 in omega (arith, many, most)) kept.put (inl kept.few) more
    (subst (λ (n : ℕ). PassesAllowance shape now n ops) kept.rests.caller none.2)

pub returns-in-None-clause-answered : goal.returns-in-None-clause-answered
returns-in-None-clause-answered g c =
    let lane = g.L.Lane in
    let kept = c.rounds.invariant in
    let shape = lane.lane_shape c.args.lane.now in
    let number = c.args.session.now.futures.lane in
    let hand = c.args.hand in
    let ops = replicate c.args.batch Deq in
    let start = lane.seen c.args.session.now.pass in
    let now = lane.seen c.rounds.session.pass in
    let next = lane.seen c.take_round.new.session.pass in
    let none = at_none _ _ c.in_ok-found.found c.in-None.is c.in_ok-found.ensures.made in
    let more = subst (λ (n : ℕ). SawMore n now next) kept.rests.caller none.0 in
    subst (λ (rs : List Reply). Answered c.args.jobs.now number hand start next c.args.replies.now.items rs) (sym none.1)
    (answered-saw_more c.args.jobs.now number hand start now next c.args.replies.now.items c.rounds.replies.items kept.answered more)

pub rounds-preserved : goal.rounds-preserved
rounds-preserved g c =
    let lane = g.L.Lane in
    let kept = c.rounds.invariant in
    let shape = lane.lane_shape c.args.lane.now in
    let number = c.args.session.now.futures.lane in
    let hand = c.args.hand in
    let ops = replicate c.args.batch Deq in
    let start = lane.seen c.args.session.now.pass in
    let now = lane.seen c.rounds.session.pass in
    let next = lane.seen c.take_round.new.session.pass in
    let made = at_some _ _ c.in_ok-found.found c.in-Some.empty c.in-Some.is c.in_ok-found.ensures.made in
    let round = round_as c.args.jobs.now number hand c.rounds.session.futures.lane c.rounds.session.futures.caller ops now next c.rounds.replies.items c.take_round.new.replies.items c.in-Some.empty made.0 kept.rests.lane kept.rests.caller in
    let done = c.in_ok-found.ensures in
    record {
      rests = holds_as done.holds kept.rests.lane kept.rests.caller;
      held = done.none;
      capacity = done.capacity;
      put = nothing_round c.args.jobs.now number hand ops start now next c.rounds.replies.items c.take_round.new.replies.items c.in-Some.empty kept.put (dequeues_none c.args.batch) round;
      few = (let same = batch_found hand c.args.batch round.answers now next round.made (sym round.ended ∙ c.if-empty.false) in let less = kept.few in omega (arith, same, less));
      answered = answered_round c.args.jobs.now number hand ops start now next c.args.replies.now.items c.rounds.replies.items c.take_round.new.replies.items c.in-Some.empty kept.answered round;
      identity = done.pass_stays.0 ∙ kept.identity;
      shape = done.pass_stays.1 ∙ kept.shape;
      callers = done.pass_stays.2 ∙ kept.callers;
    }

pub rounds-smaller : goal.rounds-smaller
rounds-smaller g c =
    let lane = g.L.Lane in
    let kept = c.rounds.invariant in
    let shape = lane.lane_shape c.args.lane.now in
    let number = c.args.session.now.futures.lane in
    let hand = c.args.hand in
    let ops = replicate c.args.batch Deq in
    let start = lane.seen c.args.session.now.pass in
    let now = lane.seen c.rounds.session.pass in
    let next = lane.seen c.take_round.new.session.pass in
    let made = at_some _ _ c.in_ok-found.found c.in-Some.empty c.in-Some.is c.in_ok-found.ensures.made in
    let round = round_as c.args.jobs.now number hand c.rounds.session.futures.lane c.rounds.session.futures.caller ops now next c.rounds.replies.items c.take_round.new.replies.items c.in-Some.empty made.0 kept.rests.lane kept.rests.caller in
    let many = length-replicate c.args.batch Deq in
    let some = c.requires.batch.0 in
    less_left shape.allowance hand ops round.answers now now next (SawMore-refl hand now) round.made (omega (arith, many, some))
    (let within = subst (λ (n : ℕ). made_by now n + c.args.batch ≤ shape.allowance) kept.rests.caller made.1 in omega (arith, within, many))
