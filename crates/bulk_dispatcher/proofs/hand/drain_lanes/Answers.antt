use Rattle.std.proofs.Common.{◌≡◌, ℕ, List, length, map, get_or, sym, subst, arith}
use Rattle.std.proofs.lemmas.List.{take_all}
use Rattle.std.specs.List.{AllZip}
use Rattle.bq_model.specs.declared.group.Group.{Group}
use Rattle.job_text.specs.declared.file.Unit.{Unit as JobUnit}
use Rattle.bulk_dispatcher.specs.declared.reply.Reply.{Reply}
use Rattle.bulk_dispatcher.specs.declared.work.Work.{Work}
use Rattle.bulk_dispatcher.specs.Hands.{units_of, HandPut, Answered, EndsLane, OnOneLane}
use Rattle.bulk_dispatcher.specs.Stops.{MetSpent, AtWork}
use Rattle.bulk_dispatcher.proofs.Progress.{drained_next, all_drained, answered_next, put_of_tried, few_of_tried, stopped_at, one_place}
use Rattle.bulk_dispatcher.proofs.Units.{units_at_most}
use Rattle.bulk_dispatcher.proofs.Zips.{zip_length}
use Rattle.bulk_dispatcher.proofs.hand.drain_lanes.Goals as goal

abbrev Drained : (file : List JobUnit) (batch lane c : ℕ) (before after : List Reply) (numbers : List ℕ) (seen news : List (List Group)) → Work → Type 0
Drained file batch lane c before after numbers seen news work = OnOneLane (λ old new. AtWork work (EndsLane batch c old new) (MetSpent c old new) × Answered file lane c old new before after) numbers lane seen news

pub loop-k-init : goal.loop-k-init
loop-k-init g c =
    let hand = c.args.part.hand in
    let units = λ (n : ℕ). units_of c.args.jobs.now c.args.part.hands n hand in
    let seen = map (λ s. g.L.Lane.seen s.pass) c.args.desk.now.sessions.items in
    record {
      seats = c.requires.seats;
      at_rest = c.requires.at_rest;
      put = put_of_tried c.args.numbers.now seen hand units c.requires.put;
      ended = λ j l. absurd (omega (arith, l));
      fresh = λ j l. few_of_tried c.args.numbers.now seen hand (length c.args.jobs.now) units (λ n. units_at_most c.args.jobs.now c.args.part.hands n hand) c.requires.put j;
      replied = c.requires.replied;
    }

pub loop-k-preserved : goal.loop-k-preserved
loop-k-preserved g c =
    let kept = c.loop-k.invariant in
    let hand = c.args.part.hand in
    let numbers = c.args.numbers.now in
    let seen = map (λ s. g.L.Lane.seen s.pass) c.loop-k.desk.sessions.items in
    let news = map (λ s. g.L.Lane.seen s.pass) c.drain_next.new.desk.sessions.items in
    let done = subst (Drained c.args.jobs.now c.args.part.batch (get_or numbers c.loop-k.k 0) hand c.loop-k.replies.items c.drain_next.new.replies.items numbers seen news) c.in-Done.is c.in_ok-work.ensures.drained in
    let next = drained_next numbers seen news c.args.part.batch hand c.loop-k.k (λ n. units_of c.args.jobs.now c.args.part.hands n hand)
    (λ old new. Answered c.args.jobs.now (get_or numbers c.loop-k.k 0) hand old new c.loop-k.replies.items c.drain_next.new.replies.items) c.requires.rise c.loop-k-test.true done kept.put kept.ended _ kept.fresh in
    record {
      seats = c.in_ok-work.ensures.seats;
      at_rest = c.in_ok-work.ensures.at_rest;
      put = next.0;
      ended = next.1;
      fresh = next.2;
      replied = answered_next c.args.jobs.now numbers (get_or numbers c.loop-k.k 0) hand _ _ c.loop-k.replies.items c.drain_next.new.replies.items _ c.requires.rise c.in_ok-work.ensures.drained kept.replied;
    }

pub returns-in-Spent-clause-did : goal.returns-in-Spent-clause-did
returns-in-Spent-clause-did g c =
    let kept = c.loop-k.invariant in
    let hand = c.args.part.hand in
    let numbers = c.args.numbers.now in
    let jobs = c.args.jobs.now in
    let seen = map (λ s. g.L.Lane.seen s.pass) c.loop-k.desk.sessions.items in
    let news = map (λ s. g.L.Lane.seen s.pass) c.drain_next.new.desk.sessions.items in
    let met = subst (Drained jobs c.args.part.batch (get_or numbers c.loop-k.k 0) hand c.loop-k.replies.items c.drain_next.new.replies.items numbers seen news) c.in-Spent.is c.in_ok-work.ensures.drained in
    let place : met.place ≡ c.loop-k.k = one_place numbers met.place c.loop-k.k c.requires.rise met.within c.loop-k-test.true met.found in
    let all = subst (λ us. AllZip (λ n x. HandPut (units_of us c.args.part.hands n hand) hand x) numbers seen) (sym (take_all (length jobs) jobs (omega arith))) kept.put in
    stopped_at jobs numbers (get_or numbers c.loop-k.k 0) c.args.part.hands hand (length jobs) seen news _ met all (kept.fresh met.place (omega (arith, place)))

pub returns-in-Spent-clause-replied : goal.returns-in-Spent-clause-replied
returns-in-Spent-clause-replied g c =
    answered_next c.args.jobs.now c.args.numbers.now (get_or c.args.numbers.now c.loop-k.k 0) c.args.part.hand _ _ c.loop-k.replies.items c.drain_next.new.replies.items _ c.requires.rise c.in_ok-work.ensures.drained c.loop-k.invariant.replied

pub returns-clause-did : goal.returns-clause-did
returns-clause-did g c =
    let kept = c.loop-k.invariant in
    let many = zip_length _ _ _ kept.put in
    all_drained c.args.numbers.now _ c.args.part.batch c.args.part.hand c.loop-k.k (λ n. units_of c.args.jobs.now c.args.part.hands n c.args.part.hand) (omega (arith, many, c.loop-k-test.false)) kept.put kept.ended
