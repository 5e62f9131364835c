use Rattle.std.proofs.Common.{◌≡◌, ◌++◌, List, length, replicate, ap, ◌∙◌, arith, length-append}
use Rattle.std.proofs.lemmas.List.{length-replicate}
use Rattle.bq_model.specs.declared.op.Op.{Op}
use Rattle.bq_model.specs.declared.op.Op.TheVariants.{Deq}
use Rattle.hand_tickets.proofs.Holding.{held-count}
use Rattle.bulk_dispatcher.specs.declared.round.Round.TheVariants as round
use Rattle.bulk_dispatcher.proofs.Rounds.{start_pending, pending_own, came_from, dequeues_none}
use Rattle.bulk_dispatcher.proofs.drain.take_round.Goals as goal

pub defer_dequeues-requires-clause-holds : goal.defer_dequeues-requires-clause-holds
defer_dequeues-requires-clause-holds g c κs within = start_pending c.args.held.now.items c.args.session.now c.requires.holds c.requires.none

pub defer_dequeues-requires-clause-room : goal.defer_dequeues-requires-clause-room
defer_dequeues-requires-clause-room g c κs within =
    let none = ap length c.requires.holds.pending in
    (omega (arith, none, c.requires.batch.1), c.requires.capacity)

pub make_round-requires-clause-some : goal.make_round-requires-clause-some
make_round-requires-clause-some g c κs within =
    let count = held-count c.defer_dequeues.ensures.holds in
    let many = length-append c.args.session.now.pending (replicate c.args.batch Deq) in
    omega (arith, count, many, length-replicate c.args.batch Deq, c.requires.batch.0)

pub make_round-requires-clause-holds : goal.make_round-requires-clause-holds
make_round-requires-clause-holds g c κs within = pending_own c.defer_dequeues.new.session c.defer_dequeues.ensures.holds

pub returns-in-Made-clause-made : goal.returns-in-Made-clause-made
returns-in-Made-clause-made g c =
    let lane = g.L.Lane in
    let one = c.defer_dequeues.new.session in
    let pending = c.defer_dequeues.ensures.holds in
    let ops : one.pending ≡ replicate c.args.batch Deq = pending.pending ∙ ap (λ (os : List Op). os ++ replicate c.args.batch Deq) c.requires.holds.pending in
    let came = came_from (lane.lane_shape c.args.lane.now) c.args.jobs.now c.args.session.now.futures.lane c.args.session.now.futures.caller one.futures.lane one.futures.caller one.pending (replicate c.args.batch Deq) (lane.seen one.pass) (lane.seen c.args.session.now.pass) (lane.seen c.make_round.new.session.pass) c.args.replies.now.items c.make_round.new.replies.items
    c.in_ok-came.came (round.Made c.in-Made.empty) c.in_ok-came.ensures.came pending.lane pending.caller ops (ap lane.seen c.defer_dequeues.ensures.pass_stays) c.in-Made.is in
    (came.0, (let within = came.1 in let many = length-replicate c.args.batch Deq in omega (arith, within, many)))

pub returns-in-Spent-clause-made : goal.returns-in-Spent-clause-made
returns-in-Spent-clause-made g c =
    let lane = g.L.Lane in
    let one = c.defer_dequeues.new.session in
    let pending = c.defer_dequeues.ensures.holds in
    let ops : one.pending ≡ replicate c.args.batch Deq = pending.pending ∙ ap (λ (os : List Op). os ++ replicate c.args.batch Deq) c.requires.holds.pending in
    came_from (lane.lane_shape c.args.lane.now) c.args.jobs.now c.args.session.now.futures.lane c.args.session.now.futures.caller one.futures.lane one.futures.caller one.pending (replicate c.args.batch Deq) (lane.seen one.pass) (lane.seen c.args.session.now.pass) (lane.seen c.make_round.new.session.pass) c.args.replies.now.items c.make_round.new.replies.items
    c.in_ok-came.came round.Spent c.in_ok-came.ensures.came pending.lane pending.caller ops (ap lane.seen c.defer_dequeues.ensures.pass_stays) c.in-Spent.is

-- a batch of dequeues alone is never refused with Full
pub unreachable-requires : goal.unreachable-requires
unreachable-requires g c =
    let lane = g.L.Lane in
    let one = c.defer_dequeues.new.session in
    let pending = c.defer_dequeues.ensures.holds in
    let ops : one.pending ≡ replicate c.args.batch Deq = pending.pending ∙ ap (λ (os : List Op). os ++ replicate c.args.batch Deq) c.requires.holds.pending in
    let came = came_from (lane.lane_shape c.args.lane.now) c.args.jobs.now c.args.session.now.futures.lane c.args.session.now.futures.caller one.futures.lane one.futures.caller one.pending (replicate c.args.batch Deq) (lane.seen one.pass) (lane.seen c.args.session.now.pass) (lane.seen c.make_round.new.session.pass) c.args.replies.now.items c.make_round.new.replies.items
    c.in_ok-came.came round.Full c.in_ok-came.ensures.came pending.lane pending.caller ops (ap lane.seen c.defer_dequeues.ensures.pass_stays) c.in-Full.is in
    let none = ap length (dequeues_none c.args.batch) in
    let some = came.2 in
    absurd (omega (arith, some, none))
