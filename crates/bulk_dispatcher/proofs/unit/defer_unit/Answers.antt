use Rattle.std.proofs.Common.{◌≡◌, ◌/◌, ◌++◌, ◌∷◌, length, map, replicate, sym, ap, ◌∙◌, arith, length-append}
use Rattle.std.specs.List.{range_with_len}
use Rattle.std.proofs.lemmas.List.FromFn.{length-map-range_with_len, length-range_with_len}
use Rattle.bq_model.specs.declared.op.Op.TheVariants.{Enq, Deq}
use Rattle.bulk_dispatcher.specs.UnitOps.{unit_ops}
use Rattle.bulk_dispatcher.proofs.Rounds.{start_pending, pending_own, pending_as}
use Rattle.bulk_dispatcher.proofs.unit.defer_unit.Goals as goal

pub defer_dequeues-requires-clause-holds : goal.defer_dequeues-requires-clause-holds
defer_dequeues-requires-clause-holds g c κs within = start_pending c.args.held.now.items c.args.session.now c.requires.holds c.requires.none

pub defer_dequeues-requires-clause-room : goal.defer_dequeues-requires-clause-room
defer_dequeues-requires-clause-room g c κs within =
    let none = ap length c.requires.holds.pending in
    (omega (arith, none), c.requires.capacity)

pub defer_jobs-requires-clause-holds : goal.defer_jobs-requires-clause-holds
defer_jobs-requires-clause-holds g c κs within = pending_own c.defer_dequeues.new.session c.defer_dequeues.ensures.holds

pub defer_jobs-requires-clause-room : goal.defer_jobs-requires-clause-room
defer_jobs-requires-clause-room g c κs within =
    let none = ap length c.requires.holds.pending in
    let one = ap length c.defer_dequeues.ensures.holds.pending ∙ length-append c.args.session.now.pending (replicate 1 Deq) in
    (omega (arith, none, one, c.requires.unit), omega (arith, c.requires.capacity, c.defer_dequeues.ensures.capacity_stays))

pub defer_dequeues-requires-2-clause-holds : goal.defer_dequeues-requires-2-clause-holds
defer_dequeues-requires-2-clause-holds g c κs within = pending_own c.defer_jobs.new.session c.defer_jobs.ensures.holds

pub defer_dequeues-requires-2-clause-room : goal.defer_dequeues-requires-2-clause-room
defer_dequeues-requires-2-clause-room g c κs within =
    let none = ap length c.requires.holds.pending in
    let one = ap length c.defer_dequeues.ensures.holds.pending ∙ length-append c.args.session.now.pending (replicate 1 Deq) in
    let more = ap length c.defer_jobs.ensures.holds.pending ∙ length-append c.defer_dequeues.new.session.pending (map Enq (range_with_len c.args.first c.args.count)) in
    (omega (arith, none, one, more, length-map-range_with_len Enq c.args.first c.args.count, c.requires.unit), omega (arith, c.requires.capacity, c.defer_dequeues.ensures.capacity_stays, c.defer_jobs.ensures.capacity_stays))

pub returns-clause-holds : goal.returns-clause-holds
returns-clause-holds g c =
    let one = c.defer_dequeues.ensures.holds in
    let jobs = c.defer_jobs.ensures.holds in
    let half : c.args.count / 2 ≡ length (range_with_len c.args.first c.args.count) / 2 = ap (λ n. n / 2) (sym (length-range_with_len c.args.first c.args.count)) in
    pending_as c.args.session.now.futures.lane c.args.session.now.futures.caller (unit_ops (range_with_len c.args.first c.args.count)) c.defer_dequeues-2.ensures.holds (jobs.lane ∙ one.lane) (jobs.caller ∙ one.caller)
    (ap (λ os. os ++ replicate (c.args.count / 2) Deq) (jobs.pending ∙ ap (λ os. os ++ map Enq (range_with_len c.args.first c.args.count)) (one.pending ∙ ap (λ os. os ++ replicate 1 Deq) c.requires.holds.pending))
    ∙ ap (λ n. (Deq ∷ map Enq (range_with_len c.args.first c.args.count)) ++ replicate n Deq) half)
