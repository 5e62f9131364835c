use Rattle.std.proofs.Common.{◌++◌, ◌∷◌, [], List, length, map, sym, ap, ◌∙◌, arith, append_assoc, length-append}
use Rattle.std.specs.List.{range_with_len}
use Rattle.std.proofs.lemmas.List.FromFn.{length-map-range_with_len}
use Rattle.bq_model.specs.declared.op.Op.{Op}
use Rattle.bq_model.specs.declared.op.Op.TheVariants.{Enq}
use Rattle.hand_tickets.proofs.Holding.{held-next, enqueues_last}
use Rattle.hand_tickets.proofs.tickets.defer_jobs.Goals as goal

pub defer-requires-clause-room : goal.defer-requires-clause-room
defer-requires-clause-room g c κs within =
    let kept = c.loop-place.invariant in
    let many = ap length kept.holds.pending ∙ length-append c.args.session.now.pending (map Enq (range_with_len c.args.first c.loop-place.place)) in
    let room = c.requires.room in
    (omega (arith, many, length-map-range_with_len Enq c.args.first c.loop-place.place, room.0, c.loop-place-test.true), omega (arith, room.1, kept.capacity))

pub loop-place-preserved : goal.loop-place-preserved
loop-place-preserved g c =
    let kept = c.loop-place.invariant in
    let next = ap (λ (os : List Op). c.args.session.now.pending ++ os) (enqueues_last c.args.first c.loop-place.place c.from.result c.from.ensures) ∙ sym (append_assoc c.args.session.now.pending (map Enq (range_with_len c.args.first c.loop-place.place)) (Enq c.from.result ∷ [])) in
    record {
      holds = held-next _ (Enq c.from.result) _ kept.holds c.defer.ensures.holds next;
      pass = c.defer.ensures.pass_stays ∙ kept.pass;
      capacity = c.defer.ensures.capacity_stays ∙ kept.capacity;
    }
