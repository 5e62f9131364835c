use Rattle.std.proofs.Common.{◌≡◌, ◌+◌, ◌++◌, ◌∷◌, [], List, length, replicate, sym, ap, ◌∙◌, arith, append_assoc, length-append}
use Rattle.std.proofs.lemmas.List.{length-replicate}
use Rattle.bq_model.specs.declared.op.Op.{Op}
use Rattle.bq_model.specs.declared.op.Op.TheVariants.{Deq}
use Rattle.hand_tickets.proofs.Holding.{held-next, replicate_last}
use Rattle.hand_tickets.proofs.tickets.defer_dequeues.Goals as goal

pub defer-requires-clause-room : goal.defer-requires-clause-room
defer-requires-clause-room g c κs within =
    let kept = c.loop.invariant in
    let many = ap length kept.holds.pending ∙ length-append c.args.session.now.pending (replicate c.loop.counter Deq) in
    let room = c.requires.room in
    (omega (arith, many, length-replicate c.loop.counter Deq, room.0, c.loop-test.true), omega (arith, room.1, kept.capacity))

pub loop-preserved : goal.loop-preserved
loop-preserved g c =
    let kept = c.loop.invariant in
    let next : c.args.session.now.pending ++ replicate (c.loop.counter + 1) Deq ≡ (c.args.session.now.pending ++ replicate c.loop.counter Deq) ++ Deq ∷ [] = ap (λ (os : List Op). c.args.session.now.pending ++ os) (replicate_last c.loop.counter Deq) ∙ sym (append_assoc c.args.session.now.pending (replicate c.loop.counter Deq) (Deq ∷ [])) in
    record {
      holds = held-next _ Deq _ kept.holds c.defer.ensures.holds next;
      pass = c.defer.ensures.pass_stays ∙ kept.pass;
      capacity = c.defer.ensures.capacity_stays ∙ kept.capacity;
    }
