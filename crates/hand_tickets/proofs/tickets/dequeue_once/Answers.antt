use Rattle.std.proofs.Common.{◌++◌, ◌∷◌, [], List, length, Err, ap, arith, length-append}
use Rattle.bq_model.specs.declared.op.Op.{Op}
use Rattle.bq_model.specs.declared.op.Op.TheVariants.{Deq}
use Rattle.bq_model.specs.Values.{enqueued}
use Rattle.hand_tickets.proofs.Holding.{held-dequeued}
use Rattle.hand_tickets.proofs.tickets.dequeue_once.Goals as goal

pub returns-in-Ok-clause-made : goal.returns-in-Ok-clause-made
returns-in-Ok-clause-made g c =
    let lane = g.L.Lane in
    held-dequeued c.args.session.now.futures.lane c.args.session.now.futures.caller Deq c.in-Ok.outcome (lane.seen c.args.session.now.pass) (lane.seen c.dequeue.new.self.pass) c.args.session.now c.dequeue.new.self c.requires.holds c.in-Ok.ensures.ok c.in-Ok.ensures.nothing_pending c.dequeue.ensures.counted

pub returns-in-Ok-clause-within_allowance : goal.returns-in-Ok-clause-within_allowance
returns-in-Ok-clause-within_allowance g c =
    let none = ap length c.requires.holds.pending in
    let all = length-append c.args.session.now.pending (Deq ∷ []) in
    let batch = c.requires.holds.batch in
    let not : (_ → ⊥) = (λ passes. cc (c.in-Ok.ensures.spent.1 (omega (arith, none, batch), passes))) in
    omega (arith, none, all, not)

pub returns-in-Err-Spent-clause-spent : goal.returns-in-Err-Spent-clause-spent
returns-in-Err-Spent-clause-spent g c =
    let none = ap length c.requires.holds.pending in
    let all = length-append c.args.session.now.pending (Deq ∷ []) in
    let passes = (c.in-Err-Spent.ensures.spent.0 (ap (λ f. Err f) c.in-Err-Spent.field-0-is)).1 in
    omega (arith, none, all, passes)

pub unreachable-requires : goal.unreachable-requires
unreachable-requires g c =
    let some = (c.in-Err-Full.ensures.full (ap (λ f. Err f) c.in-Err-Full.field-0-is)).0 in
    let none = ap (λ (ops : List Op). length (enqueued (ops ++ Deq ∷ []))) c.requires.holds.pending in
    absurd (omega (arith, some, none))

pub unreachable-requires-in-Err-BatchFull : goal.unreachable-requires-in-Err-BatchFull
unreachable-requires-in-Err-BatchFull g c =
    let full = c.in-Err-BatchFull.ensures.batch_full.0 (ap (λ f. Err f) c.in-Err-BatchFull.field-0-is) in
    let none = ap length c.requires.holds.pending in
    let batch = c.requires.holds.batch in
    absurd (omega (arith, full, none, batch))
