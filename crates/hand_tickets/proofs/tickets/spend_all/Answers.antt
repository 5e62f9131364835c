use Rattle.std.proofs.Common.{List, [], length, ap, subst, ◌∙◌}
use Rattle.bq_session.specs.declared.ticket.Ticket.{Ticket}
use Rattle.bq_session.specs.Session.{SessionState}
use Rattle.bq_session.proofs.Pending.{withdrawn_not_pending}
use Rattle.hand_tickets.specs.Holds.{Holds, some_withdrawn}
use Rattle.hand_tickets.proofs.Holding.{spent_withdrawn}
use Rattle.hand_tickets.proofs.tickets.spend_all.Goals as goal

pub loop-ticket-preserved : goal.loop-ticket-preserved
loop-ticket-preserved g c =
    let kept = c.loop-ticket.invariant in
    let number = c.args.session.now.futures.lane in
    let caller = c.args.session.now.futures.caller in
    let left = c.pop_front.new.self.items in
    let old = c.loop-ticket.session in
    let h = subst (λ (ts : List Ticket). Holds number caller [] (some_withdrawn 0 (length ts)) ts old) c.in-Some.ensures.items kept.holds in
    let spends = c.evaluate.ensures.else_only_spends (withdrawn_not_pending old.futures c.in-Some.ticket h.each.0) in
    record {
      holds = spent_withdrawn (length left) c.in-Some.ticket left old c.evaluate.new.self h spends;
      pass = ap (λ (s : SessionState _). s.pass) spends ∙ kept.pass;
      capacity = c.pop_front.ensures.capacity ∙ kept.capacity;
    }
