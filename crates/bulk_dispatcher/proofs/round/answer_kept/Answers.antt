use Rattle.std.proofs.Common.{ap, ◌∙◌, arith}
use Rattle.bq_session.specs.Session.{SessionState}
use Rattle.bq_session.proofs.Pending.{kept_not_pending}
use Rattle.bulk_dispatcher.proofs.Rounds.{kept_next, kept_live, kept_done}
use Rattle.bulk_dispatcher.proofs.Places.{nothing_queued}
use Rattle.bulk_dispatcher.proofs.round.answer_kept.Goals as goal

pub loop-ticket-preserved : goal.loop-ticket-preserved
loop-ticket-preserved g c =
    let kept = c.loop-ticket.invariant in
    let number = c.args.session.now.futures.lane in
    let caller = c.args.session.now.futures.caller in
    let old = c.loop-ticket.session in
    let t = c.in-Some.ticket in
    let some = kept_live c.args.jobs.now number caller t _ c.pop_front.new.self.items old _ _ _ _ c.in-Some.ensures.items (kept.kept c.requires.kept.0 c.requires.kept.1 c.requires.kept.2) in
    record {
      kept = λ first answers h.
          kept_next c.args.jobs.now number caller t c.loop-ticket.held.items c.pop_front.new.self.items old c.evaluate.new.self c.in-Ok.outcome c.loop-ticket.replies.items c.reply_to.new.replies.items _ c.loop-ticket.last c.is_empty-last.result _ c.in-Some.ensures.items (kept.kept first answers h)
          (λ answer serial s. cc (c.in-Ok.is, c.evaluate.ensures.gives_what_is_kept answer serial s)) (λ answer serial s. c.evaluate.ensures.else_only_spends (kept_not_pending old.futures t answer serial s)) c.in-Ok.ensures.counted c.in_ok-reply_to-in-Ok.ensures c.is_empty-last.ensures;
      capacity = c.pop_front.ensures.capacity ∙ kept.capacity;
      pass = ap (λ (s : SessionState _). s.pass) (c.evaluate.ensures.else_only_spends (kept_not_pending old.futures t some.0 some.1.0 some.1.1)) ∙ kept.pass;
    }

pub returns-in_err-reply_to-in-Ok-clause-pass_stays : goal.returns-in_err-reply_to-in-Ok-clause-pass_stays
returns-in_err-reply_to-in-Ok-clause-pass_stays g c =
    let kept = c.loop-ticket.invariant in
    let old = c.loop-ticket.session in
    let t = c.in-Some.ticket in
    let some = kept_live c.args.jobs.now c.args.session.now.futures.lane c.args.session.now.futures.caller t _ c.pop_front.new.self.items old _ _ _ _ c.in-Some.ensures.items (kept.kept c.requires.kept.0 c.requires.kept.1 c.requires.kept.2) in
    ap (λ (s : SessionState _). s.pass) (c.evaluate.ensures.else_only_spends (kept_not_pending old.futures t some.0 some.1.0 some.1.1)) ∙ kept.pass

pub unreachable-requires : goal.unreachable-requires
unreachable-requires g c =
    let some = kept_live c.args.jobs.now c.args.session.now.futures.lane c.args.session.now.futures.caller c.in-Some.ticket _ c.pop_front.new.self.items c.loop-ticket.session _ _ _ _ c.in-Some.ensures.items (c.loop-ticket.invariant.kept c.requires.kept.0 c.requires.kept.1 c.requires.kept.2) in
    cc (c.in-Err.is, c.evaluate.ensures.gives_what_is_kept some.0 some.1.0 some.1.1)

pub returns-clause-answered : goal.returns-clause-answered
returns-clause-answered g c = λ first answers h.
    (kept_done c.args.jobs.now c.args.session.now.futures.lane c.args.session.now.futures.caller c.loop-ticket.held.items c.loop-ticket.session _ _ _ _ (nothing_queued c.loop-ticket.held.items (omega (arith, c.in_default.ensures.cases, c.loop-ticket.held.ok))) (c.loop-ticket.invariant.kept first answers h)).0

pub returns-clause-ended : goal.returns-clause-ended
returns-clause-ended g c = λ first answers h.
    (kept_done c.args.jobs.now c.args.session.now.futures.lane c.args.session.now.futures.caller c.loop-ticket.held.items c.loop-ticket.session _ _ _ _ (nothing_queued c.loop-ticket.held.items (omega (arith, c.in_default.ensures.cases, c.loop-ticket.held.ok))) (c.loop-ticket.invariant.kept first answers h)).1
