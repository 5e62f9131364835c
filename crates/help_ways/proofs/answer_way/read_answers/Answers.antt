use Rattle.std.proofs.Common.{◌≡◌, suc, ◌-◌, [], refl, ap, sym, ◌∙◌, arith}
use Rattle.lane_steps.specs.State.{Caller}
use Rattle.help_ways.proofs.RowSteps.{reads_what_it_gets}
use Rattle.help_ways.proofs.Single.{stands_own, acts_own, leads, room_then, reads, reads_none, then, same_then}
use Rattle.help_ways.proofs.answer_way.read_answers.Goals as goal

pub load-found-requires-clause-at : goal.load-found-requires-clause-at
load-found-requires-clause-at c = stands_own c.requires

pub load-found-requires-clause-load : goal.load-found-requires-clause-load
load-found-requires-clause-load c = acts_own c.requires _ refl

pub returns-in_default-clause-next : goal.returns-in_default-clause-next
returns-in_default-clause-next c = leads c.requires c.load-found.ensures c.follow.result c.follow.new.scratch c.follow.ensures.next c.follow.ensures.same

pub follow-requires-clause-room : goal.follow-requires-clause-room
follow-requires-clause-room c = room_then c.requires c.load-found.ensures

pub finish_rows-requires : goal.finish_rows-requires
finish_rows-requires c = let is = reads_what_it_gets c.args.help.now c.load-found.result c.in-Some.old_tail (sym c.old_tail_in.ensures ∙ c.in-Some.is) _ c.before_it-queued.ensures _ c.reading-reading.ensures _ c.gets-left.ensures _ c.links_rows-linked.ensures in
    record { led = (c.args.token.now, reads_none c.requires c.load-found.ensures _ _ _ _ is c.forget.new.scratch (λ (k : Caller). c.forget.ensures.nothing_read k ∙ ap (λ (w : Caller). record w { values = []; walked = [] }) (c.leave.ensures.left k)) (same_then c.leave.ensures.same c.forget.ensures.same) c.if-left-eq0.true) }

pub returns-then-left-eq0-clause-next : goal.returns-then-left-eq0-clause-next
returns-then-left-eq0-clause-next c = let is = reads_what_it_gets c.args.help.now c.load-found.result c.in-Some.old_tail (sym c.old_tail_in.ensures ∙ c.in-Some.is) _ c.before_it-queued.ensures _ c.reading-reading.ensures _ c.gets-left.ensures _ c.links_rows-linked.ensures in
    c.finish_rows.ensures.next c.args.token.now (reads_none c.requires c.load-found.ensures _ _ _ _ is c.forget.new.scratch (λ (k : Caller). c.forget.ensures.nothing_read k ∙ ap (λ (w : Caller). record w { values = []; walked = [] }) (c.leave.ensures.left k)) (same_then c.leave.ensures.same c.forget.ensures.same) c.if-left-eq0.true)

pub read_values-requires : goal.read_values-requires
read_values-requires c = let some = c.if-left-eq0.false in let more : c.gets-left.result ≡ suc (c.gets-left.result - 1) = omega (arith, some) in
    let is = reads_what_it_gets c.args.help.now c.load-found.result c.in-Some.old_tail (sym c.old_tail_in.ensures ∙ c.in-Some.is) _ c.before_it-queued.ensures _ c.reading-reading.ensures _ c.gets-left.ensures _ c.links_rows-linked.ensures in
    (reads c.requires c.load-found.ensures _ _ _ _ is c.forget.new.scratch (λ (k : Caller). c.forget.ensures.nothing_read k ∙ ap (λ (w : Caller). record w { values = []; walked = [] }) (c.leave.ensures.left k)) (same_then c.leave.ensures.same c.forget.ensures.same) (c.gets-left.result - 1) more).0

pub returns-clause-next : goal.returns-clause-next
returns-clause-next c = let some = c.if-left-eq0.false in let more : c.gets-left.result ≡ suc (c.gets-left.result - 1) = omega (arith, some) in
    let is = reads_what_it_gets c.args.help.now c.load-found.result c.in-Some.old_tail (sym c.old_tail_in.ensures ∙ c.in-Some.is) _ c.before_it-queued.ensures _ c.reading-reading.ensures _ c.gets-left.ensures _ c.links_rows-linked.ensures in
    then (reads c.requires c.load-found.ensures _ _ _ _ is c.forget.new.scratch (λ (k : Caller). c.forget.ensures.nothing_read k ∙ ap (λ (w : Caller). record w { values = []; walked = [] }) (c.leave.ensures.left k)) (same_then c.leave.ensures.same c.forget.ensures.same) (c.gets-left.result - 1) more) _ _ c.read_values.result c.read_values.ensures.next
