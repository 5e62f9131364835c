use Rattle.std.proofs.Common.{◌≡◌, ◌-◌, ℕ, suc, ◌∷◌, [], length, refl, ap, subst, ◌∙◌, arith, length-append}
use Rattle.hand_tickets.specs.Holds.{Holds, some_withdrawn}
use Rattle.hand_tickets.proofs.Holding.{held-withdrawn}
use Rattle.hand_tickets.proofs.tickets.withdraw_all.Goals as goal

pub loop-preserved : goal.loop-preserved
loop-preserved g c =
    let kept = c.loop.invariant in
    let number = c.args.session.now.futures.lane in
    let caller = c.args.session.now.futures.caller in
    let new = c.withdraw_last.new.self in
    let all = length c.args.session.now.pending in
    let fewer = ap length c.in-Some.ensures.last ∙ length-append new.pending (c.in-Some.field-0 ∷ []) in
    let gone : suc (all - length c.loop.session.pending) ≡ all - length new.pending = omega (arith, fewer, kept.fewer) in
    record {
      fewer = omega (arith, fewer, kept.fewer);
      holds = subst (λ (k : ℕ). Holds number caller new.pending (some_withdrawn (length new.pending) k) c.args.held.now.items new) gone
          (held-withdrawn number caller (all - length c.loop.session.pending) new.pending c.loop.session.pending c.in-Some.field-0 c.args.held.now.items c.loop.session new c.in-Some.ensures.last kept.holds refl c.in-Some.ensures.withdrawn c.withdraw_last.ensures.counted);
      pass = c.withdraw_last.ensures.pass_stays ∙ kept.pass;
    }
