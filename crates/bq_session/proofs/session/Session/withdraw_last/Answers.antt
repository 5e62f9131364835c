use Rattle.std.proofs.Common.{arith, ap, sym, subst, ◌∙◌, ◌≡◌, ◌+◌, length, length-append, [], ◌∷◌}
use Rattle.bq_model.specs.NoShut.{NoShut}
use Rattle.bq_model.proofs.NoShuts.{NoShut-front}
use Rattle.bq_session.specs.Futures.{LiveFutures}
use Rattle.bq_session.proofs.Kept.{KeepsAnswers-withdrawn}
use Rattle.bq_session.proofs.session.Session.withdraw_last.Goals as goal

pub invariant_of-self-2 : goal.invariant_of-self-2
invariant_of-self-2 g c =
    let w = c.self.invariant in
    let e = c.withdraw_last.ensures in
    let fewer : length c.self.inside.pending.items ≡ length c.pop.new.self.items + 1 = ap length c.in_ok-op.ensures.last ∙ length-append c.pop.new.self.items (c.in_ok-op.op ∷ []) in
    let waits = ap (λ (f : LiveFutures). f.waiting) e.withdrawn in
    let batch : c.withdraw_last.new.self.batch ≡ c.self.inside.futures.batch = ap (λ (f : LiveFutures). f.batch) e.withdrawn in
    record {
      one_caller = w.one_caller;
      caller = ap (λ (f : LiveFutures). f.caller) e.withdrawn ∙ w.caller;
      not_too_long = omega (arith, w.not_too_long, batch);
      room = c.in_ok-op.ensures.capacity_stays ∙ w.room ∙ sym batch;
      room_for_answers = w.room_for_answers ∙ sym batch;
      no_shut = NoShut-front c.pop.new.self.items (c.in_ok-op.op ∷ []) (subst NoShut c.in_ok-op.ensures.last w.no_shut);
      as_many = omega (arith, waits, fewer, w.as_many);
      fits = omega (arith, fewer, w.fits, batch);
      keeps = rw e.withdrawn (KeepsAnswers-withdrawn _ c.self.inside.futures w.keeps);
    }
