use Rattle.std.proofs.Common.{arith, ap, sym, subst, ◌∙◌, ◌≡◌, ◌+◌, length, length-append, [], ◌∷◌}
use Rattle.bq_model.specs.NoShut.{NoShut}
use Rattle.bq_model.proofs.NoShuts.{NoShut-push}
use Rattle.bq_session.specs.Futures.{LiveFutures}
use Rattle.bq_session.proofs.Kept.{KeepsAnswers-issued}
use Rattle.bq_session.proofs.session.Session.defer.Goals as goal

pub invariant_of-self : goal.invariant_of-self
invariant_of-self g c =
    let w = c.self.invariant in
    let e = c.issue.ensures in
    let more : length c.push.new.self.items ≡ length c.self.inside.pending.items + 1 = ap length c.push.ensures.appended ∙ length-append c.self.inside.pending.items (c.args.op ∷ []) in
    let waits = ap (λ (f : LiveFutures). f.waiting) e.rest in
    let batch : c.issue.new.self.batch ≡ c.self.inside.futures.batch = ap (λ (f : LiveFutures). f.batch) e.rest in
    record {
      one_caller = w.one_caller;
      caller = ap (λ (f : LiveFutures). f.caller) e.rest ∙ w.caller;
      not_too_long = omega (arith, w.not_too_long, batch);
      room = c.push.ensures.capacity_stays ∙ w.room ∙ sym batch;
      room_for_answers = w.room_for_answers ∙ sym batch;
      no_shut = subst NoShut (sym c.push.ensures.appended) (NoShut-push c.self.inside.pending.items c.args.op w.no_shut c.requires);
      as_many = omega (arith, waits, more, w.as_many);
      fits = omega (arith, more, w.fits, batch, c.len.ensures.items, c.batch.ensures, c.if-len-batch.false);
      keeps = KeepsAnswers-issued _ c.issue.result c.self.inside.futures c.issue.new.self e w.keeps;
    }
