use Rattle.std.proofs.Common.{subst}
use Rattle.bq_session.specs.Session.{SessionState}
use Rattle.bq_session.specs.Outcome.{ClaimsOwn}
use Rattle.bq_session.proofs.Kept.{KeepsAnswers-spent, ClaimsOwn-taken, ok_is, err_is}
use Rattle.bq_session.proofs.session.Session.take.Goals as goal
use Rattle.bq_session.proofs.session.Session.take.Goals.{in-Kept, in-Withdrawn}

pub invariant_of-self : goal.invariant_of-self
invariant_of-self g c =
    let w = c.self.invariant in
    record {
      one_caller = w.one_caller;
      caller = rw c.spend.ensures.spent w.caller;
      not_too_long = rw c.spend.ensures.spent w.not_too_long;
      room = rw c.spend.ensures.spent w.room;
      room_for_answers = rw c.spend.ensures.spent w.room_for_answers;
      no_shut = w.no_shut;
      as_many = rw c.spend.ensures.spent w.as_many;
      fits = rw c.spend.ensures.spent w.fits;
      keeps = rw c.spend.ensures.spent (KeepsAnswers-spent _ c.self.inside.futures c.args.ticket _ c.spend.ensures.stood w.keeps);
    }

pub returns-clause-claims : goal.returns-clause-claims
returns-clause-claims g c = elim c.match-spend.branch [
  | in-Kept w ↦
      let P : SessionState _ → Type 0 = λ s. ClaimsOwn w.new.result (g.L.Lane.seen s.pass) s.futures (g.L.Lane.seen c.self.inside.pass) c.spend.new.self in
      ok_is _ _ w.new.result w.result-is (subst P c.self.view_is
      (ClaimsOwn-taken _ c.self.inside.futures _ c.args.ticket _ _ w.in-Kept.serial w.in-Kept.answer w.new.result c.lane-lane.ensures c.caller-caller.ensures w.new.ensures
      c.spend.ensures.spent w.in-Kept.ensures.stood c.self.invariant.keeps))
  | in-Withdrawn w ↦ err_is _ _ _ w.result-is
]

pub returns-clause-keeps : goal.returns-clause-keeps
returns-clause-keeps g c = rw c.spend.ensures.spent (KeepsAnswers-spent _ c.self.inside.futures c.args.ticket _ c.spend.ensures.stood c.self.invariant.keeps)
