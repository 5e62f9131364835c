use Rattle.bq_session.proofs.Kept.{WasGiven-issued, WasGiven-evaluated, WasGiven-spent, WasGiven-withdrawn, WasGiven-saw_more}
use Rattle.bq_session.proofs.laws.what_was_given_stays_given.Goals as goal

pub returns-clause-deferring : goal.returns-clause-deferring
returns-clause-deferring c = WasGiven-issued

pub returns-clause-evaluating : goal.returns-clause-evaluating
returns-clause-evaluating c = WasGiven-evaluated

pub returns-clause-spending : goal.returns-clause-spending
returns-clause-spending c = WasGiven-spent

pub returns-clause-withdrawing : goal.returns-clause-withdrawing
returns-clause-withdrawing c = WasGiven-withdrawn

pub returns-clause-being_refused : goal.returns-clause-being_refused
returns-clause-being_refused c = WasGiven-saw_more
