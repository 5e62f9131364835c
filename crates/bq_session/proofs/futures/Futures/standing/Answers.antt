use Rattle.std.proofs.Common.{rules, refl}
use Rattle.bq_session.proofs.futures.Futures.standing.Goals as goal

pub returns-then-ticket-self-2-clause-live : goal.returns-then-ticket-self-2-clause-live
returns-then-ticket-self-2-clause-live c = (λ _. (c.in_ok-future.future.now.standing, search rules), λ _. refl)
