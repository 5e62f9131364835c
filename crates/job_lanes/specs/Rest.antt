-- A session between the rounds of its hand.
use Rattle.std.specs.Prelude.{◌≡◌, ℕ, []}
use Rattle.bq_session.specs.Session.{SessionState}
use Rattle.bq_session.specs.Futures.{live_count}

-- The session is caller c's on the lane of this number. Nothing is deferred on it, and no ticket is live.
pub record IsAtRest {Pass : Type 0} (number c : ℕ) (s : SessionState Pass) : Type 0 where
  pub lane : s.futures.lane ≡ number
  pub caller : s.futures.caller ≡ c
  pub batch : s.futures.batch ≡ 256
  pub tickets : s.futures.tickets ≡ 256
  pub nothing_pending : s.pending ≡ []
  pub nobody_waits : s.futures.waiting ≡ 0
  pub none_live : live_count s.futures ≡ 0
