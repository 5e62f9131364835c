-- How a session finds the futures of its pending operations. No public clause cites this.
use Rattle.std.specs.Prelude.{◌≡◌, ℕ, List, Option, Some, slice_get}
use Rattle.bq_session.specs.declared.future.Future.{Future}
use Rattle.bq_session.specs.Futures.{under, place_of}

-- these are the keys of the pending futures, in the order of their places
pub record ArePending (keys : List ℕ) (live : List (Option Future)) : Type 0 where
  pub each : (place key : ℕ) → slice_get keys place ≡ Some key → place_of (under live key) ≡ Some place
  pub no_other : (place key : ℕ) → place_of (under live key) ≡ Some place → slice_get keys place ≡ Some key
