-- What a caller learns of an operation that was made.
use Rattle.std.specs.Prelude.{◌≡◌, ◌≢◌, ℕ, ◌<◌, List, length, Some}
use Rattle.bq_model.specs.declared.op.Answer.{Answer}
use Rattle.bq_model.specs.declared.op.Answer.TheVariants.{Done, Got, Empty, Refused}
use Rattle.bq_model.specs.declared.group.Group.{Group}
use Rattle.bq_model.specs.History.{operations}
use Rattle.bq_model.specs.Own.{mine, GotAnswer}
use Rattle.bq_session.specs.declared.claim.Claim.{Claim}
use Rattle.bq_session.specs.declared.claim.Outcome.{Outcome}
use Rattle.bq_session.specs.declared.claim.Outcome.TheVariants as outcome
use Rattle.bq_session.specs.declared.future.Standing.TheVariants.{Kept}
use Rattle.bq_session.specs.Futures.{LiveFutures, under}

-- the outcome of operation `serial` of a caller; a value that was got comes with a claim that names the operation.
-- Nothing is refused where nothing was shut, so the last line is never asked for.
abbrev pub outcome_of : ℕ → ℕ → ℕ → Answer → Outcome
outcome_of lane caller serial Done = outcome.Done
outcome_of lane caller serial (Got v) = outcome.Got (record { lane = lane; caller = caller; serial = serial; value = v })
outcome_of lane caller serial Empty = outcome.Empty
outcome_of lane caller serial Refused = outcome.Done

-- What is kept is what operations of the caller got in this history, each of an operation of its own, and none was
-- refused.
pub record KeepsAnswers (seen : List Group) (f : LiveFutures) : Type 0 where
  pub got : (key number serial : ℕ) (answer : Answer) → under f.live key ≡ Some (record { number = number; standing = Kept answer serial }) → GotAnswer seen f.caller serial answer
  pub accepted : (key number serial : ℕ) (answer : Answer) → under f.live key ≡ Some (record { number = number; standing = Kept answer serial }) → answer ≢ Refused
  pub apart : (key other m n serial : ℕ) (a b : Answer) → under f.live key ≡ Some (record { number = m; standing = Kept a serial })
      → under f.live other ≡ Some (record { number = n; standing = Kept b serial }) → key ≡ other

-- how many operations the caller has made
abbrev pub made_by : List Group → ℕ → ℕ
made_by seen c = length (operations (mine seen c))

-- The caller made the operation with this serial, and nothing is kept of it any more.
pub record WasGiven (serial : ℕ) (seen : List Group) (f : LiveFutures) : Type 0 where
  pub made : serial < made_by seen f.caller
  pub gone : (key number : ℕ) (answer : Answer) → under f.live key ≡ Some (record { number = number; standing = Kept answer serial }) → ⊥

-- The claim names a dequeue of the caller that got its value. That was not given before, and it is now.
pub record NamesDequeue (claim : Claim) (before : List Group) (old : LiveFutures) (after : List Group) (new : LiveFutures) : Type 0 where
  pub lane : claim.lane ≡ old.lane
  pub caller : claim.caller ≡ old.caller
  pub got : GotAnswer after old.caller claim.serial (Got claim.value)
  pub fresh : WasGiven claim.serial before old → ⊥
  pub given : WasGiven claim.serial after new

-- the claim, where there is one, does so
abbrev pub ClaimsOwn : Outcome → List Group → LiveFutures → List Group → LiveFutures → Type 0
ClaimsOwn outcome.Done before old after new = Unit {0}
ClaimsOwn (outcome.Got claim) before old after new = NamesDequeue claim before old after new
ClaimsOwn outcome.Empty before old after new = Unit {0}
