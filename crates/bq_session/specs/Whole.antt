-- How the parts of a session agree with its pass and with one another. No public clause cites this.
use Rattle.std.specs.Prelude.{◌≡◌, ℕ, ◌≤◌, List, length}
use Rattle.bq_model.specs.declared.op.Op.{Op}
use Rattle.bq_model.specs.declared.op.Answer.{Answer}
use Rattle.bq_model.specs.declared.group.Group.{Group}
use Rattle.bq_model.specs.Bounded.{BoundedList}
use Rattle.bq_model.specs.NoShut.{NoShut}
use Rattle.bq_model.specs.Grows.{the_caller}
use Rattle.bq_session.specs.Futures.{LiveFutures}
use Rattle.bq_session.specs.Outcome.{KeepsAnswers}

-- the pass holds these callers and has seen this history, and the lane takes batches of at most `longest`
pub record IsWhole (callers : List ℕ) (longest : ℕ) (seen : List Group) (pending : BoundedList Op) (answers : BoundedList Answer) (futures : LiveFutures) : Type 0 where
  pub one_caller : length callers ≡ 1
  pub caller : futures.caller ≡ the_caller callers
  pub not_too_long : futures.batch ≤ longest
  pub room : pending.capacity ≡ futures.batch
  pub room_for_answers : answers.capacity ≡ futures.batch
  pub no_shut : NoShut pending.items
  pub as_many : futures.waiting ≡ length pending.items
  pub fits : length pending.items ≤ futures.batch
  pub keeps : KeepsAnswers seen futures
