-- Tickets that were made one after another, where nothing was pending before.
use Rattle.std.specs.Prelude.{◌≡◌, ℕ, ◌+◌, ◌<◌, ◌≤◌, List, Some, slice_get, get_or}
use Rattle.bq_model.specs.declared.op.Answer.{Answer}
use Rattle.bq_model.specs.declared.op.Answer.TheVariants.{Done}
use Rattle.bq_session.specs.declared.future.Standing.TheVariants.{Pending, Kept, Withdrawn}
use Rattle.bq_session.specs.declared.ticket.Ticket.{Ticket}
use Rattle.bq_session.specs.Futures.{LiveFutures, Stands}

-- no two of them have one key
abbrev pub AreApart : List Ticket → Type 0
AreApart tickets = (i j : ℕ) (t u : Ticket) → slice_get tickets i ≡ Some t → slice_get tickets j ≡ Some u → t.key ≡ u.key → i ≡ j

-- ticket k is of the pending operation k, as long as so many are pending, and else withdrawn
abbrev pub WaitInOrder : List Ticket → LiveFutures → Type 0
WaitInOrder tickets f = (k : ℕ) (t : Ticket) → slice_get tickets k ≡ Some t → (k < f.waiting → Stands f t (Pending k)) × (f.waiting ≤ k → Stands f t Withdrawn)

-- from ticket j on, ticket k keeps answer k, and the first of the operations has serial `first`
abbrev pub KeepInOrder : ℕ → List Ticket → List Answer → ℕ → LiveFutures → Type 0
KeepInOrder j tickets answers first f = (k : ℕ) (t : Ticket) → slice_get tickets k ≡ Some t → j ≤ k → Stands f t (Kept (get_or answers k Done) (first + k))

-- from ticket j on, all are withdrawn
abbrev pub AreWithdrawn : ℕ → List Ticket → LiveFutures → Type 0
AreWithdrawn j tickets f = (k : ℕ) (t : Ticket) → slice_get tickets k ≡ Some t → j ≤ k → Stands f t Withdrawn
