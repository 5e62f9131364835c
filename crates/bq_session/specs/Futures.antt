-- The futures of a session: its deferred operations, as long as their tickets are live.
use Rattle.std.specs.Prelude.{◌≡◌, ◌≢◌, ℕ, ◌+◌, ◌-◌, ◌<◌, ◌==◌, ◌%◌, ◌^◌, List, map, Option, Some, None, is_some, count_by, slice_index_or, slice_set, get_or, if◌then◌else◌}
use Rattle.bq_model.specs.declared.op.Answer.{Answer}
use Rattle.bq_model.specs.declared.op.Answer.TheVariants.{Done}
use Rattle.bq_session.specs.declared.future.Future.{Future}
use Rattle.bq_session.specs.declared.future.Standing.{Standing}
use Rattle.bq_session.specs.declared.future.Standing.TheVariants.{Pending, Kept, Withdrawn}
use Rattle.bq_session.specs.declared.ticket.Ticket.{Ticket}

pub record LiveFutures : Type 0 where
  -- the lane's number and the caller, which the tickets carry
  pub lane : ℕ
  pub caller : ℕ
  -- the most that may be pending, and the most that may be live
  pub batch : ℕ
  pub tickets : ℕ
  -- how many there were so far, modulo 2^64
  pub made : ℕ
  -- how many are pending
  pub waiting : ℕ
  -- what is live, by the keys of the tickets
  pub live : List (Option Future)

-- the future with this key
abbrev pub under : List (Option Future) → ℕ → Option Future
under live key = slice_index_or live key None

-- how many tickets are live
abbrev pub live_count : LiveFutures → ℕ
live_count f = count_by is_some f.live

-- the ticket is live, and its future stands so
pub record Stands (f : LiveFutures) (t : Ticket) (standing : Standing) : Type 0 where
  pub lane : t.lane ≡ f.lane
  pub caller : t.caller ≡ f.caller
  pub future : under f.live t.key ≡ Some (record { number = t.number; standing = standing })

-- the ticket is live: its future is pending, kept or withdrawn
abbrev pub IsLive : LiveFutures → Ticket → Type 0
IsLive f t = (standing : Standing) × Stands f t standing

abbrev pub IsPending : LiveFutures → Ticket → Type 0
IsPending f t = (place : ℕ) × Stands f t (Pending place)

-- the ticket is the next one, and its future stands behind those that are pending
pub record IsIssued (t : Ticket) (old new : LiveFutures) : Type 0 where
  pub stands : Stands new t (Pending old.waiting)
  pub number : t.number ≡ old.made
  -- no live ticket had its key, and each stands as before
  pub fresh : under old.live t.key ≡ None
  pub others : (key : ℕ) → key ≢ t.key → under new.live key ≡ under old.live key
  pub counted : live_count new ≡ live_count old + 1
  pub rest : new ≡ record old { made = (old.made + 1) % 2 ^ 64; waiting = old.waiting + 1; live = new.live }

-- each future stands as `change` says of how it stood
abbrev pub restand : (Standing → Standing) → Option Future → Option Future
restand change None = None
restand change (Some future) = Some (record { number = future.number; standing = change future.standing })

-- a future whose operation was pending keeps its own answer; the first of the answers is of the operation with serial `first`
abbrev pub keeping : List Answer → ℕ → Standing → Standing
keeping answers first (Pending place) = Kept (get_or answers place Done) (first + place)
keeping answers first (Kept answer serial) = Kept answer serial
keeping answers first Withdrawn = Withdrawn

-- all that was pending got these answers
abbrev pub settled : List Answer → ℕ → LiveFutures → LiveFutures
settled answers first f = record f { waiting = 0; live = map (restand (keeping answers first)) f.live }

-- the future whose operation was pending at this place is withdrawn
abbrev pub withdrawing : ℕ → Standing → Standing
withdrawing last (Pending place) = if place == last then Withdrawn else Pending place
withdrawing last (Kept answer serial) = Kept answer serial
withdrawing last Withdrawn = Withdrawn

-- the last pending operation was withdrawn
abbrev pub last_withdrawn : LiveFutures → LiveFutures
last_withdrawn f = record f { waiting = f.waiting - 1; live = map (restand (withdrawing (f.waiting - 1))) f.live }

-- the ticket with this key is live no more
abbrev pub spent : ℕ → LiveFutures → LiveFutures
spent key f = record f { live = slice_set f.live key None }

-- the place of a future whose operation is pending
abbrev pub place_of : Option Future → Option ℕ
place_of None = None
place_of (Some future) = place_at future.standing where
  place_at : Standing → Option ℕ
  place_at (Pending place) = Some place
  place_at (Kept answer serial) = None
  place_at Withdrawn = None

-- each pending future has a place of its own among those that are pending
pub record HavePlaces (waiting : ℕ) (live : List (Option Future)) : Type 0 where
  pub below : (key place : ℕ) → place_of (under live key) ≡ Some place → place < waiting
  pub apart : (key other place : ℕ) → place_of (under live key) ≡ Some place → place_of (under live other) ≡ Some place → key ≡ other
