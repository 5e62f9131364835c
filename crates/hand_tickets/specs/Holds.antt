-- What a hand holds of a session while it makes a group: the tickets of the group's operations, in their order.
use Rattle.std.specs.Prelude.{◌≡◌, ◌≢◌, ℕ, ◌+◌, List, [], ◌∷◌, ◌++◌, length, map, replicate}
use Rattle.std.specs.List.{AllZip, AllByRecursion, range_with_len}
use Rattle.bq_model.specs.declared.op.Op.{Op}
use Rattle.bq_model.specs.declared.op.Answer.{Answer}
use Rattle.bq_session.specs.declared.ticket.Ticket.{Ticket}
use Rattle.bq_session.specs.declared.future.Standing.{Standing}
use Rattle.bq_session.specs.declared.future.Standing.TheVariants.{Pending, Kept, Withdrawn}
use Rattle.bq_model.specs.declared.group.Group.{Group}
use Rattle.bq_model.specs.Grows.{Grew}
use Rattle.bq_session.specs.declared.claim.Outcome.{Outcome}
use Rattle.bq_session.specs.Outcome.{outcome_of, made_by}
use Rattle.bq_session.specs.Session.{SessionState}
use Rattle.bq_session.specs.Futures.{Stands, live_count}

-- no two of the tickets have one key
abbrev pub Apart : List Ticket → Type 0
Apart [] = Unit {0}
Apart (t ∷ ts) = AllByRecursion (λ u. u.key ≢ t.key) ts × Apart ts

-- the session is caller c's on the lane of this number. These operations are pending, and these are the live tickets, whose futures stand so.
pub record Holds {Pass : Type 0} (number c : ℕ) (ops : List Op) (standings : List Standing) (held : List Ticket) (s : SessionState Pass) : Type 0 where
  pub lane : s.futures.lane ≡ number
  pub caller : s.futures.caller ≡ c
  pub batch : s.futures.batch ≡ 256
  pub tickets : s.futures.tickets ≡ 256
  pub pending : s.pending ≡ ops
  pub waiting : s.futures.waiting ≡ length ops
  pub live : live_count s.futures ≡ length held
  pub each : AllZip (Stands s.futures) held standings
  pub apart : Apart held

-- the futures of so many operations, all pending
abbrev pub all_pending : ℕ → List Standing
all_pending n = map Pending (range_with_len 0 n)

-- the futures of operations that got these answers, the first of which has this serial
abbrev pub all_kept : ℕ → List Answer → List Standing
all_kept first [] = []
all_kept first (answer ∷ answers) = Kept answer first ∷ all_kept (first + 1) answers

-- the futures of so many operations that are pending, and of so many behind them that were withdrawn
abbrev pub some_withdrawn : ℕ → ℕ → List Standing
some_withdrawn pending withdrawn = all_pending pending ++ replicate withdrawn Withdrawn

-- The operations were made as one group. The first one had this outcome, and the tickets of the others have kept theirs.
pub record IsMadeOfAll {Pass : Type 0} (number c : ℕ) (ops : List Op) (held : List Ticket) (outcome : Outcome) (before after : List Group) (s : SessionState Pass) : Type 0 where
  pub answer : Answer
  pub answers : List Answer
  pub made : Grew c ops (answer ∷ answers) before after
  pub own : outcome ≡ outcome_of number c (made_by before c) answer
  pub holds : Holds number c [] (all_kept (made_by before c + 1) answers) held s

-- All of these operations are pending, and these are their tickets.
abbrev pub HoldsPending : {Pass : Type 0} → ℕ → ℕ → List Op → List Ticket → SessionState Pass → Type 0
HoldsPending number c ops held s = Holds number c ops (all_pending (length ops)) held s
