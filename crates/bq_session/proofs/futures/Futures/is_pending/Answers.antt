use Rattle.std.proofs.Common.{sym, subst}
use Rattle.bq_session.specs.Futures.{LiveFutures, IsPending}
use Rattle.bq_session.proofs.Pending.{HavePlaces-pending, none_pending}
use Rattle.bq_session.proofs.futures.Futures.is_pending.Goals as goal

pub returns-then-is_empty-clause-pending : goal.returns-then-is_empty-clause-pending
returns-then-is_empty-clause-pending c = (
  λ no. cc no,
  λ pending.
      let P : LiveFutures → Type 0 = λ f. IsPending f c.args.ticket.now in
      absurd (none_pending c.self.inside.keys.items _ c.args.ticket.now (c.is_empty.ensures.0 c.if-is_empty.true) c.self.invariant.0 (subst P (sym c.self.view_is) pending)),
)

pub returns-then-is_empty-clause-places : goal.returns-then-is_empty-clause-places
returns-then-is_empty-clause-places c = rw (← c.self.view_is) (HavePlaces-pending c.self.inside.keys.items c.self.inside.live.slots c.self.invariant.0)

pub returns-in-Some-Pending-clause-places : goal.returns-in-Some-Pending-clause-places
returns-in-Some-Pending-clause-places c = rw (← c.self.view_is) (HavePlaces-pending c.self.inside.keys.items c.self.inside.live.slots c.self.invariant.0)

pub returns-in-Some-Kept-clause-places : goal.returns-in-Some-Kept-clause-places
returns-in-Some-Kept-clause-places c = rw (← c.self.view_is) (HavePlaces-pending c.self.inside.keys.items c.self.inside.live.slots c.self.invariant.0)

pub returns-in-Some-Kept-2-clause-places : goal.returns-in-Some-Kept-2-clause-places
returns-in-Some-Kept-2-clause-places c = rw (← c.self.view_is) (HavePlaces-pending c.self.inside.keys.items c.self.inside.live.slots c.self.invariant.0)

pub returns-in-Some-Kept-3-clause-places : goal.returns-in-Some-Kept-3-clause-places
returns-in-Some-Kept-3-clause-places c = rw (← c.self.view_is) (HavePlaces-pending c.self.inside.keys.items c.self.inside.live.slots c.self.invariant.0)
