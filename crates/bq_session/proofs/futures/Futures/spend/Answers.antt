use Rattle.std.proofs.Common.{arith, ap, sym, subst}
use Rattle.bq_session.specs.Futures.{IsLive, IsPending, place_of, LiveFutures}
use Rattle.bq_session.proofs.Pending.{ArePending-changed, no_place}
use Rattle.bq_session.proofs.futures.Futures.spend.Goals as goal

pub invariant_of-self : goal.invariant_of-self
invariant_of-self c =
    let e = c.remove.ensures in
    let Live : LiveFutures → Type 0 = λ f. IsLive f c.args.ticket in
    let Apart : LiveFutures → Type 0 = λ f. IsPending f c.args.ticket → ⊥ in
    let live = subst Live (sym c.self.view_is) c.requires.live in
    let apart = subst Apart (sym c.self.view_is) c.requires.not_pending in (
      ArePending-changed c.self.inside.keys.items c.self.inside.live.slots _ c.args.ticket.key c.self.invariant.0
          (no_place _ c.args.ticket live.0 live.1 apart) (ap place_of e.updates.changed) e.updates.others,
      c.self.invariant.1,
      omega (arith, e.len, c.self.invariant.2),
      omega (arith, e.capacity, c.self.invariant.3),
      c.self.invariant.4,
    )
