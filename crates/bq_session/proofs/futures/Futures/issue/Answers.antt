use Rattle.std.proofs.Common.{arith, ap, sym, ◌∙◌, ◌≤◌, ◌≢◌, Some, subst, ℕ}
use Rattle.slab.specs.Slab.{slab_len}
use Rattle.bq_session.specs.Futures.{live_count, place_of, LiveFutures}
use Rattle.bq_session.proofs.Pending.{ArePending-issued}
use Rattle.bq_session.proofs.futures.Futures.issue.Goals as goal

pub invariant_of-self : goal.invariant_of-self
invariant_of-self c =
    let e = c.insert_reserved-key.ensures in
    let left : slab_len c.self.inside.live ≢ c.self.inside.tickets =
    (let P : LiveFutures → Type 0 = λ f. live_count f ≢ f.tickets in subst P (sym c.self.view_is) c.requires.ticket) in
    let few : slab_len c.self.inside.live ≤ c.self.inside.tickets = c.self.invariant.2 in (
      rw c.push.ensures.appended (ArePending-issued c.self.inside.keys.items c.self.inside.live.slots _ _ c.self.invariant.0 e.was_vacant
          (ap place_of e.updates.changed ∙ ap (λ (n : ℕ). Some n) c.len.ensures.items) e.updates.others),
      c.push.ensures.capacity_stays ∙ c.self.invariant.1,
      omega (arith, e.len),
      omega (arith, e.capacity, c.self.invariant.3),
      c.self.invariant.4,
    )
