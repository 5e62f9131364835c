use Rattle.std.proofs.Common.{arith, ◌∙◌}
use Rattle.bq_session.proofs.Pending.{ArePending-kept, HavePlaces-pending}
use Rattle.bq_session.proofs.futures.Futures.settle.Goals as goal

pub invariant_of-self : goal.invariant_of-self
invariant_of-self c = (
  rw (c.clear.ensures.empty, c.keep_answers.ensures.kept) (ArePending-kept _ _ _),
  c.clear.ensures.capacity_stays ∙ c.self.invariant.1,
  omega (arith, c.keep_answers.ensures.counted, c.self.invariant.2),
  omega (arith, c.keep_answers.ensures.capacity, c.self.invariant.3),
  c.self.invariant.4,
)

pub returns-clause-places : goal.returns-clause-places
returns-clause-places c = rw (← c.self.view_is) (HavePlaces-pending c.self.inside.keys.items c.self.inside.live.slots c.self.invariant.0)
