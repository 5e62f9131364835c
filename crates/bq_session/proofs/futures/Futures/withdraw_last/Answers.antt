use Rattle.std.proofs.Common.{arith, ap, sym, subst, ◌≡◌, ◌∙◌, List, [], ◌∷◌, length, ℕ, ◌-◌, map, length-append}
use Rattle.bq_session.specs.Keys.{ArePending}
use Rattle.bq_session.specs.Futures.{restand, withdrawing}
use Rattle.bq_session.proofs.Pending.{ArePending-withdrawn, place_of_last, some_where_placed, withdrawn_alone}
use Rattle.bq_session.proofs.futures.Futures.withdraw_last.Goals as goal

pub put_standing-requires : goal.put_standing-requires
put_standing-requires c =
    let p = (let P : List ℕ → Type 0 = λ keys. ArePending keys c.self.inside.live.slots in subst P c.in-Some.ensures.last c.self.invariant.0) in
    some_where_placed _ _ (place_of_last c.pop.new.self.items c.in-Some.key c.self.inside.live.slots p)

pub invariant_of-self : goal.invariant_of-self
invariant_of-self c =
    let p = (let P : List ℕ → Type 0 = λ keys. ArePending keys c.self.inside.live.slots in subst P c.in-Some.ensures.last c.self.invariant.0) in (
      rw c.put_standing.ensures.stands (ArePending-withdrawn c.pop.new.self.items c.in-Some.key c.self.inside.live.slots p),
      c.in-Some.ensures.capacity_stays ∙ c.self.invariant.1,
      omega (arith, c.put_standing.ensures.counted, c.self.invariant.2),
      omega (arith, c.put_standing.ensures.capacity, c.self.invariant.3),
      c.self.invariant.4,
    )

pub returns-in-Some-clause-withdrawn : goal.returns-in-Some-clause-withdrawn
returns-in-Some-clause-withdrawn c =
    let p = (let P : List ℕ → Type 0 = λ keys. ArePending keys c.self.inside.live.slots in subst P c.in-Some.ensures.last c.self.invariant.0) in
    let fewer : length c.self.inside.keys.items - 1 ≡ length c.pop.new.self.items = (let e = ap length c.in-Some.ensures.last ∙ length-append c.pop.new.self.items (c.in-Some.key ∷ []) in omega (arith, e)) in
    let slots = c.put_standing.ensures.stands ∙ withdrawn_alone c.pop.new.self.items c.in-Some.key c.self.inside.live.slots p
    ∙ ap (λ (n : ℕ). map (restand (withdrawing n)) c.self.inside.live.slots) (sym fewer) in
    rw (← c.self.view_is) (λ i. record {
      lane = c.self.inside.lane;
      caller = c.self.inside.caller;
      batch = c.self.inside.batch;
      tickets = c.self.inside.tickets;
      made = c.self.inside.made;
      waiting = sym fewer i;
      live = slots i;
    })

pub returns-in-Some-clause-counted : goal.returns-in-Some-clause-counted
returns-in-Some-clause-counted c = rw (← c.self.view_is) c.put_standing.ensures.counted
