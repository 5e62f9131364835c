use Rattle.std.proofs.Common.{◌≡◌, ◌≤◌, Option, Some, None, MatchOption, List, length, map, subst}
use Rattle.std.proofs.lemmas.List.{take_all}
use Rattle.std.specs.List.{AllZip}
use Rattle.job_text.specs.declared.file.Unit.{Unit as JobUnit}
use Rattle.bulk_dispatcher.specs.Hands.{units_of}
use Rattle.bulk_dispatcher.specs.Stops.{HandTried}
use Rattle.bulk_dispatcher.proofs.hand.put_units.Goals as goal

at_some_of : {X : Type 0} (A : X → Type 0) (B : Type 0) (r : Option X) (x : X) → r ≡ Some x → MatchOption r B A → A x
at_some_of A B r x e h = subst (λ o. MatchOption o B A) e h

at_none_of : {X : Type 0} (A : X → Type 0) (B : Type 0) (r : Option X) → r ≡ None → MatchOption r B A → B
at_none_of A B r e h = subst (λ o. MatchOption o B A) e h

pub returns-clause-put : goal.returns-clause-put
returns-clause-put g c =
    subst (λ us. AllZip (λ n x. HandTried (units_of us c.args.part.hands n c.args.part.hand) c.args.part.hand x) c.args.numbers.now (map (λ s. g.L.Lane.seen s.pass) c.loop-place.desk.sessions.items))
    (take_all c.loop-place.place c.args.jobs.now (subst (λ (us : List JobUnit). length us ≤ c.loop-place.place) c.units-place-end.ensures c.loop-place-test.false)) c.loop-place.invariant.put

pub returns-in-None-clause-put : goal.returns-in-None-clause-put
returns-in-None-clause-put g c = at_none_of _ _ c.in_ok-next.next c.in-None.is c.in_ok-next.ensures.put

pub loop-place-preserved : goal.loop-place-preserved
loop-place-preserved g c =
    let put = at_some_of _ _ c.in_ok-next.next c.in-Some.next c.in-Some.is c.in_ok-next.ensures.put in
    record {
      first = put.0;
      seats = c.in_ok-next.ensures.seats;
      at_rest = c.in_ok-next.ensures.at_rest;
      put = put.1;
      replied = c.in_ok-next.ensures.replied;
    }
