use Rattle.std.proofs.Common.{rules, ◌≡◌, ◌≤◌, [], map, reverse, take, length, sym, ap, subst, ◌∙◌, arith, Box, Option, Some, IfSome}
use Rattle.std.proofs.lemmas.List.{map_push, take_all, take_more_set}
use Rattle.std.specs.Global.{Global}
use Rattle.std.specs.Arc.{arc_value}
use Rattle.bq_c.specs.Gathering.{OneCallerOf, callers_at, callers_of}
use Rattle.bq_c.specs.declared.pass.BqPass.{BqPass}
use Rattle.bq_c.specs.declared.seat.Seat.{Seat}
use Rattle.bq_c.proofs.Lasts.{all_left, last_too, left_of, all_so_far, all_of_it, goes_back, none_left}
use Rattle.bq_c.proofs.seating.put_all.Goals as goal

pub loop-k-preserved : goal.loop-k-preserved
loop-k-preserved c =
    let i = c.loop-k.invariant in
    let old = c.loop-k.seats.items in
    let left = c.pop.new.self.items in
    let fresh = λ (s : Box Seat Global). s.value.pass.seen ≡ [] in
    let of_lane = λ (s : Box Seat Global). OneCallerOf (arc_value c.args.lane.now) s.value.pass in
    let in_lane = λ (o : Option Seat). IfSome o (λ seat. OneCallerOf (arc_value c.args.lane.now) seat.pass) in
    let open_one = λ (p : BqPass). (p.state ≡ 1) × IfSome p.address.seat (λ seat. seat.pass.seen ≡ []) in
    let its_callers = λ (s : Box Seat Global). s.value.pass.callers in
    record {
      told = goes_back its_callers (map callers_of (take c.loop-k.k c.loop-k.out)) _ (reverse (map its_callers c.args.seats.items)) old left c.in-Some.seat (callers_of c.put.new.self)
          (ap (map callers_of) (take_more_set c.loop-k.out c.loop-k.k c.put.new.self (search rules)) ∙ map_push callers_of (take c.loop-k.k c.loop-k.out) c.put.new.self)
          c.in-Some.ensures.items (sym (ap callers_at c.put.ensures.seat)) i.told;
      left = left_of old left c.in-Some.seat c.loop-k.out c.loop-k.k c.put.new.self c.in-Some.ensures.items i.left;
      seen = all_left old left fresh (Some c.in-Some.seat) i.seen c.in-Some.ensures.items;
      lane_seats = all_left old left of_lane (Some c.in-Some.seat) i.lane_seats c.in-Some.ensures.items;
      lane_laid = all_so_far (λ (p : BqPass). in_lane p.address.seat) c.loop-k.out c.loop-k.k c.put.new.self (search rules) i.lane_laid (subst in_lane (sym c.put.ensures.seat) (last_too old left of_lane (Some c.in-Some.seat) i.lane_seats c.in-Some.ensures.items));
      laid = all_so_far open_one c.loop-k.out c.loop-k.k c.put.new.self (search rules) i.laid (
        c.put.ensures.open,
        subst (λ (o : Option Seat). IfSome o (λ seat. seat.pass.seen ≡ [])) (sym c.put.ensures.seat) (last_too old left fresh (Some c.in-Some.seat) i.seen c.in-Some.ensures.items),
      );
    }

pub returns-clause-of_this_lane : goal.returns-clause-of_this_lane
returns-clause-of_this_lane c = all_of_it (λ (p : BqPass). IfSome p.address.seat (λ seat. OneCallerOf (arc_value c.args.lane.now) seat.pass)) c.loop-k.out c.loop-k.k (search rules) c.loop-k.invariant.lane_laid

pub returns-clause-fresh : goal.returns-clause-fresh
returns-clause-fresh c = all_of_it (λ (p : BqPass). (p.state ≡ 1) × IfSome p.address.seat (λ seat. seat.pass.seen ≡ [])) c.loop-k.out c.loop-k.k (search rules) c.loop-k.invariant.laid

pub returns-clause-callers : goal.returns-clause-callers
returns-clause-callers c =
    let its_callers = λ (s : Box Seat Global). s.value.pass.callers in
    let left = c.loop-k.invariant.left in
    let all : length c.loop-k.out ≤ c.loop-k.k = search rules in
    sym (ap (map callers_of) (take_all c.loop-k.k c.loop-k.out all))
    ∙ none_left its_callers (map callers_of (take c.loop-k.k c.loop-k.out)) (reverse (map its_callers c.args.seats.items)) c.loop-k.seats.items (omega (arith, left, all)) c.loop-k.invariant.told
