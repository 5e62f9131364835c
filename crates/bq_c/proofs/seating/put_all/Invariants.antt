use Rattle.std.proofs.Common.{◌≡◌, ◌+◌, ◌++◌, [], length, map, reverse, take, All, IfSome}
use Rattle.std.specs.Arc.{arc_value}
use Rattle.bq_c.specs.Gathering.{OneCallerOf, callers_of}
use Rattle.bq_c.proofs.seating.put_all.Given as goal

abbrev pub invariant-loop-k : goal.invariant-loop-k
invariant-loop-k l = record {
  left : length l.seats.items + l.k ≡ length l.out;
  told : map callers_of (take l.k l.out) ++ reverse (map (λ seat. seat.value.pass.callers) l.seats.items) ≡ reverse (map (λ seat. seat.value.pass.callers) l.fn.seats.items);
  seen : All (λ seat. seat.value.pass.seen ≡ []) l.seats.items;
  lane_seats : All (λ seat. OneCallerOf (arc_value l.lane) seat.value.pass) l.seats.items;
  lane_laid : All (λ pass. IfSome pass.address.seat (λ seat. OneCallerOf (arc_value l.lane) seat.pass)) (take l.k l.out);
  laid : All (λ pass. (pass.state ≡ 1) × IfSome pass.address.seat (λ seat. seat.pass.seen ≡ [])) (take l.k l.out);
}
