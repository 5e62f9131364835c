use Rattle.std.proofs.Common.{◌≡◌, ◌+◌, ◌++◌, [], length, map, reverse, All}
use Rattle.std.specs.Arc.{arc_value}
use Rattle.bq_c.specs.Gathering.{OneCallerOf}
use Rattle.bq_c.proofs.seating.seats_of.Given as goal

abbrev pub invariant-loop-pass : goal.invariant-loop-pass
invariant-loop-pass l = record {
  table : All (λ pass. pass.table ≡ (arc_value l.lane).table) l.passes.items;
  shape : All (λ pass. pass.shape ≡ (arc_value l.lane).shape) l.passes.items;
  callers : All (λ pass. length pass.callers ≡ 1) l.passes.items;
  seen : All (λ pass. pass.seen ≡ []) l.passes.items;
  told : map (λ pass. pass.callers) l.passes.items ++ reverse (map (λ seat. seat.value.pass.callers) l.seats.items) ≡ map (λ pass. pass.callers) l.fn.passes.items;
  count : length l.seats.items + length l.passes.items ≡ length l.fn.passes.items;
  lane : All (λ seat. OneCallerOf (arc_value l.lane) seat.value.pass) l.seats.items;
  seats : All (λ seat. seat.value.pass.seen ≡ []) l.seats.items;
}

abbrev pub decreases-loop-pass : goal.decreases-loop-pass
decreases-loop-pass l = length l.passes.items
