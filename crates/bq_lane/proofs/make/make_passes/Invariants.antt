use Rattle.std.proofs.Common.{◌≡◌, ◌≤◌, [], map, vec_len, vec_capacity}
use Rattle.std.specs.List.{range_with_len}
use Rattle.bq_lane.specs.Made.{maker_of}
use Rattle.bq_lane.specs.Pass.{new_pass}
use Rattle.bq_lane.proofs.make.make_passes.Given as goal

abbrev pub invariant-loop-number : goal.invariant-loop-number
invariant-loop-number l = record {
  callers : l.callers ≡ l.shape.callers;
  room : l.callers ≤ vec_capacity l.passes;
  long : vec_len l.passes ≡ l.number;
  table : l.maker.table_id ≡ l.words.table_id;
  view : l.maker.me ≡ (maker_of l.shape l.number, []);
  passes : l.passes.items ≡ map (new_pass l.words.table_id l.shape) (range_with_len 0 l.number);
}
