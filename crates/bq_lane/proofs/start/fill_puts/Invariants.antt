use Rattle.std.proofs.Common.{◌≡◌, ◌<◌, ◌≤◌, ◌^◌, ℕ, take, get_or, vec_len, vec_capacity}
use Rattle.bq_model.specs.Values.{enqueued}
use Rattle.bq_lane.proofs.start.fill_puts.Given as goal

abbrev pub invariant-loop-op : goal.invariant-loop-op
invariant-loop-op l = record {
  puts : l.puts.items ≡ enqueued (take l.op-index l.ops);
  words : (j : ℕ) → get_or l.puts.items j 0 < 2 ^ 64;
  room : vec_len l.puts ≤ l.op-index;
  capacity : vec_capacity l.puts ≡ vec_capacity l.fn.puts;
}
