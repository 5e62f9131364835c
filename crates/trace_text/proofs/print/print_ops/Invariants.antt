use Rattle.std.proofs.Common.{◌≡◌, ◌++◌, take, drop, All}
use Rattle.bq_model.specs.Replay.{queue_from}
use Rattle.text_lines.specs.Printed.{spaced}
use Rattle.trace_text.specs.Ranges.{IsOpInRange}
use Rattle.trace_text.specs.Printed.{op_words}
use Rattle.trace_text.proofs.print.print_ops.Given as goal

-- the operations that are left are still to be printed
abbrev pub invariant-loop-op : goal.invariant-loop-op
invariant-loop-op l = record {
  printed : l.text ++ spaced (op_words l.queue (drop l.op-index l.ops)) ≡ l.fn.text ++ spaced (op_words l.fn.queue l.ops);
  queue : queue_from l.queue (drop l.op-index l.ops) ≡ queue_from l.fn.queue l.ops;
  in_range : All IsOpInRange (take l.op-index l.ops);
}
