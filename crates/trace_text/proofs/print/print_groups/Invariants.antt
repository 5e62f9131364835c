use Rattle.std.proofs.Common.{◌≡◌, ◌++◌, [], take, drop, All}
use Rattle.bq_model.specs.Queue.{unshut}
use Rattle.text_lines.specs.Printed.{printed_lines}
use Rattle.trace_text.specs.Ranges.{IsGroupInRange}
use Rattle.trace_text.specs.Printed.{group_lines}
use Rattle.trace_text.proofs.print.print_groups.Given as goal

-- the groups that are left are still to be printed
abbrev pub invariant-loop-group : goal.invariant-loop-group
invariant-loop-group l = record {
  printed : l.text ++ printed_lines (group_lines l.queue (drop l.group-index l.history)) ≡ l.fn.text ++ printed_lines (group_lines (unshut []) l.history);
  in_range : All IsGroupInRange (take l.group-index l.history);
}
