use Rattle.std.proofs.Common.{◌≡◌, ◌+◌, ◌≤◌, length}
use Rattle.text_lines.specs.Lines.{lines_of}
use Rattle.trace_text.proofs.check.line_behind.Given as goal

-- the lines that are left are still to be counted
abbrev pub invariant-loop-line : goal.invariant-loop-line
invariant-loop-line l = record {
  exact : l.number + length l._line-iterator ≡ length (lines_of l.fn.bytes) + 1;
  few : l.number + length l._line-iterator ≤ length l.fn.bytes + 2;
}
