use Rattle.std.proofs.Common.{◌≡◌, ◌++◌, take, map, All}
use Rattle.text_lines.specs.Printed.{printed_lines}
use Rattle.trace_text.specs.Ranges.{IsRefusedInRange}
use Rattle.trace_text.specs.Printed.{refused_line}
use Rattle.trace_text.proofs.print.print_refusals.Given as goal

-- the refusals so far
abbrev pub invariant-loop-one : goal.invariant-loop-one
invariant-loop-one l = record {
  printed : l.text ≡ l.fn.text ++ printed_lines (map refused_line (take l.one-index l.refused));
  in_range : All IsRefusedInRange (take l.one-index l.refused);
}
