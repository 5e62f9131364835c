use Rattle.std.proofs.Common.{◌≡◌, ◌++◌, ◌-◌, map, filter, not}
use Rattle.std.specs.List.{range_with_len}
use Rattle.text_lines.specs.Printed.{printed_lines}
use Rattle.trace_text.specs.Played.{state_of, is_idle}
use Rattle.trace_text.specs.Printed.{unfinished_line, unfinished}
use Rattle.trace_text.proofs.print.print_unfinished.Given as goal

-- the callers that are left are still to be printed
abbrev pub invariant-loop-caller : goal.invariant-loop-caller
invariant-loop-caller l =
    l.text ++ printed_lines (map unfinished_line (filter (λ c. not (is_idle (state_of l.play) c)) (range_with_len l.caller (l.play.shape.callers - l.caller))))
    ≡ l.fn.text ++ printed_lines (map unfinished_line (unfinished l.play))
