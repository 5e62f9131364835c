use Rattle.std.proofs.Common.{◌≡◌, ◌++◌, take, map, decimal}
use Rattle.text_lines.specs.Printed.{spaced}
use Rattle.job_text.proofs.print.print_numbers.Given as goal

-- the numbers so far
abbrev pub invariant-loop-number : goal.invariant-loop-number
invariant-loop-number l = l.text ≡ l.fn.text ++ spaced (map decimal (take l.number-index l.numbers))
