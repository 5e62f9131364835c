use Rattle.std.proofs.Common.{◌≡◌, ◌++◌, take, codes, flat_map}
use Rattle.text_lines.specs.Printed.{printed_lines}
use Rattle.job_text.specs.Canon.{unit_lines}
use Rattle.job_text.proofs.print.print_jobs.Given as goal

-- the header and the units so far
abbrev pub invariant-loop-unit : goal.invariant-loop-unit
invariant-loop-unit l = l.text ≡ codes "bqjobs 1\n" ++ printed_lines (flat_map unit_lines (take l.unit-index l.unit-items))
