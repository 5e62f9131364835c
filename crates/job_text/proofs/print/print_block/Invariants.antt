use Rattle.std.proofs.Common.{◌≡◌, ◌++◌, take, map}
use Rattle.text_lines.specs.Printed.{printed_lines}
use Rattle.job_text.specs.Canon.{put_line}
use Rattle.job_text.proofs.print.print_block.Given as goal

-- the jobs so far
abbrev pub invariant-loop-job : goal.invariant-loop-job
invariant-loop-job l = l.text ≡ l.initial.text ++ printed_lines (map put_line (take l.job-index l.jobs))
