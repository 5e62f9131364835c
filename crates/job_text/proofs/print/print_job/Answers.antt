use Rattle.std.proofs.Common.{arith}
use Rattle.std.proofs.lemmas.Grind.{common_steps}
use Rattle.text_lines.proofs.PrintedLines.{join-spaced}
use Rattle.job_text.proofs.print.print_job.Goals as goal

pub returns-in_ok-append_parts-in-Sum : goal.returns-in_ok-append_parts-in-Sum
returns-in_ok-append_parts-in-Sum c = grind (arith, common_steps, join-spaced)

pub returns-in_ok-append_parts-in-Words : goal.returns-in_ok-append_parts-in-Words
returns-in_ok-append_parts-in-Words c = grind (arith, common_steps, join-spaced)
