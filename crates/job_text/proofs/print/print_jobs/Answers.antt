use Rattle.std.proofs.Common.{◌≡◌, ◌≤◌, ℕ, List, ◌++◌, length, flat_map, codes, Ok, ap, sym, subst, ◌∙◌}
use Rattle.std.proofs.lemmas.List.{take_all}
use Rattle.text_lines.specs.Printed.{printed_lines}
use Rattle.text_lines.specs.Reading.{most_bytes}
use Rattle.job_text.specs.declared.file.Unit.{Unit}
use Rattle.job_text.specs.Grammar.{jobs_of}
use Rattle.job_text.specs.Canon.{canon, unit_lines}
use Rattle.job_text.proofs.CanonLines.{jobs_of-canon}
use Rattle.job_text.proofs.print.print_jobs.Goals as goal

pub returns-clause-read_back : goal.returns-clause-read_back
returns-clause-read_back c =
    let units = c.units-unit-items.result.now in
    let all = take_all c.loop-unit.unit-index units c.loop-unit-test.false ∙ c.units-unit-items.ensures in
    let form : c.loop-unit.text ≡ canon c.args.file.now =
    c.loop-unit.invariant ∙ ap (λ (us : List Unit). codes "bqjobs 1\n" ++ printed_lines (flat_map unit_lines us)) all in
    subst (λ (text : List ℕ). length text ≤ most_bytes → jobs_of text ≡ Ok c.args.file.now) (sym form) (jobs_of-canon c.args.file.now c.count.ensures.ranges)
