use Rattle.std.proofs.Common.{sym, ◌∙◌}
use Rattle.std.proofs.lemmas.List.{length-map}
use Rattle.bqd.proofs.DrillLemmas.{line_of-jobs}
use Rattle.bqd.proofs.drill.run_generated.Goals as goal

pub returns-clause-line : goal.returns-clause-line
returns-clause-line g c =
    c.drill_line-line.ensures
    ∙ line_of-jobs c.args.jobs _ _ _ _ _ _ _ c.in_ok-file.ensures c.in_ok-done.ensures.ran (c.len.ensures ∙ sym (length-map c.in_ok-done.done.books g.L.Lane.history)) (c.as_slice.ensures ∙ c.in_ok-done.ensures.text)
