use Rattle.trace_text.proofs.PrintedLegal.{printed-legal}
use Rattle.trace_text.proofs.print.print_play.Goals as goal

pub returns-clause-legal : goal.returns-clause-legal
returns-clause-legal c =
    let made = c.print_all.ensures in
    printed-legal c.args.play.now c.print_all.result made.text made.proper made.never_shut made.in_range made.refused_in_range
