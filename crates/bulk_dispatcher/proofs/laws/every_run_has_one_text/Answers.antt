use Rattle.std.proofs.Common.{sym, ◌∙◌}
use Rattle.bulk_dispatcher.proofs.Lines.{lines}
use Rattle.bulk_dispatcher.proofs.laws.every_run_has_one_text.Goals as goal

pub returns : goal.returns
returns c = record {
  same_text = λ file books more_books replies more_replies fit more_fit. lines file replies fit.one_each fit.answered ∙ sym (lines file more_replies more_fit.one_each more_fit.answered);
}
