use Rattle.std.proofs.Common.{ap, []}
use Rattle.trace_text.specs.Verdicts.{first_wrong, verdict_with}
use Rattle.trace_text.proofs.GrammarLemmas.{filled_in}
use Rattle.trace_text.proofs.LegalLemmas.{legal_from_none, none_from_legal, illegal_from_some, none_from_verdict, some_from_verdict}
use Rattle.trace_text.proofs.laws.verdict_is_that_of_the_replay.Goals as goal

pub returns-clause-legal : goal.returns-clause-legal
returns-clause-legal c =
    λ text history is.
    let wrong = first_wrong history.callers [] history.entries in (
      λ e. legal_from_none history.callers history.entries (filled_in text history is) (none_from_verdict history.entries wrong e),
      λ legal. ap (verdict_with history.entries) (none_from_legal history.callers history.entries legal),
    )

pub returns-clause-illegal : goal.returns-clause-illegal
returns-clause-illegal c =
    λ text history line is e.
    illegal_from_some history.callers history.entries line (filled_in text history is) (some_from_verdict history.entries (first_wrong history.callers [] history.entries) line e)
