use Rattle.std.proofs.Common.{◌≤◌}
use Rattle.round_text.specs.Rounds.{most_rounds}
use Rattle.round_text.proofs.tests.rounds_read.Given as goal

abbrev pub invariant-loop-files : goal.invariant-loop-files
invariant-loop-files g l = l.reader.number ≤ most_rounds
