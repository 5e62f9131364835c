use Rattle.std.proofs.Common.{◌≡◌, length, vec_len}
use Rattle.round_text.specs.Stream.{cut}
use Rattle.round_text.specs.Rounds.{rounds_of, rounds_at_end, behind_files}
use Rattle.round_text.proofs.rounds.rounds_in.Given as goal

abbrev pub invariant-loop-text : goal.invariant-loop-text
invariant-loop-text l = rounds_of l.bytes ≡ behind_files l.files.items (rounds_at_end (vec_len l.files) (cut l.rest))

abbrev pub decreases-loop-text : goal.decreases-loop-text
decreases-loop-text l = length l.rest
