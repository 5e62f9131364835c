-- The rounds of a stream: its job files, up to the first fault.
use Rattle.std.specs.Prelude.{ℕ, ◌+◌, List, [], ◌∷◌, ◌++◌, length, None, Some, Result, Ok, Err, ◌==◌, nat_le, if◌then◌else◌}
use Rattle.bq_model.specs.declared.fault.TextCause.TheVariants.{TooMany, TooLong, OpenRound}
use Rattle.bq_model.specs.declared.fault.TextFault.{TextFault}
use Rattle.text_lines.specs.Reading.{most_bytes, fault}
use Rattle.job_text.specs.declared.file.Unit.{Unit}
use Rattle.job_text.specs.Grammar.{jobs_of}
use Rattle.round_text.specs.declared.rounds.Rounds.{Rounds}
use Rattle.round_text.specs.Stream.{Cut, cut, texts_at_end, rest_at_end}

-- the most rounds of a stream
abbrev pub most_rounds : ℕ
most_rounds = 10000

-- no round, and this fault in the round of this number
abbrev pub none_but : ℕ → TextFault → Rounds
none_but number found = record { files = []; fault = Some (record { round = number; fault = found }) }

-- one more file before the others
abbrev pub behind_file : List Unit → Rounds → Rounds
behind_file file rounds = record rounds { files = file ∷ rounds.files }

-- these files before the others
abbrev pub behind_files : List (List Unit) → Rounds → Rounds
behind_files files rounds = record rounds { files = files ++ rounds.files }

-- a round of this number that is a job file, or has a fault
abbrev pub behind_round : ℕ → Result (List Unit) TextFault → Rounds → Rounds
behind_round number (Ok file) rounds = behind_file file rounds
behind_round number (Err found) rounds = none_but number found

-- bytes that no `go` line ends, where the round of this number would stand
abbrev pub rest_of : ℕ → List ℕ → Rounds
rest_of number [] = record { files = []; fault = None }
rest_of number (byte ∷ rest) =
    if number == most_rounds then none_but number (fault 1 TooMany)
    else if nat_le (length (byte ∷ rest)) most_bytes then none_but number (fault 1 OpenRound)
    else none_but number (fault 0 TooLong)

-- the rounds of these texts, of which the first has this number, and then these bytes
abbrev pub rounds_from : ℕ → List (List ℕ) → List ℕ → Rounds
rounds_from number [] rest = rest_of number rest
rounds_from number (text ∷ texts) rest =
    if number == most_rounds then none_but number (fault 1 TooMany)
    else behind_round number (jobs_of text) (rounds_from (number + 1) texts rest)

-- the rounds of a stream that ends here, and is cut so
abbrev pub rounds_at_end : ℕ → Cut → Rounds
rounds_at_end number cut = rounds_from number (texts_at_end cut) (rest_at_end cut)

-- the rounds of a stream
abbrev pub rounds_of : List ℕ → Rounds
rounds_of bytes = rounds_at_end 0 (cut bytes)

-- those whose `go` line has its line feed among these bytes, whatever follows
abbrev pub rounds_within : List ℕ → Rounds
rounds_within bytes = rounds_from 0 (cut bytes).texts []
