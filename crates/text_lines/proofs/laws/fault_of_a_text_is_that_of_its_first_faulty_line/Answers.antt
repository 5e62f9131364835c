use Rattle.std.proofs.Common.{sym, ◌∙◌}
use Rattle.text_lines.specs.Lines.{lines_of}
use Rattle.text_lines.specs.Reading.{text_line}
use Rattle.text_lines.proofs.ReadingLemmas.{IsFirstFault-from_read_lines, read_lines-from_IsFirstFault, text_state-lines}
use Rattle.text_lines.proofs.laws.fault_of_a_text_is_that_of_its_first_faulty_line.Goals as goal

pub returns-clause-lines : goal.returns-clause-lines
returns-clause-lines g c =
    λ take_line number state lines found. (IsFirstFault-from_read_lines take_line number state lines found, read_lines-from_IsFirstFault take_line number state lines found)

pub returns-clause-text : goal.returns-clause-text
returns-clause-text g c =
    λ name version meaning state text found short some.
    let lines_is = text_state-lines name version meaning state text short some in
    let take_line = text_line name version meaning in (
      λ fails. IsFirstFault-from_read_lines take_line 1 state (lines_of text) found (sym lines_is ∙ fails),
      λ first. lines_is ∙ read_lines-from_IsFirstFault take_line 1 state (lines_of text) found first,
    )
