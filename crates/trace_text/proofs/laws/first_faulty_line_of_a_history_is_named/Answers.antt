use Rattle.std.proofs.Common.{sym, ◌∙◌, codes}
use Rattle.text_lines.specs.Lines.{lines_of}
use Rattle.text_lines.specs.Reading.{text_line}
use Rattle.text_lines.proofs.ReadingLemmas.{text_state-lines, IsFirstFault-from_read_lines, read_lines-from_IsFirstFault}
use Rattle.trace_text.specs.HistoryText.{meaning, nothing_yet, is_second, version_word}
use Rattle.trace_text.proofs.laws.first_faulty_line_of_a_history_is_named.Goals as goal

pub returns-clause-first_line : goal.returns-clause-first_line
returns-clause-first_line c =
    λ text found short some.
    let second = is_second text in
    let version = version_word second in
    let lines_is = text_state-lines (codes "bqhist") version meaning (nothing_yet second) text short some in
    let take_line = text_line (codes "bqhist") version meaning in (
      λ fails. IsFirstFault-from_read_lines take_line 1 (nothing_yet second) (lines_of text) found (sym lines_is ∙ fails),
      λ first. lines_is ∙ read_lines-from_IsFirstFault take_line 1 (nothing_yet second) (lines_of text) found first,
    )
