use Rattle.std.proofs.Common.{[], sym, ◌∙◌, codes}
use Rattle.text_lines.specs.Lines.{lines_of}
use Rattle.text_lines.specs.Reading.{text_line}
use Rattle.text_lines.proofs.ReadingLemmas.{text_state-lines, IsFirstFault-from_read_lines, read_lines-from_IsFirstFault}
use Rattle.dep_text.specs.Grammar.{meaning}
use Rattle.dep_text.proofs.RangeLemmas.{IsDepFile-deps_of}
use Rattle.dep_text.proofs.laws.first_faulty_line_of_deps_is_named.Goals as goal

pub returns-clause-first_line : goal.returns-clause-first_line
returns-clause-first_line c =
    λ text found short some.
    let lines_is = text_state-lines (codes "bqdeps") (codes "1") meaning [] text short some in
    let take_line = text_line (codes "bqdeps") (codes "1") meaning in (
      λ fails. IsFirstFault-from_read_lines take_line 1 [] (lines_of text) found (sym lines_is ∙ fails),
      λ first. lines_is ∙ read_lines-from_IsFirstFault take_line 1 [] (lines_of text) found first,
    )

pub returns-clause-kept : goal.returns-clause-kept
returns-clause-kept c = IsDepFile-deps_of
