use Rattle.std.proofs.Common.{◌≡◌, ◌+◌, ◌≤◌, length}
use Rattle.text_lines.specs.Lines.{lines_of}
use Rattle.text_lines.specs.Reading.{text_line, read_lines}
use Rattle.text_lines.proofs.reading.read_text.Given as goal

-- the lines that are left say the same as all lines
abbrev pub invariant-loop-line : goal.invariant-loop-line
invariant-loop-line g l = record {
  said : read_lines (text_line l.name l.version g.R.LineReader.meaning) l.number l.reader l.line-iterator
      ≡ read_lines (text_line l.name l.version g.R.LineReader.meaning) 1 l.fn.reader (lines_of l.text);
  counted : l.number + length l.line-iterator ≤ length l.text + 2;
}
