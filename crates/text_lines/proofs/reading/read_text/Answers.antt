use Rattle.std.proofs.Common.{◌≡◌, ◌≢◌, ◌<◌, ℕ, List, [], length, sym, ap, ◌∙◌, arith, rules}
use Rattle.text_lines.specs.Lines.{lines_of}
use Rattle.text_lines.specs.Reading.{text_line, read_lines}
use Rattle.text_lines.proofs.ReadingLemmas.{text_state-lines, length-lines_of}
use Rattle.text_lines.proofs.reading.read_text.Goals as goal

pub loop-line-init : goal.loop-line-init
loop-line-init g c =
    let text = c.args.text.now in
    let lines_are : c.into_iter-line-iterator.result ≡ lines_of text = c.into_iter-line-iterator.ensures.into_iter_gives ∙ c.new-line-items.ensures in
    let as_many = ap (λ (lines : List (List ℕ)). length lines) lines_are in
    record {
      said = ap (read_lines (text_line c.args.name.now c.args.version.now g.R.LineReader.meaning) 1 c.args.reader.now) lines_are;
      counted = omega (arith, length-lines_of text);
    }

pub returns : goal.returns
returns g c =
    let text = c.args.text.now in
    let name = c.args.name.now in
    let version = c.args.version.now in
    let meaning = g.R.LineReader.meaning in
    let nonempty : 0 < length text = search rules in
    let some : text ≢ [] = λ none. omega (arith, ap (λ (bytes : List ℕ). length bytes) none) in
    let none_left : c.loop-line.line-iterator ≡ [] = c.in-None.ensures.steps.0 in
    text_state-lines name version meaning c.args.reader.now text c.if-text-gt-MOST_BYTES.false some
    ∙ (sym c.loop-line.invariant.said ∙ ap (read_lines (text_line name version meaning) c.loop-line.number c.loop-line.reader) none_left)
