use Rattle.std.proofs.Common.{◌≡◌, ℕ, ◌<◌, ◌∙◌, sym, ap, length, get_or, rules}
use Rattle.std.proofs.lemmas.List.{take_rest}
use Rattle.std.proofs.Math.Seq.{drop-length}
use Rattle.text_lines.specs.Words.{words_of}
use Rattle.text_lines.proofs.WordLemmas.{words_of-blanks}
use Rattle.text_lines.proofs.words.without_blanks.Goals as goal

pub returns-in-Some-clause-words : goal.returns-in-Some-clause-words
returns-in-Some-clause-words c =
    let line = c.args.line.now in
    let start = c.in-Some.start in
    let blanks : (k : ℕ) → k < start → k < length line → get_or line k 0 ≡ 32 = search rules in
    ap words_of (take_rest line start) ∙ words_of-blanks line start blanks

pub returns-in-None-clause-words : goal.returns-in-None-clause-words
returns-in-None-clause-words c =
    let line = c.args.line.now in
    let blanks : (k : ℕ) → k < length line → k < length line → get_or line k 0 ≡ 32 = search rules in
    ap words_of (sym (drop-length line)) ∙ words_of-blanks line (length line) blanks
