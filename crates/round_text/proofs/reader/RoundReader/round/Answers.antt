use Rattle.std.proofs.Common.{◌≡◌, ◌∙◌, ℕ, List, take, Err, sym, ap}
use Rattle.job_text.specs.Grammar.{jobs_of}
use Rattle.round_text.specs.Reading.{Reading}
use Rattle.round_text.specs.Rounds.{none_but}
use Rattle.round_text.proofs.ReaderLemmas.{whatever_follows, refused_round}
use Rattle.round_text.proofs.reader.RoundReader.round.Goals as goal

pub returns-in-Err-Text : goal.returns-in-Err-Text
returns-in-Err-Text c =
    let said = rw c.in-Err-Text.field-0-is at c.in-Err-Text.ensures in
    let at = c.args.self.now in
    let text = c.args.text in
    let found = c.in-Err-Text.fault in
    let is : jobs_of (take text at.ahead) ≡ Err found = ap (λ (bytes : List ℕ). jobs_of (take text bytes)) (sym (c.as_slice.ensures ∙ ap (λ (r : Reading). r.ahead) c.self.view_is)) ∙ said in
    λ left. whatever_follows (none_but at.number found) at left (λ bytes. refused_round at.number at.ahead bytes (take text at.ahead) c.args.end found c.requires.not_beyond c.requires.round is)
