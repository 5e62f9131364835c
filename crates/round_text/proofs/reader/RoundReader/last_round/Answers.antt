use Rattle.std.proofs.Common.{◌≡◌, ◌∙◌, ℕ, List, [], ◌∷◌, take, None, Result, Ok, Err, sym, ap}
use Rattle.bq_model.specs.declared.fault.TextFault.{TextFault}
use Rattle.job_text.specs.declared.file.Unit.{Unit}
use Rattle.job_text.specs.Grammar.{jobs_of}
use Rattle.round_text.specs.Reading.{Reading}
use Rattle.round_text.specs.Rounds.{none_but, behind_round}
use Rattle.round_text.proofs.ReaderLemmas.{at_end, last_round}
use Rattle.round_text.proofs.reader.RoundReader.last_round.Goals as goal

pub returns-in-Ok : goal.returns-in-Ok
returns-in-Ok c =
    let at = c.args.self.now in
    let line = c.args.line in
    let file = c.in-Ok.file in
    let ahead_is = c.as_slice.ensures ∙ ap (λ (r : Reading). r.ahead) c.self.view_is in
    let is : jobs_of (take line at.ahead) ≡ Ok file = ap (λ (bytes : List ℕ). jobs_of (take line bytes)) (sym ahead_is) ∙ c.in-Ok.ensures in
    λ left end. (
      at_end (record { files = file ∷ []; fault = None }) at left end
          (last_round at.number at.ahead line c.requires.lines c.requires.no_feed c.requires.not_beyond c.requires.go
          ∙ ap (λ (said : Result (List Unit) TextFault). behind_round at.number said (record { files = []; fault = None })) is),
      end,
    )

pub returns-in-Err-Text : goal.returns-in-Err-Text
returns-in-Err-Text c =
    let at = c.args.self.now in
    let line = c.args.line in
    let found = c.in-Err-Text.fault in
    let said = rw c.in-Err-Text.field-0-is at c.in-Err-Text.ensures in
    let ahead_is = c.as_slice.ensures ∙ ap (λ (r : Reading). r.ahead) c.self.view_is in
    let is : jobs_of (take line at.ahead) ≡ Err found = ap (λ (bytes : List ℕ). jobs_of (take line bytes)) (sym ahead_is) ∙ said in
    λ left end. at_end (none_but at.number found) at left end
    (last_round at.number at.ahead line c.requires.lines c.requires.no_feed c.requires.not_beyond c.requires.go
    ∙ ap (λ (said : Result (List Unit) TextFault). behind_round at.number said (record { files = []; fault = None })) is)
