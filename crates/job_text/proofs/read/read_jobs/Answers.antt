use Rattle.std.proofs.Common.{sym, ap, ◌∙◌, codes}
use Rattle.text_lines.specs.Reading.{text_state}
use Rattle.job_text.specs.Grammar.{LinesSay, meaning}
use Rattle.job_text.proofs.RangeLemmas.{IsInProgress-progress_of}
use Rattle.job_text.proofs.read.read_jobs.Goals as goal

pub file_of-requires : goal.file_of-requires
file_of-requires c =
    let text = c.args.bytes.now in
    let begins = ap (λ (start : LinesSay). text_state (codes "bqjobs") (codes "1") meaning start text) c.new-progress.ensures in
    IsInProgress-progress_of text c.read_text.new.reader (sym begins ∙ c.in-Ok.ensures)
