use Rattle.std.proofs.Common.{◌≡◌, List, sym, ap, ◌∙◌, codes}
use Rattle.text_lines.specs.Reading.{text_state}
use Rattle.dep_text.specs.declared.job.DepJob.{DepJob}
use Rattle.dep_text.specs.Grammar.{meaning}
use Rattle.dep_text.proofs.RangeLemmas.{IsDepFile-deps_of}
use Rattle.dep_text.proofs.read.read_deps.Goals as goal

pub end-requires : goal.end-requires
end-requires c =
    let text = c.args.bytes.now in
    let begins = ap (λ (start : List DepJob). text_state (codes "bqdeps") (codes "1") meaning start text) c.new-progress.ensures in
    IsDepFile-deps_of text c.read_text.new.reader (sym begins ∙ c.in-Ok.ensures)
