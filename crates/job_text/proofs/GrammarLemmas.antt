-- What is read of a text that is too long.
use Rattle.std.proofs.Common.{◌≡◌, ℕ, ◌+◌, List, Result, take, ap, codes}
use Rattle.bq_model.specs.declared.fault.TextFault.{TextFault}
use Rattle.text_lines.specs.Reading.{most_bytes}
use Rattle.text_lines.specs.Parts.{◌>>=◌}
use Rattle.text_lines.proofs.ReadingLemmas.{text_state-take}
use Rattle.job_text.specs.Grammar.{LinesSay, jobs_of, meaning, nothing_yet, units_at_end}

-- a text means what its first bytes do, one more than a text may have
pub jobs_of-take : (text : List ℕ) → jobs_of (take (most_bytes + 1) text) ≡ jobs_of text
jobs_of-take text =
    ap (λ (said : Result LinesSay TextFault). said >>= (λ so_far. units_at_end so_far.units so_far.block)) (text_state-take (codes "bqjobs") (codes "1") meaning nothing_yet text)
