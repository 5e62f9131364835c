use Rattle.std.proofs.Common.{codes}
use Rattle.text_lines.proofs.FirstCauses.{NamesFirst-line}
use Rattle.job_text.specs.Grammar.{meaning}
use Rattle.job_text.specs.LineCauses.{applying}
use Rattle.job_text.proofs.CauseLemmas.{meaning-names}
use Rattle.job_text.proofs.laws.first_cause_of_a_line_is_named.Goals as goal

pub returns : goal.returns
returns c = NamesFirst-line (codes "bqjobs") (codes "1") meaning applying meaning-names
