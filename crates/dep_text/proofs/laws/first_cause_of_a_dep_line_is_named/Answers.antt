use Rattle.std.proofs.Common.{codes}
use Rattle.text_lines.proofs.FirstCauses.{NamesFirst-line}
use Rattle.dep_text.specs.Grammar.{meaning}
use Rattle.dep_text.specs.LineCauses.{applying}
use Rattle.dep_text.proofs.CauseLemmas.{meaning-names}
use Rattle.dep_text.proofs.laws.first_cause_of_a_dep_line_is_named.Goals as goal

pub returns : goal.returns
returns c = NamesFirst-line (codes "bqdeps") (codes "1") meaning applying meaning-names
