use Rattle.text_lines.proofs.FirstCauses.{NamesFirst-line}
use Rattle.text_lines.proofs.laws.fault_of_a_line_comes_first_in_the_order.Goals as goal

pub returns-clause-line : goal.returns-clause-line
returns-clause-line g c = NamesFirst-line
