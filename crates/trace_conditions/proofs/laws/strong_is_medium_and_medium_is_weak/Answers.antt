use Rattle.trace_conditions.proofs.Strong.{strong_is_medium}
use Rattle.trace_conditions.proofs.laws.strong_is_medium_and_medium_is_weak.Goals as goal

pub returns-clause-strong : goal.returns-clause-strong
returns-clause-strong c = strong_is_medium
