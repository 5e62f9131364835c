use Rattle.std.proofs.Common.{Some, refl, sym, ap, ◌∙◌}
use Rattle.bqd.proofs.DrillLemmas.{as_drill-done}
use Rattle.bqd.proofs.top.top.Goals as goal

pub returns-in-Ok-drill-clause-drill : goal.returns-in-Ok-drill-clause-drill
returns-in-Ok-drill-clause-drill g c = λ jobs hands batch named done.
    let is = sym c.command_of.ensures.meaning ∙ c.in-Some-Drill.is ∙ ap Some c.in-Some-Drill.field-0-is in
    rw c.with-in-Ok-drill.ensures.replies
    (rw c.with-in-Ok-drill.ensures.books
    (as_drill-done _ _ _ _ _ _ _ is jobs hands batch _ _ named (record { bytes = refl; faults = refl }) (record { bytes = refl; faults = refl }) c.in-Ok-drill.ensures.written c.in-Ok-drill.ensures.ran))
