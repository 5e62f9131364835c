use Rattle.std.proofs.Common.{◌≡◌, Err, refl, ap, ◌∙◌}
use Rattle.bqd.specs.Line.{fault_text}
use Rattle.bqd.proofs.RunLemmas.{ends-run, ends-answer, ends-unread, ends-tell}
use Rattle.bqd.proofs.run.run.Goals as goal

pub returns-in-Ok-clause-run : goal.returns-in-Ok-clause-run
returns-in-Ok-clause-run g c =
    let is = c.in-Ok.ensures in
    let told = c.answer_file.ensures in
    ends-run _ _ _ _ _ _ is.to_the_end is.file (record { bytes = refl; faults = refl }) _ _ c.answer_file.result told.written told.ran

pub returns-in-Ok-clause-explained : goal.returns-in-Ok-clause-explained
returns-in-Ok-clause-explained g c =
    let is = c.in-Ok.ensures in
    let told = c.answer_file.ensures in
    ends-answer _ _ _ _ _ _ is.to_the_end is.file (record { bytes = refl; faults = refl }) c.answer_file.result told.written

pub returns-in-Err-Text-clause-explained : goal.returns-in-Err-Text-clause-explained
returns-in-Err-Text-clause-explained g c =
    let fault = c.in-Err-Text.fault in
    let line : c.as_bytes.result.now ≡ fault_text fault = c.as_bytes.ensures.value ∙ c.deref.ensures.0 ∙ (rw c.in-Err-Text.field-0-is at c.fault_line.ensures) in
    let refused = c.in-Err-Text.is ∙ ap Err c.in-Err-Text.field-0-is in
    ends-tell _ _ _ _ _ _ fault _ line (c.read_file.ensures.fault fault refused) (c.read_file.ensures.fault_is_seen fault refused) (record { bytes = refl; faults = refl }) c.tell.ensures.told

pub returns-in-Err-Failed-clause-explained : goal.returns-in-Err-Failed-clause-explained
returns-in-Err-Failed-clause-explained g c =
    ends-unread _ _ _ _ _ (c.read_file.ensures.failed_is_counted (c.in-Err-Failed.is ∙ ap Err c.in-Err-Failed.field-0-is)) (record { bytes = refl; faults = refl }) (record { bytes = refl; faults = refl })
