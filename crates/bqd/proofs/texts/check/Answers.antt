use Rattle.std.proofs.Common.{◌≡◌, Ok, Err, refl, sym, ap, ◌∙◌, arith}
use Rattle.trace_text.specs.Verdicts.{verdict_in}
use Rattle.bqd.specs.Line.{fault_text}
use Rattle.bqd.specs.VerdictLine.{verdict_text}
use Rattle.bqd.proofs.InputLemmas.{consumes_front}
use Rattle.bqd.proofs.TextLemmas.{short_history, check_known, ends-verdict, ends-check_refused}
use Rattle.bqd.proofs.texts.check.Goals as goal

pub returns-in-Ok-check_history : goal.returns-in-Ok-check_history
returns-in-Ok-check_history g c =
    let bytes = c.in-Ok.bytes in
    let read = c.in-Ok.ensures in
    let verdict = c.in-Ok-check_history.verdict in
    let is : verdict_in bytes.items ≡ Ok verdict = ap verdict_in (sym c.as_slice.ensures.value) ∙ c.in-Ok-check_history.ensures in
    let line : c.as_bytes.result.now ≡ verdict_text verdict = c.as_bytes.ensures.value ∙ c.deref.ensures.0 ∙ c.verdict_line.ensures in
    let short = short_history bytes.items verdict is in
    ends-verdict _ _ _ verdict _ _ _ c.status_of.ensures line (read.whole (omega (arith, bytes.ok.0))) (check_known _ _ bytes.items bytes.len (Ok verdict) read.consumed bytes.ok.0 read.at_most read.whole is)
    (record { bytes = refl; faults = refl }) c.tell.ensures.told

pub returns-in-Err-Text : goal.returns-in-Err-Text
returns-in-Err-Text g c =
    let bytes = c.in-Ok.bytes in
    let read = c.in-Ok.ensures in
    let fault = c.in-Err-Text.fault in
    let is : verdict_in bytes.items ≡ Err fault = ap verdict_in (sym c.as_slice.ensures.value) ∙ (rw c.in-Err-Text.field-0-is at c.in-Err-Text.ensures) in
    let line : c.as_bytes-in-Err-Text.result.now ≡ fault_text fault = c.as_bytes-in-Err-Text.ensures.value ∙ c.deref-in-Err-Text.ensures.0 ∙ c.fault_line.ensures in
    ends-check_refused _ _ _ fault _ _ line (check_known _ _ bytes.items bytes.len (Err fault) read.consumed bytes.ok.0 read.at_most read.whole is)
    (consumes_front _ _ bytes.items bytes.len read.consumed bytes.ok.0 read.at_most read.whole) (record { bytes = refl; faults = refl }) c.tell-in-Err-Text.ensures.told
