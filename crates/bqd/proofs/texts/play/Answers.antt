use Rattle.std.proofs.Common.{◌≡◌, Ok, Err, refl, sym, ap, ◌∙◌, arith}
use Rattle.trace_text.specs.Printed.{played_in}
use Rattle.bqd.specs.Line.{fault_text}
use Rattle.bqd.proofs.InputLemmas.{consumes_front}
use Rattle.bqd.proofs.TextLemmas.{short_schedule, play_known, ends-played, ends-play_refused}
use Rattle.bqd.proofs.texts.play.Goals as goal

pub returns-in-Ok-play_schedule : goal.returns-in-Ok-play_schedule
returns-in-Ok-play_schedule g c =
    let bytes = c.in-Ok.bytes in
    let read = c.in-Ok.ensures in
    let text = c.as_slice-in-Ok-play_schedule.result.now in
    let is : played_in bytes.items ≡ Ok text = ap played_in (sym c.as_slice.ensures.value) ∙ (c.in-Ok-play_schedule.ensures.played ∙ ap Ok (sym c.as_slice-in-Ok-play_schedule.ensures)) in
    let short = short_schedule bytes.items text is in
    ends-played _ _ _ text _ (read.whole (omega (arith, bytes.ok.0))) (play_known _ _ bytes.items bytes.len (Ok text) read.consumed bytes.ok.0 read.at_most read.whole is) (record { bytes = refl; faults = refl }) c.tell.ensures.told

pub returns-in-Err-Text : goal.returns-in-Err-Text
returns-in-Err-Text g c =
    let bytes = c.in-Ok.bytes in
    let read = c.in-Ok.ensures in
    let fault = c.in-Err-Text.fault in
    let is : played_in bytes.items ≡ Err fault = ap played_in (sym c.as_slice.ensures.value) ∙ (rw c.in-Err-Text.field-0-is at c.in-Err-Text.ensures.played) in
    let line : c.as_bytes.result.now ≡ fault_text fault = c.as_bytes.ensures.value ∙ c.deref.ensures.0 ∙ c.fault_line.ensures in
    ends-play_refused _ _ _ fault _ _ line (play_known _ _ bytes.items bytes.len (Err fault) read.consumed bytes.ok.0 read.at_most read.whole is)
    (consumes_front _ _ bytes.items bytes.len read.consumed bytes.ok.0 read.at_most read.whole) (record { bytes = refl; faults = refl }) c.tell-in-Err-Text.ensures.told
