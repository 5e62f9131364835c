use Rattle.bqd.proofs.InputLemmas.{consumes_front}
use Rattle.bqd.proofs.file.read_file.Goals as goal

pub returns-in-Err-Text-clause-fault_is_seen : goal.returns-in-Err-Text-clause-fault_is_seen
returns-in-Err-Text-clause-fault_is_seen g c = λ fault e.
    consumes_front _ _ c.in-Ok.bytes.items c.in-Ok.bytes.len c.in-Ok.ensures.consumed c.in-Ok.bytes.ok.0 c.in-Ok.ensures.at_most c.in-Ok.ensures.whole

pub returns-in-Ok-read_jobs-clause-fault_is_seen : goal.returns-in-Ok-read_jobs-clause-fault_is_seen
returns-in-Ok-read_jobs-clause-fault_is_seen g c = λ fault e.
    consumes_front _ _ c.in-Ok.bytes.items c.in-Ok.bytes.len c.in-Ok.ensures.consumed c.in-Ok.bytes.ok.0 c.in-Ok.ensures.at_most c.in-Ok.ensures.whole
