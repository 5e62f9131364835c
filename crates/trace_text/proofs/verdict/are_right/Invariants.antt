use Rattle.std.proofs.Common.{◌≡◌, take, drop, map}
use Rattle.bq_model.specs.Replay.{queue_from}
use Rattle.trace_text.specs.Judging.{are_right}
use Rattle.trace_text.proofs.verdict.are_right.Given as goal

-- those so far are right, and the queue is what they leave
abbrev pub invariant-loop-claim : goal.invariant-loop-claim
invariant-loop-claim l = record {
  right : are_right l.fn.queue l.claims ≡ are_right l.queue (drop l.claim-index l.claims);
  queue : l.queue ≡ queue_from l.fn.queue (map (λ c. c.op) (take l.claim-index l.claims));
}
