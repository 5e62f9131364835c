use Rattle.std.proofs.Common.{◌≡◌, map}
use Rattle.slab.specs.Slab.{slab_len}
use Rattle.bq_session.specs.Futures.{restand}
use Rattle.bq_session.proofs.Pending.{keeping_below}
use Rattle.bq_session.proofs.futures.keep_answers.Given as goal

abbrev pub invariant-loop-place : goal.invariant-loop-place
invariant-loop-place l = record {
  kept : l.live.slots ≡ map (restand (keeping_below l.place l.answers l.first)) l.initial.live.slots;
  counted : slab_len l.live ≡ slab_len l.initial.live;
  capacity : l.live.capacity ≡ l.initial.live.capacity;
}
