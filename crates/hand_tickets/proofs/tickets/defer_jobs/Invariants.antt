use Rattle.std.proofs.Common.{◌≡◌, ◌++◌, map, deque_capacity}
use Rattle.std.specs.List.{range_with_len}
use Rattle.bq_model.specs.declared.op.Op.TheVariants.{Enq}
use Rattle.hand_tickets.specs.Holds.{HoldsPending}
use Rattle.hand_tickets.proofs.tickets.defer_jobs.Given as goal

-- so many are deferred so far
abbrev pub invariant-loop-place : goal.invariant-loop-place
invariant-loop-place g l = record {
  holds : HoldsPending l.fn.session.futures.lane l.fn.session.futures.caller (l.fn.session.pending ++ map Enq (range_with_len l.first l.place)) l.held.items l.session;
  pass : l.session.pass ≡ l.fn.session.pass;
  capacity : deque_capacity l.held ≡ deque_capacity l.fn.held;
}
