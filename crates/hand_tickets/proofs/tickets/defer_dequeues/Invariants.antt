use Rattle.std.proofs.Common.{◌≡◌, ◌++◌, replicate, deque_capacity}
use Rattle.bq_model.specs.declared.op.Op.TheVariants.{Deq}
use Rattle.hand_tickets.specs.Holds.{HoldsPending}
use Rattle.hand_tickets.proofs.tickets.defer_dequeues.Given as goal

-- so many are deferred so far
abbrev pub invariant-loop : goal.invariant-loop
invariant-loop g l = record {
  holds : HoldsPending l.fn.session.futures.lane l.fn.session.futures.caller (l.fn.session.pending ++ replicate l.counter Deq) l.held.items l.session;
  pass : l.session.pass ≡ l.fn.session.pass;
  capacity : deque_capacity l.held ≡ deque_capacity l.fn.held;
}
