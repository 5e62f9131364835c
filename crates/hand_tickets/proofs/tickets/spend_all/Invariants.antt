use Rattle.std.proofs.Common.{◌≡◌, [], length, deque_capacity}
use Rattle.hand_tickets.specs.Holds.{Holds, some_withdrawn}
use Rattle.hand_tickets.proofs.tickets.spend_all.Given as goal

-- those that are left are withdrawn
abbrev pub invariant-loop-ticket : goal.invariant-loop-ticket
invariant-loop-ticket g l = record {
  holds : Holds l.fn.session.futures.lane l.fn.session.futures.caller [] (some_withdrawn 0 (length l.held.items)) l.held.items l.session;
  pass : l.session.pass ≡ l.fn.session.pass;
  capacity : deque_capacity l.held ≡ deque_capacity l.fn.held;
}

abbrev pub decreases-loop-ticket : goal.decreases-loop-ticket
decreases-loop-ticket g l = length l.held.items
