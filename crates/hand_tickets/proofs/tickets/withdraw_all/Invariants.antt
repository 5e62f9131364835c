use Rattle.std.proofs.Common.{◌≡◌, ◌≤◌, ◌-◌, length}
use Rattle.hand_tickets.specs.Holds.{Holds, some_withdrawn}
use Rattle.hand_tickets.proofs.tickets.withdraw_all.Given as goal

-- the last operations are withdrawn
abbrev pub invariant-loop : goal.invariant-loop
invariant-loop g l = record {
  fewer : length l.session.pending ≤ length l.fn.session.pending;
  holds : Holds l.fn.session.futures.lane l.fn.session.futures.caller l.session.pending (some_withdrawn (length l.session.pending) (length l.fn.session.pending - length l.session.pending)) l.held.items l.session;
  pass : l.session.pass ≡ l.fn.session.pass;
}

abbrev pub decreases-loop : goal.decreases-loop
decreases-loop g l = length l.session.pending
