use Rattle.std.proofs.Common.{◌≡◌, ℕ, [], ◌++◌, List, length, deque_capacity}
use Rattle.bq_model.specs.declared.op.Answer.{Answer}
use Rattle.hand_tickets.specs.Holds.{Holds, all_kept}
use Rattle.bulk_dispatcher.specs.Hands.{new_replies}
use Rattle.bulk_dispatcher.specs.Rounds.{ends_empty}
use Rattle.bulk_dispatcher.proofs.Rounds.{StillKept}
use Rattle.bulk_dispatcher.proofs.round.answer_kept.Given as goal

-- the rest is kept, and with it all are answered
abbrev pub invariant-loop-ticket : goal.invariant-loop-ticket
invariant-loop-ticket g l = record {
  kept : (first : ℕ) (answers : List Answer) → Holds l.fn.session.futures.lane l.fn.session.futures.caller [] (all_kept first answers) l.fn.held.items l.fn.session
      → StillKept l.jobs l.fn.session.futures.lane l.fn.session.futures.caller l.held.items l.session l.replies.items (l.fn.replies.items ++ new_replies l.jobs l.fn.session.futures.lane l.fn.session.futures.caller first answers) l.last (ends_empty l.empty answers);
  capacity : deque_capacity l.held ≡ deque_capacity l.fn.held;
  pass : l.session.pass ≡ l.fn.session.pass;
}

abbrev pub decreases-loop-ticket : goal.decreases-loop-ticket
decreases-loop-ticket g l = length l.held.items
