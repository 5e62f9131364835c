use Rattle.std.proofs.Common.{◌≡◌, ◌-◌, ◌≤◌, [], deque_capacity}
use Rattle.bq_session.specs.Outcome.{made_by}
use Rattle.hand_tickets.specs.Holds.{Holds}
use Rattle.bulk_dispatcher.specs.Hands.{Answered, found_nothing_by}
use Rattle.bulk_dispatcher.specs.Rounds.{PutsNothing}
use Rattle.bulk_dispatcher.proofs.drain.drain.Given as goal

-- the lane has not ended so far, and what was caught is answered
abbrev pub invariant-rounds : goal.invariant-rounds
invariant-rounds g l =
    let lane = g.L.Lane in
    record {
      rests : Holds l.fn.session.futures.lane l.hand [] [] [] l.session;
      held : l.held.items ≡ [];
      capacity : 256 ≤ deque_capacity l.held;
      put : PutsNothing l.hand (lane.seen l.fn.session.pass) (lane.seen l.session.pass);
      few : found_nothing_by (lane.seen l.session.pass) l.hand ≤ found_nothing_by (lane.seen l.fn.session.pass) l.hand;
      answered : Answered l.jobs l.fn.session.futures.lane l.hand (lane.seen l.fn.session.pass) (lane.seen l.session.pass) l.fn.replies.items l.replies.items;
      identity : lane.pass_identity l.session.pass ≡ lane.pass_identity l.fn.session.pass;
      shape : lane.pass_shape l.session.pass ≡ lane.pass_shape l.fn.session.pass;
      callers : lane.callers l.session.pass ≡ lane.callers l.fn.session.pass;
    }

-- what is left of the allowance
abbrev pub decreases-rounds : goal.decreases-rounds
decreases-rounds g l = let lane = g.L.Lane in (lane.lane_shape l.lane).allowance - made_by (lane.seen l.session.pass) l.hand
