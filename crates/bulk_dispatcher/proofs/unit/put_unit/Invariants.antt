use Rattle.std.proofs.Common.{◌≡◌, ◌-◌, ◌≤◌, [], deque_capacity}
use Rattle.bq_session.specs.Outcome.{made_by}
use Rattle.hand_tickets.specs.Holds.{Holds}
use Rattle.bulk_dispatcher.specs.Hands.{Answered}
use Rattle.bulk_dispatcher.specs.Rounds.{PutsNothing}
use Rattle.bulk_dispatcher.proofs.Few.{Tries}
use Rattle.bulk_dispatcher.proofs.unit.put_unit.Given as goal

-- the unit was not put so far, few dequeues found nothing, and what was caught is answered
abbrev pub invariant-tries : goal.invariant-tries
invariant-tries g l =
    let lane = g.L.Lane in
    record {
      rests : Holds l.fn.session.futures.lane l.hand [] [] [] l.session;
      held : l.held.items ≡ [];
      capacity : 256 ≤ deque_capacity l.held;
      put : PutsNothing l.hand (lane.seen l.fn.session.pass) (lane.seen l.session.pass);
      few : Tries l.hand (lane.seen l.fn.session.pass) (lane.seen l.session.pass);
      answered : Answered l.jobs l.fn.session.futures.lane l.hand (lane.seen l.fn.session.pass) (lane.seen l.session.pass) l.fn.replies.items l.replies.items;
      identity : lane.pass_identity l.session.pass ≡ lane.pass_identity l.fn.session.pass;
      shape : lane.pass_shape l.session.pass ≡ lane.pass_shape l.fn.session.pass;
      callers : lane.callers l.session.pass ≡ lane.callers l.fn.session.pass;
    }

-- what is left of the allowance
abbrev pub decreases-tries : goal.decreases-tries
decreases-tries g l = let lane = g.L.Lane in (lane.lane_shape l.lane).allowance - made_by (lane.seen l.session.pass) l.hand
