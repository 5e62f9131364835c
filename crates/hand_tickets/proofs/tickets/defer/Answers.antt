use Rattle.std.proofs.Common.{arith}
use Rattle.hand_tickets.proofs.Holding.{held-issued, held-count}
use Rattle.hand_tickets.proofs.tickets.defer.Goals as goal

pub deferred-ticket-requires-clause-ticket : goal.deferred-ticket-requires-clause-ticket
deferred-ticket-requires-clause-ticket g c κs within =
    let count = held-count c.requires.holds in
    let live = c.requires.holds.live in
    let most = c.requires.holds.tickets in
    let room = c.requires.room.0 in
    omega (arith, count, live, most, room)

pub push_back_reserved-requires : goal.push_back_reserved-requires
push_back_reserved-requires g c =
    let count = held-count c.requires.holds in
    let room = c.requires.room in
    omega (arith, count, room.0, room.1, c.args.held.now.ok)

pub returns-clause-holds : goal.returns-clause-holds
returns-clause-holds g c = held-issued c.args.session.now.futures.lane c.args.session.now.futures.caller c.args.session.now.pending c.args.op c.args.held.now.items _ c.deferred-ticket.result c.args.session.now c.deferred-ticket.new.session c.requires.holds c.deferred-ticket.ensures.pending c.deferred-ticket.ensures.issued c.push_back_reserved.ensures.items
