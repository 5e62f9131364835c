use Rattle.std.proofs.Common.{arith}
use Rattle.plain_ways.proofs.Puts.{tail_moved}
use Rattle.lane_course.proofs.Ways.{acts, here, stands_at}
use Rattle.plain_ways.proofs.put_way.move_tail.Goals as goal

pub overflow_add-place : goal.overflow_add-place
overflow_add-place c = let fits = c.requires.stands.ready.counts in omega (arith, fits)

pub exchange-requires : goal.exchange-requires
exchange-requires c = record { at = stands_at c.requires; exchange = acts c.requires }

pub finish-requires : goal.finish-requires
finish-requires c = record { led = (c.args.token.now, tail_moved {x = c.args.item} _ _ c.exchange.ensures c.args.tail (here c.requires)) }

pub returns-clause-next : goal.returns-clause-next
returns-clause-next c = c.finish.ensures.next c.args.token.now (tail_moved {x = c.args.item} _ _ c.exchange.ensures c.args.tail (here c.requires))
