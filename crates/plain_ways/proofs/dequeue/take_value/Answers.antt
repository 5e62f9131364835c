use Rattle.std.proofs.Common.{arith, sym}
use Rattle.plain_ways.proofs.Dequeues.{reads_value, moves_head, head_has_moved}
use Rattle.lane_course.proofs.Ways.{here, is_told, stands_at, acts}
use Rattle.plain_ways.proofs.dequeue.take_value.Goals as goal

pub exchange-found-requires-clause-at : goal.exchange-found-requires-clause-at
exchange-found-requires-clause-at c = stands_at (reads_value _ _ c.load.ensures c.args.dummy c.args.row (here c.requires) c.value_in-value.result c.value_in-value.ensures).runs

pub exchange-found-requires-clause-exchange : goal.exchange-found-requires-clause-exchange
exchange-found-requires-clause-exchange c = acts (reads_value _ _ c.load.ensures c.args.dummy c.args.row (here c.requires) c.value_in-value.result c.value_in-value.ensures).runs

pub finish_row-requires-clause-room : goal.finish_row-requires-clause-room
finish_row-requires-clause-room c = let wide = c.requires.reserves.walked in let some = c.args.shape.now.some_batch.0 in omega (arith, wide, some)

pub finish_row-requires-clause-led : goal.finish_row-requires-clause-led
finish_row-requires-clause-led c = (c.args.token.now, moves_head _ _ c.exchange-found.ensures c.args.dummy c.args.row c.value_in-value.result (reads_value _ _ c.load.ensures c.args.dummy c.args.row (here c.requires) c.value_in-value.result c.value_in-value.ensures) (sym c.if-names.ensures))

pub returns-then-names-clause-next : goal.returns-then-names-clause-next
returns-then-names-clause-next c = c.finish_row.ensures.next c.args.token.now (moves_head _ _ c.exchange-found.ensures c.args.dummy c.args.row c.value_in-value.result (reads_value _ _ c.load.ensures c.args.dummy c.args.row (here c.requires) c.value_in-value.result c.value_in-value.ensures) (sym c.if-names.ensures))

pub returns-else-names-clause-next : goal.returns-else-names-clause-next
returns-else-names-clause-next c = is_told _ _ _ _ _ _ _ _ _ c.dequeue_at.ensures (head_has_moved _ _ c.exchange-found.ensures c.args.dummy c.args.row c.value_in-value.result (reads_value _ _ c.load.ensures c.args.dummy c.args.row (here c.requires) c.value_in-value.result c.value_in-value.ensures) (sym c.if-names.ensures))
