use Rattle.std.proofs.Common.{sym}
use Rattle.lane_course.specs.Next.{told}
use Rattle.plain_ways.proofs.Dequeues.{tail_lags, tail_is_past}
use Rattle.lane_course.proofs.Ways.{here, is_told, next}
use Rattle.plain_ways.proofs.dequeue.pass_tail.Goals as goal

pub returns-then-lags-clause-next : goal.returns-then-lags-clause-next
returns-then-lags-clause-next c = is_told _ _ _ _ _ _ _ _ _ c.dequeue_at.ensures (tail_lags _ _ c.load-found.ensures c.args.dummy c.args.row (here c.requires) (sym c.if-lags.ensures))

pub take_value-requires : goal.take_value-requires
take_value-requires c = (tail_is_past _ _ c.load-found.ensures c.args.dummy c.args.row (here c.requires) (sym c.if-lags.ensures)).runs

pub returns-else-lags-clause-next : goal.returns-else-lags-clause-next
returns-else-lags-clause-next c = next (tail_is_past _ _ c.load-found.ensures c.args.dummy c.args.row (here c.requires) (sym c.if-lags.ensures)) _ _ (told c.take_value.result c.take_value.new.goes) c.take_value.ensures.next
