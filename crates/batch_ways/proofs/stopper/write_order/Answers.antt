use Rattle.plain_ways.proofs.Puts.{then_along}
use Rattle.batch_ways.proofs.stopper.write_order.Goals as goal

pub returns : goal.returns
returns c = then_along (then_along (then_along (then_along c.write.ensures c.write-2.ensures) c.write-3.ensures) c.write-4.ensures) c.write-5.ensures
