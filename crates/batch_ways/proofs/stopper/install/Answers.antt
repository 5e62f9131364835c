use Rattle.std.proofs.Common.{sym}
use Rattle.batch_ways.proofs.Stoppers.{installed}
use Rattle.lane_course.proofs.Ways.{acts, here, stands_at}
use Rattle.batch_ways.proofs.stopper.install.Goals as goal

pub exchange-found-requires : goal.exchange-found-requires
exchange-found-requires c = record { at = stands_at c.requires.runs; exchange = acts c.requires.runs }

pub returns : goal.returns
returns c = installed _ _ c.exchange-found.ensures c.args.draft.now c.is_dummy.result c.requires.alone (sym c.is_dummy.ensures) (here c.requires.runs)
