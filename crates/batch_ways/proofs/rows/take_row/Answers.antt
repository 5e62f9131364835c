use Rattle.batch_ways.proofs.Fills.{link_cleared, mark_cleared}
use Rattle.lane_course.proofs.Ways.{acts, here, stands_at}
use Rattle.batch_ways.proofs.rows.take_row.Goals as goal

pub store-requires : goal.store-requires
store-requires c = record { at = stands_at c.requires; store = acts c.requires }

pub store-requires-2 : goal.store-requires-2
store-requires-2 c = let w = mark_cleared _ _ c.store.ensures c.args.value c.args.row (here c.requires) in record { at = stands_at w.runs; store = acts w.runs }

pub returns : goal.returns
returns c = link_cleared _ _ c.store-2.ensures c.args.value c.args.row (mark_cleared _ _ c.store.ensures c.args.value c.args.row (here c.requires))
