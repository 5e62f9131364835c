use Rattle.std.proofs.Common.{sym, ◌∙◌, arith}
use Rattle.plain_ways.proofs.Puts.{hazard_stored, held, not_held, same_held, tail_less, tail_loaded}
use Rattle.lane_course.proofs.Ways.{acts, here, same_then, stands_at}
use Rattle.lane_course.proofs.Seeks.{same_puts}
use Rattle.plain_ways.proofs.put_way.hold_tail.Goals as goal

pub holds-init : goal.holds-init
holds-init c = record { along = here c.requires; same = same_puts c.args.scratch.now }

pub load-requires : goal.load-requires
load-requires c = let w = c.holds.invariant.along in record { at = stands_at w.runs; load = acts w.runs }

pub store-requires : goal.store-requires
store-requires c = let w = tail_loaded {x = c.args.item} _ _ c.load.ensures c.tail_in-tail.result c.tail_in-tail.ensures c.holds.invariant.along in record { at = stands_at w.runs; store = acts w.runs }

pub load-again-requires : goal.load-again-requires
load-again-requires c = let tail = c.tail_in-tail.result in let w = hazard_stored {x = c.args.item} _ _ c.store.ensures tail (tail_loaded {x = c.args.item} _ _ c.load.ensures tail c.tail_in-tail.ensures c.holds.invariant.along) in record { at = stands_at w.runs; load = acts w.runs }

pub returns-then-is_tail-clause-held : goal.returns-then-is_tail-clause-held
returns-then-is_tail-clause-held c = let tail = c.tail_in-tail.result in let w = hazard_stored {x = c.args.item} _ _ c.store.ensures tail (tail_loaded {x = c.args.item} _ _ c.load.ensures tail c.tail_in-tail.ensures c.holds.invariant.along) in
    held {x = c.args.item} _ _ c.load-again.ensures tail (sym c.is_tail.ensures ∙ c.if-is_tail.true) w

pub returns-then-is_tail-clause-same : goal.returns-then-is_tail-clause-same
returns-then-is_tail-clause-same c = same_then c.holds.invariant.same (same_held c.holds.scratch _)

pub holds-preserved : goal.holds-preserved
holds-preserved c = let tail = c.tail_in-tail.result in let w = hazard_stored {x = c.args.item} _ _ c.store.ensures tail (tail_loaded {x = c.args.item} _ _ c.load.ensures tail c.tail_in-tail.ensures c.holds.invariant.along) in record {
  along = not_held {x = c.args.item} _ _ c.load-again.ensures tail (sym c.is_tail.ensures ∙ c.if-is_tail.false) w;
  same = same_then c.holds.invariant.same (same_held c.holds.scratch _);
}

pub holds-smaller : goal.holds-smaller
holds-smaller c = let tail = c.tail_in-tail.result in let i = c.holds.invariant.along in let first = tail_less {x = c.args.item} _ _ c.load.ensures tail c.tail_in-tail.ensures i in
    let w = hazard_stored {x = c.args.item} _ _ c.store.ensures tail (here (tail_loaded {x = c.args.item} _ _ c.load.ensures tail c.tail_in-tail.ensures i).runs) in
    let rest = (not_held {x = c.args.item} _ _ c.load-again.ensures tail (sym c.is_tail.ensures ∙ c.if-is_tail.false) w).most in omega (arith, first, rest)
