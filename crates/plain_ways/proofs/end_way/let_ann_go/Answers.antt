use Rattle.std.proofs.Common.{refl}
use Rattle.plain_ways.proofs.Finishes.{ann_cleared}
use Rattle.lane_steps.specs.declared.point.Hold.TheVariants.{Free}
use Rattle.lane_course.proofs.Ways.{here, same_hold}
use Rattle.plain_ways.proofs.end_way.let_ann_go.Goals as goal

pub scan-requires : goal.scan-requires
scan-requires c = record { led = (c.args.token.now, ann_cleared _ _ c.store.ensures _ (here c.requires) (λ k. refl) (same_hold c.args.scratch.now Free)) }

pub returns-clause-next : goal.returns-clause-next
returns-clause-next c = c.scan.ensures.next c.args.token.now (ann_cleared _ _ c.store.ensures _ (here c.requires) (λ k. refl) (same_hold c.args.scratch.now Free))
