use Rattle.std.proofs.Common.{refl}
use Rattle.plain_ways.proofs.Finishes.{node_cleared}
use Rattle.lane_steps.specs.declared.point.Hold.TheVariants.{Free}
use Rattle.lane_course.proofs.Ways.{here, same_row_hold}
use Rattle.plain_ways.proofs.end_way.let_node_go.Goals as goal

pub clear_ann-requires : goal.clear_ann-requires
clear_ann-requires c = record { led = (c.args.token.now, node_cleared _ _ c.store.ensures _ (here c.requires) (λ k. refl) (same_row_hold c.args.scratch.now Free)) }

pub returns-clause-next : goal.returns-clause-next
returns-clause-next c = c.clear_ann.ensures.next c.args.token.now (node_cleared _ _ c.store.ensures _ (here c.requires) (λ k. refl) (same_row_hold c.args.scratch.now Free))
