use Rattle.std.proofs.Common.{sym, refl}
use Rattle.lane_steps.specs.declared.point.Hold.TheVariants.{Names, Held}
use Rattle.lane_course.specs.Next.{told}
use Rattle.plain_ways.proofs.Dequeues.{names_dummy, holds_dummy, lost_dummy}
use Rattle.lane_course.proofs.Ways.{here, is_told, next, same_row_hold, stands_at, acts}
use Rattle.plain_ways.proofs.dequeue.hold_dummy.Goals as goal

pub load-again-requires-clause-at : goal.load-again-requires-clause-at
load-again-requires-clause-at c = stands_at (names_dummy _ _ c.store.ensures c.args.dummy (here c.requires) _ (λ k. refl) (same_row_hold c.args.scratch.now (Names c.args.dummy.row))).runs

pub load-again-requires-clause-load : goal.load-again-requires-clause-load
load-again-requires-clause-load c = acts (names_dummy _ _ c.store.ensures c.args.dummy (here c.requires) _ (λ k. refl) (same_row_hold c.args.scratch.now (Names c.args.dummy.row))).runs

pub look_behind-requires : goal.look_behind-requires
look_behind-requires c = (holds_dummy _ _ c.load-again.ensures c.args.dummy (names_dummy _ _ c.store.ensures c.args.dummy (here c.requires) _ (λ k. refl) (same_row_hold c.args.scratch.now (Names c.args.dummy.row))) (sym c.if-names.ensures) _ (λ k. refl) (same_row_hold _ (Held c.args.dummy.row))).runs

pub returns-then-names-clause-next : goal.returns-then-names-clause-next
returns-then-names-clause-next c = next (holds_dummy _ _ c.load-again.ensures c.args.dummy (names_dummy _ _ c.store.ensures c.args.dummy (here c.requires) _ (λ k. refl) (same_row_hold c.args.scratch.now (Names c.args.dummy.row))) (sym c.if-names.ensures) _ (λ k. refl) (same_row_hold _ (Held c.args.dummy.row))) _ _ (told c.look_behind.result c.look_behind.new.goes) c.look_behind.ensures.next

pub returns-else-names-clause-next : goal.returns-else-names-clause-next
returns-else-names-clause-next c = is_told _ _ _ _ _ _ _ _ _ c.dequeue_at.ensures (lost_dummy _ _ c.load-again.ensures c.args.dummy (names_dummy _ _ c.store.ensures c.args.dummy (here c.requires) _ (λ k. refl) (same_row_hold c.args.scratch.now (Names c.args.dummy.row))) (sym c.if-names.ensures))
