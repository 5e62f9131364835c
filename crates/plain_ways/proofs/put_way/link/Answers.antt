use Rattle.std.proofs.Common.{sym, ◌∙◌, subst, arith, Bool, cond}
use Rattle.lane_course.specs.Along.{Along}
use Rattle.lane_steps.specs.declared.point.EnqueuePoint.TheVariants.{LoadTail, MoveTail}
use Rattle.lane_steps.specs.declared.point.Point.TheVariants.{Enqueue}
use Rattle.lane_course.specs.declared.next.Next.TheVariants.{Ends}
use Rattle.plain_ways.proofs.Puts.{leaves, link_loaded, link_less, then_along}
use Rattle.lane_course.proofs.Seeks.{same_puts}
use Rattle.lane_course.proofs.Ways.{acts, here, is_told, next, same_then, stands_at}
use Rattle.plain_ways.proofs.put_way.link.Goals as goal

pub tries-init : goal.tries-init
tries-init c = record { along = here c.requires; same = same_puts c.args.scratch.now }

pub load-found-requires : goal.load-found-requires
load-found-requires c = let w = c.hold_tail-tail.ensures.held in record { at = stands_at w.runs; load = acts w.runs }

pub link_single-requires : goal.link_single-requires
link_single-requires c = (link_loaded {x = c.args.item} _ _ c.load-found.ensures c.hold_tail-tail.result _ (sym c.link_in.ensures ∙ c.in-Nil.is) c.hold_tail-tail.ensures.held).runs

pub move_tail-requires : goal.move_tail-requires
move_tail-requires c = (subst (λ (b : Bool). Along c.args.words.now.table_id c.args.words.now.key c.args.shape.now c.args.caller (Enqueue c.args.item (cond b (MoveTail c.hold_tail-tail.result c.args.item.row) LoadTail)) c.hold_tail-tail.new.scratch c.load-found.new.token c.link_single.new.token) c.if-link_single.true c.link_single.ensures).runs

pub returns-then-link_single-clause-next : goal.returns-then-link_single-clause-next
returns-then-link_single-clause-next c = let i = c.tries.invariant.along in let w = link_loaded {x = c.args.item} _ _ c.load-found.ensures c.hold_tail-tail.result _ (sym c.link_in.ensures ∙ c.in-Nil.is) (then_along i c.hold_tail-tail.ensures.held) in
    next (then_along w (subst (λ (b : Bool). Along c.args.words.now.table_id c.args.words.now.key c.args.shape.now c.args.caller (Enqueue c.args.item (cond b (MoveTail c.hold_tail-tail.result c.args.item.row) LoadTail)) c.hold_tail-tail.new.scratch c.load-found.new.token c.link_single.new.token) c.if-link_single.true c.link_single.ensures)) c.move_tail.new.scratch c.move_tail.new.token (Ends c.move_tail.result) c.move_tail.ensures.next

pub tries-preserved : goal.tries-preserved
tries-preserved c = let i = c.tries.invariant in let w = link_loaded {x = c.args.item} _ _ c.load-found.ensures c.hold_tail-tail.result _ (sym c.link_in.ensures ∙ c.in-Nil.is) (then_along i.along c.hold_tail-tail.ensures.held) in record {
  along = then_along w (subst (λ (b : Bool). Along c.args.words.now.table_id c.args.words.now.key c.args.shape.now c.args.caller (Enqueue c.args.item (cond b (MoveTail c.hold_tail-tail.result c.args.item.row) LoadTail)) c.hold_tail-tail.new.scratch c.load-found.new.token c.link_single.new.token) c.if-link_single.false c.link_single.ensures);
  same = same_then i.same c.hold_tail-tail.ensures.same;
}

pub tries-smaller : goal.tries-smaller
tries-smaller c = let first = c.hold_tail-tail.ensures.held.most in let second = link_less {x = c.args.item} _ _ c.load-found.ensures c.hold_tail-tail.result _ (sym c.link_in.ensures ∙ c.in-Nil.is) c.hold_tail-tail.ensures.held in let third = c.link_single.ensures.most in omega (arith, first, second, third)

pub returns-in-Single-clause-next : goal.returns-in-Single-clause-next
returns-in-Single-clause-next c = is_told _ _ _ _ _ _ _ _ _ c.enqueue_at.ensures (leaves {x = c.args.item} _ _ c.load-found.ensures c.hold_tail-tail.result _ (sym c.link_in.ensures ∙ c.in-Single.is) (then_along c.tries.invariant.along c.hold_tail-tail.ensures.held))

pub returns-in-Chain-clause-next : goal.returns-in-Chain-clause-next
returns-in-Chain-clause-next c = is_told _ _ _ _ _ _ _ _ _ c.enqueue_at-in-Chain.ensures (leaves {x = c.args.item} _ _ c.load-found.ensures c.hold_tail-tail.result _ (sym c.link_in.ensures ∙ c.in-Chain.is) (then_along c.tries.invariant.along c.hold_tail-tail.ensures.held))

pub returns-in-Shut-clause-next : goal.returns-in-Shut-clause-next
returns-in-Shut-clause-next c = is_told _ _ _ _ _ _ _ _ _ c.enqueue_at-in-Shut.ensures (leaves {x = c.args.item} _ _ c.load-found.ensures c.hold_tail-tail.result _ (sym c.link_in.ensures ∙ c.in-Shut.is) (then_along c.tries.invariant.along c.hold_tail-tail.ensures.held))
