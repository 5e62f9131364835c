use Rattle.std.proofs.Common.{ℕ, Bool, cond, ap, sym, ◌∙◌}
use Rattle.word_rows.specs.declared.content.Content.TheVariants.{OfHead}
use Rattle.word_rows.specs.declared.head_word.HeadWord.TheVariants.{Node}
use Rattle.word_rows.specs.declared.location.Location.TheVariants.{Head}
use Rattle.word_rows.specs.declared.place.Place.{Place}
use Rattle.lane_steps.specs.declared.act.Act.TheVariants.{Exchange}
use Rattle.lane_steps.specs.declared.course.Course.TheVariants.{GoesOn, Moves}
use Rattle.lane_steps.specs.declared.point.ManyPoint.TheVariants.{LoadHead}
use Rattle.lane_steps.specs.declared.point.Point.TheVariants.{Many}
use Rattle.help_ways.proofs.Single.{stands_own, acts_own, moves, leads, room_then}
use Rattle.help_ways.proofs.many_way.move_head.Goals as goal

pub far_behind-requires : goal.far_behind-requires
far_behind-requires c = c.requires.stands.ready.counts

pub exchange-found-requires-clause-at : goal.exchange-found-requires-clause-at
exchange-found-requires-clause-at c = stands_own c.requires

pub exchange-found-requires-clause-exchange : goal.exchange-found-requires-clause-exchange
exchange-found-requires-clause-exchange c = acts_own c.requires _ (ap (λ (p : Place). Exchange Head (OfHead (Node c.args.plan.now.notice.old_head)) (OfHead (Node p))) (sym c.far_behind.ensures))

pub finish_rows-requires : goal.finish_rows-requires
finish_rows-requires c = let n = c.args.plan.now.notice in record {
  led = (
    c.args.token.now,
    moves c.requires c.exchange-found.ensures n.old_head c.from.result
        (ap (λ (b : Bool). cond b (Moves n.old_head n.counts.deqs) (GoesOn (Many c.args.plan.now LoadHead))) (sym c.is_dummy.ensures ∙ c.if-is_dummy.true) ∙ ap (λ (k : ℕ). Moves n.old_head k) (sym c.from.ensures)),
  );
}

pub returns-then-is_dummy-clause-next : goal.returns-then-is_dummy-clause-next
returns-then-is_dummy-clause-next c = let n = c.args.plan.now.notice in c.finish_rows.ensures.next c.args.token.now (moves c.requires c.exchange-found.ensures n.old_head c.from.result
    (ap (λ (b : Bool). cond b (Moves n.old_head n.counts.deqs) (GoesOn (Many c.args.plan.now LoadHead))) (sym c.is_dummy.ensures ∙ c.if-is_dummy.true) ∙ ap (λ (k : ℕ). Moves n.old_head k) (sym c.from.ensures)))

pub follow-requires-clause-room : goal.follow-requires-clause-room
follow-requires-clause-room c = room_then c.requires c.exchange-found.ensures

pub returns-else-is_dummy-clause-next : goal.returns-else-is_dummy-clause-next
returns-else-is_dummy-clause-next c = leads c.requires c.exchange-found.ensures c.follow.result c.follow.new.scratch c.follow.ensures.next c.follow.ensures.same
