use Rattle.std.proofs.Common.{ℕ, ◌+◌, ◌<◌, ◌^◌, subst, refl, ap, sym, ◌∙◌}
use Rattle.word_rows.specs.declared.content.Content.TheVariants.{OfTail}
use Rattle.word_rows.specs.declared.location.Location.TheVariants.{Tail}
use Rattle.word_rows.specs.declared.place.Place.{Place}
use Rattle.lane_steps.specs.declared.act.Act.TheVariants.{Exchange}
use Rattle.lane_steps.specs.Act.{far_behind, same_place}
use Rattle.lane_steps.specs.Stopper.{linked_rows}
use Rattle.help_ways.proofs.Helps.{tail_is_over, tail_is_there, moves_over}
use Rattle.help_ways.proofs.Single.{stands_own, acts_own, then_on}
use Rattle.help_ways.proofs.help_tail.move_tail_over.Goals as goal

pub load-requires-clause-at : goal.load-requires-clause-at
load-requires-clause-at c = stands_own c.requires

pub load-requires-clause-load : goal.load-requires-clause-load
load-requires-clause-load c = acts_own c.requires _ refl

pub exchange-requires-clause-at : goal.exchange-requires-clause-at
exchange-requires-clause-at c = stands_own (tail_is_there c.requires c.load.ensures (ap (λ (p : Place). same_place p c.args.old_tail) (sym c.tail_in-tail.ensures) ∙ (sym c.is_place.ensures ∙ c.if-is_place.true))).0

pub far_behind-requires : goal.far_behind-requires
far_behind-requires c = let rows = c.linked_rows-rows.ensures ∙ ap (linked_rows c.args.help.now.counts) c.before_it.ensures in
    subst (λ (n : ℕ). c.args.old_tail.count + n < 2 ^ 44) (sym rows) (tail_is_there c.requires c.load.ensures (ap (λ (p : Place). same_place p c.args.old_tail) (sym c.tail_in-tail.ensures) ∙ (sym c.is_place.ensures ∙ c.if-is_place.true))).0.stands.ready.counts

pub exchange-requires-clause-exchange : goal.exchange-requires-clause-exchange
exchange-requires-clause-exchange c = let rows = c.linked_rows-rows.ensures ∙ ap (linked_rows c.args.help.now.counts) c.before_it.ensures in
    acts_own (tail_is_there c.requires c.load.ensures (ap (λ (p : Place). same_place p c.args.old_tail) (sym c.tail_in-tail.ensures) ∙ (sym c.is_place.ensures ∙ c.if-is_place.true))).0 _
    (ap (λ (n : ℕ). Exchange Tail (OfTail c.args.old_tail) (OfTail (far_behind c.args.old_tail c.args.help.now.last n))) (sym rows) ∙ ap (λ (p : Place). Exchange Tail (OfTail c.args.old_tail) (OfTail p)) (sym c.far_behind.ensures))

pub returns-then-is_place : goal.returns-then-is_place
returns-then-is_place c = let there = tail_is_there c.requires c.load.ensures (ap (λ (p : Place). same_place p c.args.old_tail) (sym c.tail_in-tail.ensures) ∙ (sym c.is_place.ensures ∙ c.if-is_place.true)) in
    then_on there (moves_over there.0 c.exchange.ensures c.walk.result c.walk.ensures)

pub returns-else-is_place : goal.returns-else-is_place
returns-else-is_place c = tail_is_over c.requires c.load.ensures c.walk-else-is_place.result c.walk-else-is_place.ensures (ap (λ (p : Place). same_place p c.args.old_tail) (sym c.tail_in-tail.ensures) ∙ (sym c.is_place.ensures ∙ c.if-is_place.false))
