use Rattle.std.proofs.Common.{Bool, cond, refl, ap, sym, ◌∙◌}
use Rattle.lane_steps.specs.declared.course.Course.TheVariants.{GoesOn}
use Rattle.lane_steps.specs.declared.point.HelpPoint.{HelpPoint}
use Rattle.lane_steps.specs.declared.point.HelpPoint.TheVariants.{Decide, LoadLink}
use Rattle.lane_steps.specs.declared.point.Point.TheVariants.{Help}
use Rattle.lane_steps.specs.Help.{after_old_tail}
use Rattle.help_ways.proofs.Single.{stands_own, acts_own, steps, then_on}
use Rattle.help_ways.proofs.help_tail.see_tail.Goals as goal

pub load-requires-clause-at : goal.load-requires-clause-at
load-requires-clause-at c = stands_own c.requires

pub load-requires-clause-load : goal.load-requires-clause-load
load-requires-clause-load c = acts_own c.requires _ refl

pub returns-in-Some : goal.returns-in-Some
returns-in-Some c = steps c.requires c.load.ensures _ (ap (λ (u : HelpPoint). GoesOn (Help c.args.help.now u)) (ap (after_old_tail c.args.help.now c.args.tail) (sym c.old_tail_in.ensures ∙ c.in-Some.is) ∙ sym c.at_old_tail.ensures))

pub returns-then-has_enough : goal.returns-then-has_enough
returns-then-has_enough c = steps c.requires c.load.ensures _ (ap (λ (u : HelpPoint). GoesOn (Help c.args.help.now u))
    (ap (after_old_tail c.args.help.now c.args.tail) (sym c.old_tail_in.ensures ∙ c.in-None.is) ∙ ap (λ (b : Bool). cond b (Decide c.args.tail) (LoadLink c.args.tail)) (sym c.has_enough.ensures ∙ c.if-has_enough.true)))

pub link_chain-requires : goal.link_chain-requires
link_chain-requires c = (steps c.requires c.load.ensures (Help c.args.help.now (LoadLink c.args.tail)) (ap (λ (u : HelpPoint). GoesOn (Help c.args.help.now u))
    (ap (after_old_tail c.args.help.now c.args.tail) (sym c.old_tail_in.ensures ∙ c.in-None.is) ∙ ap (λ (b : Bool). cond b (Decide c.args.tail) (LoadLink c.args.tail)) (sym c.has_enough.ensures ∙ c.if-has_enough.false)))).0

pub returns-else-has_enough : goal.returns-else-has_enough
returns-else-has_enough c = then_on (steps c.requires c.load.ensures (Help c.args.help.now (LoadLink c.args.tail)) (ap (λ (u : HelpPoint). GoesOn (Help c.args.help.now u))
    (ap (after_old_tail c.args.help.now c.args.tail) (sym c.old_tail_in.ensures ∙ c.in-None.is) ∙ ap (λ (b : Bool). cond b (Decide c.args.tail) (LoadLink c.args.tail)) (sym c.has_enough.ensures ∙ c.if-has_enough.false)))) c.link_chain.ensures
