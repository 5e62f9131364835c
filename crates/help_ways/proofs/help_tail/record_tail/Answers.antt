use Rattle.std.proofs.Common.{refl, ap, sym, ◌∙◌}
use Rattle.lane_steps.specs.declared.course.Course.TheVariants.{GoesOn}
use Rattle.lane_steps.specs.declared.point.HelpPoint.{HelpPoint}
use Rattle.lane_steps.specs.declared.point.Point.TheVariants.{Help}
use Rattle.lane_steps.specs.Help.{after_record}
use Rattle.help_ways.proofs.Single.{stands_own, acts_own, steps}
use Rattle.help_ways.proofs.help_tail.record_tail.Goals as goal

pub exchange-found-requires-clause-at : goal.exchange-found-requires-clause-at
exchange-found-requires-clause-at c = stands_own c.requires

pub exchange-found-requires-clause-exchange : goal.exchange-found-requires-clause-exchange
exchange-found-requires-clause-exchange c = acts_own c.requires _ refl

pub returns-in-None : goal.returns-in-None
returns-in-None c = steps c.requires c.exchange-found.ensures _ (ap (λ (u : HelpPoint). GoesOn (Help c.args.help.now u)) (ap (after_record c.args.help.now c.args.tail) (sym c.old_tail_in.ensures ∙ c.in-None.is) ∙ sym c.at_old_tail.ensures))

pub returns-in-Some : goal.returns-in-Some
returns-in-Some c = steps c.requires c.exchange-found.ensures _ (ap (λ (u : HelpPoint). GoesOn (Help c.args.help.now u)) (ap (after_record c.args.help.now c.args.tail) (sym c.old_tail_in.ensures ∙ c.in-Some.is) ∙ sym c.at_old_tail-in-Some.ensures))
