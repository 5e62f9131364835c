use Rattle.std.proofs.Common.{true, false, refl, sym, ◌∙◌}
use Rattle.lane_steps.specs.declared.point.HelpPoint.TheVariants.{LoadTail}
use Rattle.lane_steps.specs.declared.point.Point.TheVariants.{Help}
use Rattle.help_ways.proofs.Helps.{sees_link, finds_chain}
use Rattle.help_ways.proofs.Single.{stands_own, acts_own, steps, then_on}
use Rattle.help_ways.proofs.help_tail.link_chain.Goals as goal

pub load-requires-clause-at : goal.load-requires-clause-at
load-requires-clause-at c = stands_own c.requires

pub load-requires-clause-load : goal.load-requires-clause-load
load-requires-clause-load c = acts_own c.requires _ refl

pub exchange-requires-clause-at : goal.exchange-requires-clause-at
exchange-requires-clause-at c = stands_own (sees_link c.requires c.load.ensures (sym c.link_in.ensures ∙ c.in-Nil.is)).0

pub exchange-requires-clause-exchange : goal.exchange-requires-clause-exchange
exchange-requires-clause-exchange c = acts_own (sees_link c.requires c.load.ensures (sym c.link_in.ensures ∙ c.in-Nil.is)).0 _ refl

pub returns-in-Nil : goal.returns-in-Nil
returns-in-Nil c = let seen = sees_link c.requires c.load.ensures (sym c.link_in.ensures ∙ c.in-Nil.is) in then_on seen (steps seen.0 c.exchange.ensures (Help c.args.help.now LoadTail) refl)

pub record_tail-requires : goal.record_tail-requires
record_tail-requires c = (finds_chain c.requires c.load.ensures (sym c.link_in.ensures ∙ c.in-Chain.is) true (sym c.begins_with.ensures ∙ c.if-begins_with.true)).0

pub returns-then-begins_with : goal.returns-then-begins_with
returns-then-begins_with c = then_on (finds_chain c.requires c.load.ensures (sym c.link_in.ensures ∙ c.in-Chain.is) true (sym c.begins_with.ensures ∙ c.if-begins_with.true)) c.record_tail.ensures

pub returns-else-begins_with : goal.returns-else-begins_with
returns-else-begins_with c = finds_chain c.requires c.load.ensures (sym c.link_in.ensures ∙ c.in-Chain.is) false (sym c.begins_with.ensures ∙ c.if-begins_with.false)

pub returns-in-Single : goal.returns-in-Single
returns-in-Single c = sees_link c.requires c.load.ensures (sym c.link_in.ensures ∙ c.in-Single.is)

pub returns-in-Shut : goal.returns-in-Shut
returns-in-Shut c = sees_link c.requires c.load.ensures (sym c.link_in.ensures ∙ c.in-Shut.is)
