use Rattle.lane_course.specs.declared.next.Next.TheVariants.{Ends}
use Rattle.plain_ways.proofs.Finishes.{node_free, node_names, node_held}
use Rattle.lane_course.proofs.Ways.{then_next}
use Rattle.plain_ways.proofs.end_way.clear_node.Goals as goal

pub clear_ann-requires : goal.clear_ann-requires
clear_ann-requires c = record { led = (c.requires.led.0, node_free c.requires.led.1 c.in-Free.is) }

pub let_node_go-requires : goal.let_node_go-requires
let_node_go-requires c = (node_names c.requires.led.1 c.in-Names.field-0 c.in-Names.is).0

pub let_node_go-requires-in-Held : goal.let_node_go-requires-in-Held
let_node_go-requires-in-Held c = (node_held c.requires.led.1 c.in-Held.field-0 c.in-Held.is).0

pub returns-in-Free-clause-next : goal.returns-in-Free-clause-next
returns-in-Free-clause-next c = λ p led. c.clear_ann.ensures.next p (node_free led c.in-Free.is)

pub returns-in-Names-clause-next : goal.returns-in-Names-clause-next
returns-in-Names-clause-next c = λ p led. then_next (node_names led c.in-Names.field-0 c.in-Names.is) _ _ (Ends c.args.closing) c.let_node_go.ensures.next

pub returns-in-Held-clause-next : goal.returns-in-Held-clause-next
returns-in-Held-clause-next c = λ p led. then_next (node_held led c.in-Held.field-0 c.in-Held.is) _ _ (Ends c.args.closing) c.let_node_go-in-Held.ensures.next
