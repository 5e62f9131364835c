use Rattle.lane_course.specs.declared.next.Next.TheVariants.{Ends}
use Rattle.plain_ways.proofs.Finishes.{ann_free, ann_names, ann_held}
use Rattle.lane_course.proofs.Ways.{then_next}
use Rattle.plain_ways.proofs.end_way.clear_ann.Goals as goal

pub scan-requires : goal.scan-requires
scan-requires c = record { led = (c.requires.led.0, ann_free c.requires.led.1 c.in-Free.is) }

pub let_ann_go-requires : goal.let_ann_go-requires
let_ann_go-requires c = (ann_names c.requires.led.1 c.in-Names.field-0 c.in-Names.is).0

pub let_ann_go-requires-in-Held : goal.let_ann_go-requires-in-Held
let_ann_go-requires-in-Held c = (ann_held c.requires.led.1 c.in-Held.field-0 c.in-Held.is).0

pub returns-in-Free-clause-next : goal.returns-in-Free-clause-next
returns-in-Free-clause-next c = λ p led. c.scan.ensures.next p (ann_free led c.in-Free.is)

pub returns-in-Names-clause-next : goal.returns-in-Names-clause-next
returns-in-Names-clause-next c = λ p led. then_next (ann_names led c.in-Names.field-0 c.in-Names.is) _ _ (Ends c.args.closing) c.let_ann_go.ensures.next

pub returns-in-Held-clause-next : goal.returns-in-Held-clause-next
returns-in-Held-clause-next c = λ p led. then_next (ann_held led c.in-Held.field-0 c.in-Held.is) _ _ (Ends c.args.closing) c.let_ann_go-in-Held.ensures.next
