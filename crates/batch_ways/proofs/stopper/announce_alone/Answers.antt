use Rattle.std.proofs.Common.{Some}
use Rattle.lane_steps.specs.declared.point.ManyPoint.TheVariants.{LoadHead}
use Rattle.lane_steps.specs.declared.point.Point.TheVariants.{Many}
use Rattle.lane_course.specs.declared.next.Next.TheVariants.{Goes}
use Rattle.plain_ways.proofs.Puts.{then_along}
use Rattle.batch_ways.proofs.Stoppers.{has_installed, has_not}
use Rattle.lane_course.proofs.Ways.{next, then_next}
use Rattle.batch_ways.proofs.stopper.announce_alone.Goals as goal

pub help_found-requires : goal.help_found-requires
help_found-requires c = (has_installed c.args.draft.now c.install.ensures c.own_help.result c.own_help.ensures c.if-install.true).0

pub returns-then-install-clause-next : goal.returns-then-install-clause-next
returns-then-install-clause-next c = next (then_along c.write_rows.ensures c.write_order.ensures) _ _ c.help_found.result (then_next (has_installed c.args.draft.now c.install.ensures c.own_help.result c.own_help.ensures c.if-install.true) _ _ c.help_found.result c.help_found.ensures.next)

pub returns-else-install-clause-next : goal.returns-else-install-clause-next
returns-else-install-clause-next c = next (then_along c.write_rows.ensures c.write_order.ensures) c.args.scratch.now c.install.new.token (Goes (Many (record { ann = Some c.args.draft.now.ann; notice = c.args.draft.now.notice }) LoadHead)) (has_not c.args.draft.now c.install.ensures c.if-install.false)
