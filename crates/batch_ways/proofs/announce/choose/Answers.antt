use Rattle.std.proofs.Common.{◌<◌, arith}
use Rattle.batch_ways.proofs.Announces.{stores_fields}
use Rattle.plain_ways.proofs.Puts.{then_along}
use Rattle.batch_ways.proofs.Stoppers.{stores_all}
use Rattle.lane_course.proofs.Ways.{next}
use Rattle.batch_ways.proofs.announce.choose.Goals as goal

pub announce_alone-requires-clause-runs : goal.announce_alone-requires-clause-runs
announce_alone-requires-clause-runs c = (stores_all (record { ann = c.listen_to_all-ann.result; notice = c.args.notice }) c.if-notice-eq0.true c.listen_to_all-ann.ensures.chosen).runs

pub returns-then-notice-eq0-clause-next : goal.returns-then-notice-eq0-clause-next
returns-then-notice-eq0-clause-next c = next (stores_all (record { ann = c.listen_to_all-ann.result; notice = c.args.notice }) c.if-notice-eq0.true c.listen_to_all-ann.ensures.chosen) c.announce_alone.new.scratch c.announce_alone.new.token c.announce_alone.result c.announce_alone.ensures.next

pub write_rows-requires : goal.write_rows-requires
write_rows-requires c = let some = c.if-notice-eq0.false in let puts : 0 < c.args.notice.counts.enqs = omega (arith, some) in
    (stores_fields (record { ann = c.listen_to_all-ann.result; notice = c.args.notice }) puts c.listen_to_all-ann.ensures.chosen).runs

pub install-requires-clause-puts : goal.install-requires-clause-puts
install-requires-clause-puts c = let some = c.if-notice-eq0.false in omega (arith, some)

pub returns-clause-next : goal.returns-clause-next
returns-clause-next c = let some = c.if-notice-eq0.false in let puts : 0 < c.args.notice.counts.enqs = omega (arith, some) in
    next (then_along (then_along (stores_fields (record { ann = c.listen_to_all-ann.result; notice = c.args.notice }) puts c.listen_to_all-ann.ensures.chosen) c.write_rows.ensures) c.write_order.ensures) c.install.new.scratch c.install.new.token c.install.result c.install.ensures.next
