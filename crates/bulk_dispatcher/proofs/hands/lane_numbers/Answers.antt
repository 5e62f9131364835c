use Rattle.std.proofs.Common.{sym, ◌∙◌, arith}
use Rattle.bulk_dispatcher.proofs.Lanes.{lanes_below_none, lanes_below_more, lanes_below_all}
use Rattle.bulk_dispatcher.proofs.hands.lane_numbers.Goals as goal

pub loop-lane-init : goal.loop-lane-init
loop-lane-init c = c.new-numbers.ensures.items ∙ sym (lanes_below_none c.args.jobs.now)

pub loop-lane-preserved : goal.loop-lane-preserved
loop-lane-preserved c = lanes_below_more c.args.jobs.now c.loop-lane.lane c.loop-lane.numbers.items c.push_if.new.numbers.items c.occurs-wanted.result c.loop-lane.invariant c.occurs-wanted.ensures c.in_ok-push_if.ensures

pub returns : goal.returns
returns c = c.loop-lane.invariant ∙ lanes_below_all c.args.jobs.now c.loop-lane.lane (omega (arith, c.loop-lane-test.false, c.loop-lane.auto))
