use Rattle.std.proofs.Common.{sym, ◌∙◌}
use Rattle.std.specs.List.{range_with_len}
use Rattle.bq_lane.specs.Pass.{PassState}
use Rattle.bq_c.proofs.Lasts.{of_one, as_many_passes}
use Rattle.bq_c.proofs.seating.seat_all.Goals as goal

pub seats_of-requires-clause-one_caller : goal.seats_of-requires-clause-one_caller
seats_of-requires-clause-one_caller c = of_one (λ (p : PassState). p.callers) c.in_ok-made.made.1.items (range_with_len 0 c.args.shape.now.callers) c.in_ok-made.ensures.one_pass_each

pub put_all-requires-clause-one_each : goal.put_all-requires-clause-one_each
put_all-requires-clause-one_each c = c.in_ok-seats.ensures.one_each ∙ (as_many_passes (λ (p : PassState). p.callers) c.in_ok-made.made.1.items c.args.shape.now.callers c.in_ok-made.ensures.one_pass_each ∙ sym c.requires.one_each)

pub returns-clause-one_lane : goal.returns-clause-one_lane
returns-clause-one_lane c = record {
  lane = c.in_ok-lane.lane.value;
  each = c.put_all.ensures.of_this_lane;
}

pub returns-clause-one_caller_each : goal.returns-clause-one_caller_each
returns-clause-one_caller_each c = c.put_all.ensures.callers ∙ (c.in_ok-seats.ensures.callers ∙ c.in_ok-made.ensures.one_pass_each)
