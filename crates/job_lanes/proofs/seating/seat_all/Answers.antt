use Rattle.std.proofs.Common.{rules, ◌≡◌, [], ◌∷◌, length, ap, ◌∙◌, arith, length-append}
use Rattle.bq_model.specs.declared.shape.Shape.{Shape}
use Rattle.bq_model.specs.Grows.{the_caller}
use Rattle.job_lanes.proofs.Dealing.{fresh_rests, same_seat, Dealt-start, Dealt-next, Dealt-length, Dealt-end, numbered_last, all_before_last}
use Rattle.job_lanes.proofs.seating.seat_all.Goals as goal

pub loop-pass-init : goal.loop-pass-init
loop-pass-init g c = record {
  fewer = omega (arith, c.requires.one_each);
  callers = c.requires.callers;
  of_this_lane = c.requires.of_this_lane;
  of_this_shape = c.requires.of_this_shape;
  nothing_seen = c.requires.nothing_seen;
  dealt = Dealt-start _ c.args.desks.now.items c.requires.one_each;
}

pub new-requires-clause-one_caller : goal.new-requires-clause-one_caller
new-requires-clause-one_caller g c κs within =
    ap length (numbered_last g.L.Lane.callers (λ n. n ∷ []) c.loop-pass.passes.items c.pop.new.self.items c.in-Some.pass c.in-Some.ensures.items c.loop-pass.invariant.callers).1

pub new-requires-clause-batch : goal.new-requires-clause-batch
new-requires-clause-batch g c κs within =
    let shape = (all_before_last (λ pass. g.L.Lane.pass_shape pass ≡ g.L.Lane.lane_shape c.args.lane.now) c.loop-pass.passes.items c.pop.new.self.items c.in-Some.pass c.in-Some.ensures.items c.loop-pass.invariant.of_this_shape).1 in
    let batch : (g.L.Lane.pass_shape c.in-Some.pass).batch ≡ 256 = ap (λ (s : Shape). s.batch) shape ∙ c.requires.batch in
    (omega arith, omega (arith, batch))

pub index_mut-desk-requires : goal.index_mut-desk-requires
index_mut-desk-requires g c =
    let count = Dealt-length _ _ _ c.loop-pass.invariant.dealt in
    let more = ap length c.in-Some.ensures.items ∙ length-append c.pop.new.self.items (c.in-Some.pass ∷ []) in
    omega (arith, count, more, c.len.ensures, c.loop-pass.invariant.fewer, c.loop-pass.desks.ok, c.pop.new.self.ok)

pub loop-pass-preserved : goal.loop-pass-preserved
loop-pass-preserved g c =
    let lane = g.L.Lane in
    let pass = c.in-Some.pass in
    let left = c.pop.new.self.items in
    let session = c.in_ok-session.session in
    let more = ap length c.in-Some.ensures.items ∙ length-append left (pass ∷ []) in
    let count = Dealt-length _ _ _ c.loop-pass.invariant.dealt in
    let callers = numbered_last lane.callers (λ n. n ∷ []) c.loop-pass.passes.items left pass c.in-Some.ensures.items c.loop-pass.invariant.callers in
    let of_lane = all_before_last (λ p. lane.pass_identity p ≡ lane.identity c.args.lane.now) c.loop-pass.passes.items left pass c.in-Some.ensures.items c.loop-pass.invariant.of_this_lane in
    let shape = all_before_last (λ p. lane.pass_shape p ≡ lane.lane_shape c.args.lane.now) c.loop-pass.passes.items left pass c.in-Some.ensures.items c.loop-pass.invariant.of_this_shape in
    let seen = all_before_last (λ p. lane.seen p ≡ []) c.loop-pass.passes.items left pass c.in-Some.ensures.items c.loop-pass.invariant.nothing_seen in
    record {
      fewer = omega (arith, more, c.loop-pass.invariant.fewer);
      callers = callers.0;
      of_this_lane = of_lane.0;
      of_this_shape = shape.0;
      nothing_seen = seen.0;
      dealt = Dealt-next _ (length left) _ c.loop-pass.desks.items _ c.index_mut-desk.result.now (record { sessions = c.push.new.self }) (omega (arith, more)) (omega (arith, more, count, c.loop-pass.invariant.fewer)) (search rules) c.loop-pass.invariant.dealt (record {
        last = session;
        holds = (
          same_seat (ap lane.pass_identity c.in_ok-session.ensures.pass ∙ of_lane.1) (ap lane.pass_shape c.in_ok-session.ensures.pass ∙ shape.1) (ap lane.callers c.in_ok-session.ensures.pass ∙ callers.1),
          ap lane.seen c.in_ok-session.ensures.pass ∙ seen.1,
          fresh_rests c.args.number (length left) session (ap the_caller callers.1) c.in_ok-session.ensures.nothing_pending c.in_ok-session.ensures.no_future,
        );
        stands = search rules;
      });
    }

pub returns : goal.returns
returns g c = record { seated = Dealt-end _ _ _ (omega (arith, c.in_default.ensures.cases, c.loop-pass.passes.ok)) c.loop-pass.invariant.dealt }
