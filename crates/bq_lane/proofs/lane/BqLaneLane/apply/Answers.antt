use Rattle.std.proofs.Common.{◌<◌, List, length, IsErrOf, subst}
use Rattle.bq_model.specs.declared.error.Refusal.TheVariants.{Full}
use Rattle.bq_model.specs.declared.op.Op.{Op}
use Rattle.bq_model.specs.Grows.{the_caller, AtSomePoint}
use Rattle.bq_lane.specs.Pass.{PassState}
use Rattle.bq_model.specs.Rooms.{PassesRoom}
use Rattle.bq_model.specs.Values.{enqueued}
use Rattle.bq_lane.proofs.lane.BqLaneLane.apply.Goals as goal

pub returns-clause-full : goal.returns-clause-full
returns-clause-full c = subst (λ (ops : List Op). IsErrOf c.make_ops.result Full → (0 < length (enqueued ops)) × AtSomePoint (λ point. PassesRoom c.args.self.now.shape point (the_caller c.args.pass.now.callers) ops) c.args.pass.now.seen c.make_ops.new.seated.seen) c.as_slice.ensures.items
    (subst (λ (s : PassState). IsErrOf c.make_ops.result Full → (0 < length (enqueued c.as_slice.result.now)) × AtSomePoint (λ point. PassesRoom c.args.self.now.shape point (the_caller s.callers) c.as_slice.result.now) s.seen c.make_ops.new.seated.seen) c.pass.view_is c.make_ops.ensures.full)
