use Rattle.std.proofs.Common.{◌≡◌, List, ◌∷◌, [], subst}
use Rattle.bq_model.specs.declared.op.Op.TheVariants.{Enq}
use Rattle.bq_model.specs.declared.op.Answer.TheVariants.{Done}
use Rattle.bq_model.specs.Grows.{the_caller, Grew}
use Rattle.std.specs.Result.{OnOk}
use Rattle.bq_lane.specs.Pass.{PassState}
use Rattle.bq_lane.proofs.Done.{enqueue_is_done, on_ok}
use Rattle.bq_lane.proofs.lane.BqLaneLane.enqueue.Goals as goal

pub returns-clause-ok : goal.returns-clause-ok
returns-clause-ok c = subst (λ (s : PassState). OnOk c.enqueue.result (Grew (the_caller s.callers) (Enq c.args.v ∷ []) (Done ∷ []) s.seen c.enqueue.new.seated.seen)) c.pass.view_is
    (on_ok c.enqueue.result (enqueue_is_done (the_caller c.pass.inside.seated.callers) c.args.v c.enqueue.new.out.items c.pass.inside.seated.seen c.enqueue.new.seated.seen c.enqueue.ensures.never_shut) c.enqueue.ensures.ok)
