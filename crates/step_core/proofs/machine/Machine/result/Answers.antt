use Rattle.std.proofs.Common.{◌≡◌, ◌<◌, length, Some, ap, ◌∙◌, subst, arith}
use Rattle.lane_steps.specs.declared.point.CallEnd.TheVariants.{Full}
use Rattle.lane_steps.specs.declared.point.Point.TheVariants.{Idle}
use Rattle.lane_steps.specs.State.{Caller}
use Rattle.step_core.specs.Machine.{View, caller_at, enqueues_at}
use Rattle.step_core.specs.Refused.{PassedRoom}
use Rattle.step_core.proofs.Callers.{caller_is}
use Rattle.step_core.proofs.machine.Machine.result.Goals as goal

pub returns-clause-full_passed_the_room : goal.returns-clause-full_passed_the_room
returns-clause-full_passed_the_room c = λ idle full. let who = c.args.caller in let ks = c.self.inside.lists.calls.items in let call = c.index.result.now in
    let below : who < length ks = let many = c.self.invariant.calls in let same = ap (λ (v : View). v.shape.callers) c.self.view_is in let known = c.requires in omega arith in
    let kept = subst (λ (v : View). (caller_at v who).outcome ≡ call.outcome) c.self.view_is (ap (λ (k : Caller). k.outcome) (caller_is ks who call below c.index.ensures)) in
    subst (λ (v : View). (caller_at v who).point ≡ Idle → (caller_at v who).outcome ≡ Some Full → PassedRoom v.shape.room v.history who (caller_at v who).started_at (caller_at v who).ended_at (enqueues_at v who)) c.self.view_is
    (c.self.invariant.why who).passed idle (kept ∙ full)
