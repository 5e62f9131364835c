use Rattle.std.proofs.Common.{rules, ◌≡◌, ◌<◌, ◌+◌, ℕ, true, false, sym, ap, subst, ◌∙◌, length, vec_len, List}
use Rattle.bq_model.specs.declared.op.Op.{Op}
use Rattle.bq_model.specs.declared.shape.Shape.{Shape}
use Rattle.bq_model.specs.History.{operations}
use Rattle.lane_steps.specs.Functions.{put}
use Rattle.lane_steps.specs.LaneSizes.{lane_sizes}
use Rattle.lane_steps.specs.State.{State}
use Rattle.lane_steps.specs.Start.{begun}
use Rattle.step_core.specs.Lists.{callers_of, state_of}
use Rattle.step_core.proofs.Callers.{begun_is}
use Rattle.step_core.proofs.lists.Lists.start.Goals as goal

-- what the caller keeps is as it was
pub begin-requires-clause-idle : goal.begin-requires-clause-idle
begin-requires-clause-idle c = ap (λ (s : State). (s.callers c.args.caller).point) c.reserve.ensures.same ∙ c.requires.idle

pub begin-requires-clause-left : goal.begin-requires-clause-left
begin-requires-clause-left c = λ passes. let same = c.reserve.ensures.same in let len = ap length c.in_ok-own.ensures in
    let was = subst (λ (n : ℕ). n < length (operations ((state_of c.args.self.now).callers c.args.caller).mine) + length c.args.ops.now) (ap (λ (z : Shape). z.allowance) c.reserve.ensures.shape)
    (subst (λ (n : ℕ). c.reserve.new.self.shape.allowance < length (operations ((state_of c.args.self.now).callers c.args.caller).mine) + n) len
    (subst (λ (s : State). c.reserve.new.self.shape.allowance < length (operations (s.callers c.args.caller).mine) + length c.in_ok-own.own) same passes)) in differ (sym (c.is_spent.ensures.1 was) ∙ c.if-is_spent.false) where
      differ : true ≡ false → ⊥
      differ e = cc e

pub returns-clause-running : goal.returns-clause-running
returns-clause-running c = λ _. begun_is c.args.self.now c.reserve.new.self c.begin.new.self c.args.caller _ c.args.ops.now c.reserve.ensures.same c.reserve.ensures.shape (search rules) c.begin.ensures.memory c.begin.ensures.history_stays
    (c.begin.ensures.callers ∙ ap (λ (ops : List Op). put (callers_of c.reserve.new.self.calls.items) c.args.caller (begun (lane_sizes c.reserve.new.self.shape) (vec_len c.reserve.new.self.history) c.args.caller (callers_of c.reserve.new.self.calls.items c.args.caller) ops)) c.in_ok-own.ensures)
