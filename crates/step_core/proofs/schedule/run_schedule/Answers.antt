use Rattle.std.proofs.Common.{rules, ◌≡◌, ℕ, suc, ◌+◌, Err, drop, sym, ap, ◌∙◌, arith}
use Rattle.bq_model.specs.declared.shape.Shape.{Shape}
use Rattle.lane_steps.specs.State.{State}
use Rattle.step_core.specs.declared.schedule.EventCause.{EventCause}
use Rattle.step_core.specs.Machine.{state_at}
use Rattle.step_core.specs.Schedule.{cause_of, after_event, schedule}
use Rattle.step_core.proofs.Schedules.{goes_on, stops, nothing_left, same_refusal}
use Rattle.step_core.proofs.schedule.run_schedule.Goals as goal

pub loop-event-init : goal.loop-event-init
loop-event-init c = (c.in_ok-machine.ensures.shape, ap (λ (s : State). schedule c.args.shape.now s 0 c.args.events.now) (sym c.in_ok-machine.ensures.opening))

pub returns-in-Some-clause-first_cause : goal.returns-in-Some-clause-first_cause
returns-in-Some-clause-first_cause c = λ event cause e. let z = c.args.shape.now in let n = c.loop-event.event in let m = c.loop-event.machine in
    c.loop-event.invariant.1 ∙ (stops z (state_at m) c.args.events.now n c.index-events-event.result c.loop-event-test.true (search rules) c.in-Some.cause
    (ap (λ (w : Shape). cause_of w (state_at m) c.index-events-event.result) (sym c.loop-event.invariant.0) ∙ (sym c.cause.ensures ∙ c.in-Some.is))
    ∙ ap (λ (x : ℕ × EventCause). Err x) (same_refusal n event c.in-Some.cause cause e))

pub loop-event-preserved : goal.loop-event-preserved
loop-event-preserved c = let z = c.args.shape.now in let n = c.loop-event.event in let m = c.loop-event.machine in (
  c.happen.ensures.shape ∙ c.loop-event.invariant.0,
  c.loop-event.invariant.1 ∙ (goes_on z (state_at m) c.args.events.now n c.index-events-event.result c.loop-event-test.true (search rules)
      (ap (λ (w : Shape). cause_of w (state_at m) c.index-events-event.result) (sym c.loop-event.invariant.0) ∙ (search rules))
      ∙ (let next : after_event z (state_at m) c.index-events-event.result ≡ state_at c.happen.new.self = ap (λ (w : Shape). after_event w (state_at m) c.index-events-event.result) (sym c.loop-event.invariant.0) ∙ sym c.in_ok-happen.ensures.after in
      let one : suc n ≡ n + 1 = omega arith in λ i. schedule z (next i) (one i) (drop (one i) c.args.events.now))),
)

pub returns-clause-ran : goal.returns-clause-ran
returns-clause-ran c = c.loop-event.invariant.1 ∙ ap (schedule c.args.shape.now (state_at c.loop-event.machine) c.loop-event.event) (nothing_left c.args.events.now c.loop-event.event c.loop-event-test.false)

pub returns-clause-shape : goal.returns-clause-shape
returns-clause-shape c = c.loop-event.invariant.0
