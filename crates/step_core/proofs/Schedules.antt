-- A schedule goes on event by event.
use Rattle.std.proofs.Common.{◌≡◌, ℕ, zero, suc, ◌<◌, ◌≤◌, List, [], ◌∷◌, length, drop, slice_index_or, Option, Some, None, Result, Ok, Err, refl, sym, ap, ◌∙◌, arith}
use Rattle.bq_model.specs.declared.shape.Shape.{Shape}
use Rattle.lane_steps.specs.State.{State}
use Rattle.step_core.specs.declared.schedule.Event.{Event}
use Rattle.step_core.specs.declared.schedule.EventCause.{EventCause}
use Rattle.step_core.specs.declared.schedule.EventCause.TheVariants.{BadCaller}
use Rattle.step_core.specs.declared.schedule.ScheduleRefused.{ScheduleRefused}
use Rattle.step_core.specs.declared.schedule.ScheduleRefused.TheVariants.{At, Memory}
use Rattle.step_core.specs.Schedule.{cause_of, after_event, refused_or, schedule}

drop_at : (es : List Event) (n : ℕ) (e : Event) → n < length es → e ≡ slice_index_or es n e → drop n es ≡ e ∷ drop (suc n) es
drop_at [] n e below is = absurd (omega arith)
drop_at (x ∷ es) zero e below is = ap (λ (y : Event). y ∷ es) (sym is)
drop_at (x ∷ es) (suc n) e below is = drop_at es n e (omega arith) is

module _ (z : Shape) (s : State) (es : List Event) (n : ℕ) (e : Event) (below : n < length es) (is : e ≡ slice_index_or es n e) where
  pub goes_on : cause_of z s e ≡ None → schedule z s n (drop n es) ≡ schedule z (after_event z s e) (suc n) (drop (suc n) es)
  goes_on none = ap (schedule z s n) (drop_at es n e below is) ∙ ap (λ (o : Option EventCause). refused_or o n (schedule z (after_event z s e) (suc n) (drop (suc n) es))) none

  pub stops : (cause : EventCause) → cause_of z s e ≡ Some cause → schedule z s n (drop n es) ≡ Err (n, cause)
  stops cause some = ap (schedule z s n) (drop_at es n e below is) ∙ ap (λ (o : Option EventCause). refused_or o n (schedule z (after_event z s e) (suc n) (drop (suc n) es))) some

pub nothing_left : (es : List Event) (n : ℕ) → length es ≤ n → drop n es ≡ []
nothing_left [] zero past = refl
nothing_left [] (suc n) past = refl
nothing_left (x ∷ es) zero past = absurd (omega arith)
nothing_left (x ∷ es) (suc n) past = nothing_left es n (omega arith)

-- the event and the cause of an answer
where_refused : {A : Type 0} → Result A ScheduleRefused → ℕ × EventCause
where_refused (Ok x) = (0, BadCaller)
where_refused (Err (At event cause)) = (event, cause)
where_refused (Err Memory) = (0, BadCaller)

pub same_refusal : {A : Type 0} → (event event' : ℕ) (cause cause' : EventCause) → (let r : Result A ScheduleRefused = Err (At event cause) in r) ≡ Err (At event' cause') → ◌≡◌ {A = ℕ × EventCause} (event, cause) (event', cause')
unfolding where_refused
same_refusal event event' cause cause' e = ap where_refused e
