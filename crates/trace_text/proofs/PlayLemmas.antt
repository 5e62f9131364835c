-- A schedule with one more event.
use Rattle.std.proofs.Common.{◌≡◌, ℕ, zero, suc, ◌+◌, ◌-◌, ◌<◌, ◌≤◌, Bool, true, false, ◌||◌, ◌==◌, List, [], ◌∷◌, ◌++◌, Ok, Err, refl, sym, ap, subst, ◌∙◌, arith, append_assoc, append-nil, count_by, ne_eqb, cond, nat_lt, ltb-true, ltb-false}
use Rattle.std.proofs.lemmas.List.Sums.{sum_by_push}
use Rattle.std.proofs.lemmas.Bool.{eq-eqb}
use Rattle.bq_model.specs.declared.fault.TextCause.{TextCause}
use Rattle.bq_model.specs.declared.fault.TextCause.TheVariants.{TooMany}
use Rattle.bq_model.specs.declared.op.Op.{Op}
use Rattle.text_lines.proofs.ReadingLemmas.{if_ok}
use Rattle.bq_model.specs.declared.shape.Shape.{Shape}
use Rattle.lane_steps.specs.State.{State}
use Rattle.step_core.specs.declared.schedule.Event.{Event}
use Rattle.step_core.specs.declared.schedule.Event.TheVariants as event
use Rattle.step_core.specs.Schedule.{after_event}
use Rattle.trace_text.specs.declared.play.Refused.{Refused}
use Rattle.trace_text.specs.Played.{Playing, after_events, opened, refusal, refusals_from, is_step, steps_of, happened, stepped, stops, walk, ran, most_steps}
use Rattle.trace_text.specs.PlayState.{IsPlayed}

pub after_events-push : (z : Shape) (s : State) (es : List Event) (e : Event) → after_events z s (es ++ e ∷ []) ≡ after_event z (after_events z s es) e
after_events-push z s [] e = refl
after_events-push z s (x ∷ es) e = after_events-push z (after_event z s x) es e

refusals-push : (z : Shape) (s : State) (es : List Event) (e : Event) → refusals_from z s (es ++ e ∷ []) ≡ refusals_from z s es ++ refusal z (after_events z s es) e
refusals-push z s [] e = append-nil (refusal z s e)
refusals-push z s (x ∷ es) e =
    ap (λ (rs : List Refused). refusal z s x ++ rs) (refusals-push z (after_event z s x) es e)
    ∙ sym (append_assoc (refusal z s x) (refusals_from z (after_event z s x) es) (refusal z (after_events z (after_event z s x) es) e))

abbrev step_count : Event → ℕ
step_count e = cond (is_step e) 1 0

count-start : (es : List Event) (c : ℕ) (ops : List Op) → count_by is_step (es ++ event.Start c ops ∷ []) ≡ count_by is_step es + 0
count-start es c ops = sum_by_push step_count es (event.Start c ops)

count-step : (es : List Event) (c : ℕ) → count_by is_step (es ++ event.Step c ∷ []) ≡ count_by is_step es + 1
count-step es c = sum_by_push step_count es (event.Step c)

module _ (z y : Shape) (s next : State) (es more : List Event) (left : ℕ) (refused : List Refused) (same : y ≡ z) (played : IsPlayed z s es left refused) where
  -- a caller made a step
  pub IsPlayed-step : (c : ℕ) (longer_refused : List Refused) → 0 < left → next ≡ after_event z s (event.Step c) → longer_refused ≡ refused ++ refusal z s (event.Step c) → more ≡ es ++ event.Step c ∷ []
      → IsPlayed y next more (left - 1) longer_refused
  IsPlayed-step c longer_refused some after refused_are longer =
      let P : Shape → Type 0 = λ x. IsPlayed x next more (left - 1) longer_refused in
      let at = opened z in
      let as_many = played.left_is in
      let counted = ap (count_by is_step) longer ∙ count-step es c in
      subst P (sym same) record {
        state = after ∙ (ap (λ x. after_event z x (event.Step c)) played.state ∙ (sym (after_events-push z at es (event.Step c)) ∙ ap (after_events z at) (sym longer)));
        left_is = omega arith;
        refused_are = refused_are
            ∙ ((λ i. played.refused_are i ++ refusal z (played.state i) (event.Step c)) ∙ (sym (refusals-push z at es (event.Step c)) ∙ ap (refusals_from z at) (sym longer)));
      }

  -- a command was started
  pub IsPlayed-start : (c : ℕ) (ops : List Op) (longer_refused : List Refused) → next ≡ after_event z s (event.Start c ops) → longer_refused ≡ refused ++ refusal z s (event.Start c ops) → more ≡ es ++ event.Start c ops ∷ []
      → IsPlayed y next more left longer_refused
  IsPlayed-start c ops longer_refused after refused_are longer =
      let P : Shape → Type 0 = λ x. IsPlayed x next more left longer_refused in
      let at = opened z in
      let as_many = played.left_is in
      let counted = ap (count_by is_step) longer ∙ count-start es c ops in
      subst P (sym same) record {
        state = after ∙ (ap (λ x. after_event z x (event.Start c ops)) played.state ∙ (sym (after_events-push z at es (event.Start c ops)) ∙ ap (after_events z at) (sym longer)));
        left_is = omega arith;
        refused_are = refused_are
            ∙ ((λ i. played.refused_are i ++ refusal z (played.state i) (event.Start c ops)) ∙ (sym (refusals-push z at es (event.Start c ops)) ∙ ap (refusals_from z at) (sym longer)));
      }

-- ---- steps one after another

-- how many steps may still be made, where one was made
walk-by : (name : List ℕ) (limit c : ℕ) (p : Playing) (left fewer : ℕ) → (limit == 0 || stops name c p) ≡ false → left ≡ suc fewer → walk name limit c left p ≡ walk name (limit - 1) c fewer (happened p (event.Step c))
walk-by name limit c p zero fewer goes e = absurd (omega arith)
walk-by name limit c p (suc left) fewer goes e =
    let same : left ≡ fewer = omega arith in
    rw goes (ap (λ n. walk name (limit - 1) c n (happened p (event.Step c))) same)

module _ (name : List ℕ) (limit c : ℕ) (p : Playing) where
  -- the steps stop
  pub ran-stops : (limit == 0 || stops name c p) ≡ true → ran name limit c p ≡ Ok p
  ran-stops stopped = by (most_steps - steps_of p)
    where
      by : (left : ℕ) → walk name limit c left p ≡ Ok p
      by zero = rw stopped refl
      by (suc left) = rw stopped refl

  pub ran-stops_at_limit : limit ≤ 0 → ran name limit c p ≡ Ok p
  ran-stops_at_limit none = ran-stops (let here : (limit == 0) ≡ true = eq-eqb limit 0 (omega arith) in rw here refl)

  pub ran-stops_at_kind : stops name c p ≡ true → ran name limit c p ≡ Ok p
  ran-stops_at_kind at_kind = ran-stops (rw at_kind (or_true (limit == 0)))
    where
      or_true : (b : Bool) → (b || true) ≡ true
      or_true true = refl
      or_true false = refl

  module _ (some : 0 < limit) (goes_on : stops name c p ≡ false) where
    goes : (limit == 0 || stops name c p) ≡ false
    goes = let other : (limit == 0) ≡ false = ne_eqb limit 0 (λ e. absurd (omega arith)) in rw (other, goes_on) refl

    -- one more step
    pub ran-more : (next : Playing) → stepped p c ≡ Ok next → ran name limit c p ≡ ran name (limit - 1) c next
    ran-more next is =
        if_ok (nat_lt (steps_of p) most_steps) _ _ next is
        (λ test happens.
        let room = ltb-true (steps_of p) most_steps test in
        let counted = count-step p.events c in
        let after : happened p (event.Step c) ≡ next = cc happens in
        walk-by name limit c p (most_steps - steps_of p) (most_steps - steps_of (happened p (event.Step c))) goes (omega arith) ∙ ap (ran name (limit - 1) c) after)
        (λ _ fails. cc fails)

    -- no step is left
    pub ran-none : (cause : TextCause) → stepped p c ≡ Err cause → ran name limit c p ≡ Err cause
    ran-none cause is =
        elim (nat_lt (steps_of p) most_steps) as (λ b. nat_lt (steps_of p) most_steps ≡ b → cond b (Ok (happened p (event.Step c))) (Err TooMany) ≡ Err cause → ran name limit c p ≡ Err cause) [
          | true ↦ λ _ e. cc e
          | false ↦ λ test e. (let full : most_steps ≤ steps_of p = ltb-false (steps_of p) most_steps test in by (most_steps - steps_of p) (omega arith) ∙ e)
        ] refl is
      where
        by : (left : ℕ) → left ≡ 0 → walk name limit c left p ≡ Err TooMany
        by zero e = let going = goes in rw going refl
        by (suc left) e = absurd (omega arith)

-- a step keeps the shape
pub stepped-shape : (p next : Playing) (c : ℕ) → stepped p c ≡ Ok next → next.shape ≡ p.shape
stepped-shape p next c is =
    if_ok (nat_lt (steps_of p) most_steps) _ _ next is
    (λ _ happens. (let after : happened p (event.Step c) ≡ next = cc happens in ap (λ (x : Playing). x.shape) (sym after)))
    (λ _ fails. cc fails)
