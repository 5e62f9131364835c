use Rattle.std.proofs.Common.{ℕ, sym, ap, subst, ◌∙◌, arith}
use Rattle.lane_steps.specs.State.{Caller}
use Rattle.lane_room.specs.Roomy.{Roomy}
use Rattle.lane_room.proofs.Roomy.{roomy_opens}
use Rattle.step_core.specs.Refused.{enqueues_of, KnowsWhy}
use Rattle.step_core.proofs.Refusals.{why_new}
use Rattle.step_core.specs.Words.{opening_words, sizes_for}
use Rattle.step_core.proofs.Openings.{newcomers, nothing_due}
use Rattle.step_core.proofs.lists.Lists.new.Goals as goal

pub returns-clause-opening : goal.returns-clause-opening
returns-clause-opening c = let words = c.in_ok-words.ensures.opening ∙ ap opening_words c.first_count.ensures in let callers = newcomers c.in_ok-calls.calls.items c.in_ok-calls.ensures.newcomers in
    λ i. record { memory = words i; history = c.new-2.ensures.items i; callers = callers i }

pub returns-clause-sound : goal.returns-clause-sound
returns-clause-sound c = let none = nothing_due c.in_ok-calls.calls.items c.in_ok-calls.ensures.newcomers in record {
  roomy = subst (Roomy c.args.shape) (sym (returns-clause-opening c)) (roomy_opens c.args.shape);
  sizes = c.in_ok-words.ensures.sizes ∙ (λ i. sizes_for (c.rows.ensures i) (c.anns.ensures i) (c.callers.ensures i));
  calls = c.in_ok-calls.ensures.len;
  copies = c.in_ok-copies.ensures.len ∙ c.callers-2.ensures;
  ready = c.in_ok-calls.ensures.ready;
  reserved = omega arith;
  copied = λ d runs. absurd (runs (ap (λ (f : ℕ → Caller). (f d).point) (newcomers c.in_ok-calls.calls.items c.in_ok-calls.ensures.newcomers)));
  numbers = c.in_ok-enqueues.ensures.len ∙ c.callers-3.ensures;
  why = λ d. subst (λ (f : ℕ → Caller). KnowsWhy c.args.shape.room c.new-2.result.items d (f d) (enqueues_of c.in_ok-enqueues.enqueues.items d)) (sym (newcomers c.in_ok-calls.calls.items c.in_ok-calls.ensures.newcomers)) (why_new c.args.shape.room c.new-2.result.items d _);
}
