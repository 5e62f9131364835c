-- Lists of callers that made no command yet.
use Rattle.std.proofs.Common.{◌≡◌, ℕ, zero, suc, ◌<◌, List, [], ◌∷◌, length, slice_index_or, map, refl, ap, ◌∙◌, arith}
use Rattle.lane_steps.specs.Start.{newcomer}
use Rattle.step_core.specs.declared.call.Call.{Call}
use Rattle.step_core.specs.Calls.{call_of}
use Rattle.step_core.specs.Due.{due}
use Rattle.step_core.specs.Lists.{callers_of, all_due}
use Rattle.std.proofs.lemmas.List.Sums.{sum_by-cons}

module _ where
  -- each call is a newcomer's
  abbrev pub New : List Call → Type 0
  New ks = (k : ℕ) (d : Call) → k < length ks → call_of (slice_index_or ks k d) ≡ newcomer

  fewer : (x : Call) (ks : List Call) → New (x ∷ ks) → New ks
  fewer x ks f k d below = f (suc k) d (omega arith)

  new_at : (ks : List Call) → New ks → (c : ℕ) → callers_of ks c ≡ newcomer
  new_at [] f c = refl
  new_at (x ∷ ks) f zero = f 0 x (omega arith)
  new_at (x ∷ ks) f (suc c) = new_at ks (fewer x ks f) c

  pub newcomers : (ks : List Call) → New ks → callers_of ks ≡ (λ _. newcomer)
  newcomers ks f = λ i c. new_at ks f c i

  -- nothing is due
  pub nothing_due : (ks : List Call) → New ks → all_due ks ≡ 0
  nothing_due [] f = refl
  nothing_due (x ∷ ks) f = sum_by-cons due (call_of x) (map call_of ks) ∙ (let rest = nothing_due ks (fewer x ks f) in let first = ap due (f 0 x (omega arith)) in omega arith)
