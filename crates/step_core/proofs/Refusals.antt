-- Why a command ended with Full is known at its end, and stays known.
use Rattle.std.proofs.Common.{◌≡◌, ◌≢◌, ⊎_elim, ℕ, ◌+◌, ◌<◌, true, false, ◌++◌, List, length, Option, Some, sym, refl, ap, ◌∙◌, subst, arith}
use Rattle.std.proofs.lemmas.List.{append_assoc, length-append}
use mathlib.Core.Logic.{dite}
use native.Mathlib.Decide.{ℕ_discrete}
use Rattle.bq_model.specs.declared.group.Group.{Group}
use Rattle.bq_model.specs.declared.op.Op.{Op}
use Rattle.bq_model.specs.declared.shape.Shape.{Shape}
use Rattle.excess_count.specs.Excess.{enqueue_count}
use Rattle.lane_steps.specs.declared.point.CallEnd.TheVariants.{Done, Full}
use Rattle.lane_steps.specs.declared.point.Point.TheVariants.{Idle}
use Rattle.lane_steps.specs.LaneSizes.{LaneSizes, lane_sizes}
use Rattle.lane_steps.specs.Start.{IsCommand, newcomer, begun}
use Rattle.lane_steps.specs.State.{Caller, State, read}
use Rattle.lane_steps.specs.Step.{target, added_by, next}
use Rattle.core_model.specs.Noted.{GoesOn, EndsDone, EndsFull}
use Rattle.core_model.proofs.Alone.{others_stay, history_added}
use Rattle.core_model.proofs.Notes.{step_noted}
use Rattle.core_model.proofs.Preserves.{known}
use Rattle.core_model.proofs.Steps.{preserves_next}
use Rattle.lane_room.specs.Roomy.{Roomy}
use Rattle.lane_room.specs.Search.{AboveRoom}
use Rattle.lane_room.proofs.Roomy.{full_room}
use Rattle.step_core.specs.Due.{is_idle}
use Rattle.step_core.specs.Refused.{PassedRoom, KnowsWhy}
use Rattle.step_core.proofs.Begins.{goes}
use Rattle.step_core.proofs.Landings.{goes_on_same}

-- a command that ends now, when the history is this one
passed_now : (room : ℕ) (h : List Group) (c from started : ℕ) (ended : Option ℕ) (enqs enqueues : ℕ) → (0 < enqs) × AboveRoom room h c from enqs → started ≡ from → ended ≡ Some (length h) → enqueues ≡ enqs
    → PassedRoom room h c started ended enqueues
passed_now room h c from started ended enqs enqueues A since end count = record {
  some = let n = A.0 in omega arith;
  before = A.1.before;
  behind = A.1.behind;
  whole = A.1.whole;
  since_start = let n = A.1.since_start in omega arith;
  end = length h;
  ends = end;
  until_end = let e = ap length A.1.whole ∙ length-append A.1.before A.1.behind in omega arith;
  above = let n = A.1.above in omega arith;
}

-- as the history goes on
passed_grows : (room : ℕ) (h more : List Group) (c started : ℕ) (ended : Option ℕ) (enqueues : ℕ) → PassedRoom room h c started ended enqueues → PassedRoom room (h ++ more) c started ended enqueues
passed_grows room h more c started ended enqueues P = record {
  some = P.some;
  before = P.before;
  behind = P.behind ++ more;
  whole = ap (λ (x : List Group). x ++ more) P.whole ∙ append_assoc P.before P.behind more;
  since_start = P.since_start;
  end = P.end;
  ends = P.ends;
  until_end = P.until_end;
  above = P.above;
}

why_grows : (room : ℕ) (h more : List Group) (c : ℕ) (k : Caller) (enqueues : ℕ) → KnowsWhy room h c k enqueues → KnowsWhy room (h ++ more) c k enqueues
why_grows room h more c k enqueues K = record { some = K.some; counted = K.counted; passed = λ idle full. passed_grows room h more c k.started_at k.ended_at enqueues (K.passed idle full) }

-- a caller that made no command yet
pub why_new : (room : ℕ) (h : List Group) (c enqueues : ℕ) → KnowsWhy room h c newcomer enqueues
why_new room h c enqueues = record { some = λ runs. absurd (runs refl); counted = λ runs. absurd (runs refl); passed = λ _ full. absurd (cc full) }

-- a command that begins
pub why_begun : (z : LaneSizes) (room : ℕ) (h : List Group) (n c : ℕ) (k : Caller) (ops : List Op) (enqueues : ℕ) → IsCommand ops → enqueues ≡ enqueue_count ops → KnowsWhy room h c (begun z n c k ops) enqueues
why_begun z room h n c k ops enqueues command count = record { some = λ _. command.0; counted = λ _. count; passed = λ idle _. absurd (differ (sym (goes z c k ops command) ∙ ap is_idle idle)) } where
  differ : false ≡ true → ⊥
  differ e = cc e

-- a step of caller c
module _ (z : Shape) (s : State) (R : Roomy z s) (c : ℕ) (runs : (s.callers c).point ≢ Idle) (enqueues : ℕ → ℕ) (K : (d : ℕ) → KnowsWhy z.room s.history d (s.callers d) (enqueues d)) where
  abbrev k' : Caller
  k' = (next (lane_sizes z) s c).callers c

  -- the command of an idle caller has ended
  ends_now : k'.point ≡ Idle → k'.outcome ≡ Some Full → (k'.started_at ≡ (s.callers c).started_at) × (k'.ended_at ≡ Some (length (next (lane_sizes z) s c).history))
  ends_now idle full = let some = (K c).some runs in ⊎_elim
      (λ (g : GoesOn (s.callers c) k'). let none = (known (lane_sizes z) (next (lane_sizes z) s c) (preserves_next (lane_sizes z) s R.lawful c) c Idle idle).here.0.0 in let e = ap length (sym g.ops ∙ none) in absurd (let no : ⊥ = omega (arith, e, some) in no))
      (λ w. ⊎_elim (λ (d : EndsDone (length (next (lane_sizes z) s c).history) c (s.callers c) k'). absurd (done_full (sym d.outcome ∙ full)))
      (λ (f : EndsFull (length (next (lane_sizes z) s c).history) (s.callers c) k'). (f.started_at, f.ended_at)) w)
      (step_noted (lane_sizes z) s c) where
        done_full : Some Done ≡ Some Full → ⊥
        done_full e = cc e

  why_own : KnowsWhy z.room (next (lane_sizes z) s c).history c k' (enqueues c)
  why_own = record {
    some = λ still. let on = goes_on_same (lane_sizes z) s R.lawful c runs c still in let n = ap length on.1 in let some = (K c).some runs in omega (arith, n, some);
    counted = λ still. (K c).counted runs ∙ ap enqueue_count (sym (goes_on_same (lane_sizes z) s R.lawful c runs c still).1);
    passed = λ idle full. let ends = ends_now idle full in
        passed_now z.room (next (lane_sizes z) s c).history c (s.callers c).started_at k'.started_at k'.ended_at (enqueue_count (s.callers c).ops) (enqueues c) (full_room z s R c ((K c).some runs) idle full) ends.0 ends.1 ((K c).counted runs);
  }

  pub why_next : (d : ℕ) → KnowsWhy z.room (next (lane_sizes z) s c).history d ((next (lane_sizes z) s c).callers d) (enqueues d)
  why_next d = dite (ℕ_discrete d c)
      (λ same. subst (λ (e : ℕ). KnowsWhy z.room (next (lane_sizes z) s c).history e ((next (lane_sizes z) s c).callers e) (enqueues e)) (sym same) why_own)
      (λ apart. subst (λ (k : Caller). KnowsWhy z.room (next (lane_sizes z) s c).history d k (enqueues d)) (sym (others_stay (lane_sizes z) s c d apart))
      (subst (λ (h : List Group). KnowsWhy z.room h d (s.callers d) (enqueues d)) (sym (history_added (lane_sizes z) s c))
      (why_grows z.room s.history (added_by (lane_sizes z) s.callers c (s.callers c).point (read s.memory (target c (s.callers c).point))) d (s.callers d) (enqueues d) (K d))))
