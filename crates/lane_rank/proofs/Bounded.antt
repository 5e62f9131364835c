-- A command ends within a number of its caller's own steps, whatever other callers do or leave undone.
use Rattle.std.proofs.Common.{◌≡◌, ◌≢◌, ◌⊎◌, inl, inr, ℕ, suc, ◌+◌, ◌<◌, ◌≤◌, eqb, eq-eqb, ne_eqb, Bool, cond, List, [], ◌∷◌, sym, refl, ap, ◌∙◌, subst, arith}
use mathlib.Core.Logic.{dite}
use native.Mathlib.Decide.{ℕ_discrete}
use Rattle.bq_model.specs.declared.op.Op.{Op}
use Rattle.bq_model.specs.declared.shape.Shape.{Shape}
use Rattle.lane_steps.specs.declared.point.Point.TheVariants.{Idle}
use Rattle.lane_steps.specs.Functions.{put}
use Rattle.lane_steps.specs.LaneSizes.{LaneSizes, lane_sizes}
use Rattle.lane_steps.specs.Start.{begun, start}
use Rattle.lane_steps.specs.State.{Caller, State}
use Rattle.lane_steps.specs.Step.{next}
use Rattle.core_model.proofs.Alone.{others_stay}
use Rattle.core_model.proofs.Puts.{put_here, put_else}
use Rattle.lane_rank.specs.Rank.{rank}
use Rattle.lane_rank.specs.Return.{left, Ranked}
use Rattle.lane_rank.specs.Runs.{Event, steps, begins, GoesOn, steps_of}
use Rattle.lane_rank.proofs.Ranked.{less_left, starts}

-- after the step of caller c it is ranked again, and the command of c has ended, or less is left of it
abbrev Falls : Shape → State → (ℕ → ℕ) → (ℕ → ℕ) → ℕ → Type 0
Falls z s o i c = (o' : ℕ) × (i' : ℕ) × Ranked z (next (lane_sizes z) s c) (put o c o') (put i c i')
    × ((((next (lane_sizes z) s c).callers c).point ≡ Idle) ⊎ (left z ((next (lane_sizes z) s c).callers c) o' i' < left z (s.callers c) (o c) (i c)))

module _ (z : Shape) (c : ℕ) where
  abbrev Z : LaneSizes
  Z = lane_sizes z

  -- another caller's start leaves caller c as it is
  start_else : (s : State) (d : ℕ) (ops : List Op) → d ≢ c → (start (lane_sizes z) s d ops).callers c ≡ s.callers c
  start_else s d ops apart = put_else s.callers d (begun Z _ d (s.callers d) ops) c (λ e. apart (sym e))

  -- an idle caller makes no step
  none_more : (s : State) (es : List Event) → (s.callers c).point ≡ Idle → GoesOn z c s es → steps_of c es ≡ 0
  none_more s [] idle on = refl
  none_more s (steps d ∷ es) idle on = absurd (on.1 idle)
  none_more s (begins d ops ∷ es) idle on = none_more (start Z s d ops) es (ap (λ (k : Caller). k.point) (start_else s d ops on.0) ∙ idle) on.2

  -- a step of caller c that lowers what is left
  counted : (n : ℕ) (rest before after : ℕ) → ◌≡◌ {A = ℕ} n 1 → rest ≤ suc after → after < before → n + rest ≤ suc before
  counted n rest before after one few falls = omega arith

  pub few_steps : (s : State) (o i : ℕ → ℕ) → Ranked z s o i → (es : List Event) → GoesOn z c s es → steps_of c es ≤ suc (left z (s.callers c) (o c) (i c))
  few_steps s o i R [] on = omega arith
  few_steps s o i R (begins d ops ∷ es) on =
      subst (λ (x : Caller × ℕ × ℕ). steps_of c es ≤ suc (left z x.0 x.1 x.2))
      (λ j. (start_else s d ops on.0 j, put_else o d (rank s) c (λ e. on.0 (sym e)) j, put_else i d (rank s) c (λ e. on.0 (sym e)) j))
      (few_steps (start Z s d ops) (put o d (rank s)) (put i d (rank s)) (starts z s o i R d ops on.1) es on.2)
  few_steps s o i R (steps d ∷ es) on = let x = less_left z s o i R d on.0 in dite (ℕ_discrete d c)
      (λ same. let y = subst (Falls z s o i) same x in
      let on' = subst (λ (b : ℕ). GoesOn z c (next Z s b) es) same on.2 in let one : ◌≡◌ {A = ℕ} (cond (eqb d c) 1 0) 1 = ap (λ (b : Bool). cond b 1 0) (eq-eqb d c same) in
      own y.0 y.1 (few_steps (next Z s c) (put o c y.0) (put i c y.1) y.2 es on') on' y.3 one)
      (λ apart. let none : ◌≡◌ {A = ℕ} (cond (eqb d c) 1 0) 0 = ap (λ (b : Bool). cond b 1 0) (ne_eqb d c apart) in
      added (cond (eqb d c) 1 0) (steps_of c es) (suc (left z (s.callers c) (o c) (i c))) none (subst (λ (y : Caller × ℕ × ℕ). steps_of c es ≤ suc (left z y.0 y.1 y.2))
      (λ j. (others_stay Z s d c (λ e. apart (sym e)) j, put_else o d x.0 c (λ e. apart (sym e)) j, put_else i d x.1 c (λ e. apart (sym e)) j))
      (few_steps (next Z s d) (put o d x.0) (put i d x.1) x.2 es on.2))) where
        added : (n rest most : ℕ) → ◌≡◌ {A = ℕ} n 0 → rest ≤ most → n + rest ≤ most
        added n rest most none few = omega arith

        own : (o' i' : ℕ) → steps_of c es ≤ suc (left z ((next Z s c).callers c) (put o c o' c) (put i c i' c)) → GoesOn z c (next Z s c) es
            → (((next Z s c).callers c).point ≡ Idle) ⊎ (left z ((next Z s c).callers c) o' i' < left z (s.callers c) (o c) (i c))
            → ◌≡◌ {A = ℕ} (cond (eqb d c) 1 0) 1 → steps_of c (steps d ∷ es) ≤ suc (left z (s.callers c) (o c) (i c))
        own o' i' rest on' (inl idle) one = let none = none_more (next Z s c) es idle on' in ended (cond (eqb d c) 1 0) (steps_of c es) (left z (s.callers c) (o c) (i c)) one none where
          ended : (n rest before : ℕ) → ◌≡◌ {A = ℕ} n 1 → rest ≡ 0 → n + rest ≤ suc before
          ended n rest before one none = omega arith
        own o' i' rest on' (inr falls) one = counted (cond (eqb d c) 1 0) (steps_of c es) (left z (s.callers c) (o c) (i c)) (left z ((next Z s c).callers c) o' i') one
            (subst (λ (y : ℕ × ℕ). steps_of c es ≤ suc (left z ((next Z s c).callers c) y.0 y.1)) (λ j. (put_here o c o' j, put_here i c i' j)) rest) falls
