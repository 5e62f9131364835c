-- The commands of a caller, ended and running, are those that the events of a schedule start.
use Rattle.std.proofs.Common.{◌≡◌, ◌==◌, inl, inr, ℕ, suc, ◌+◌, ◌<◌, ltb, ◌&&◌, not, Bool, true, false, cond, List, [], ◌∷◌, ◌++◌, length, map, Option, Some, None, Ok, refl, sym, ap, ◌∙◌, subst, arith, length-append, eq-eqb}
use Rattle.std.proofs.lemmas.Bool.{eqb-true}
use Rattle.std.proofs.lemmas.List.{append-nil, map-append}
use Rattle.bq_model.specs.declared.group.Group.{Group}
use Rattle.bq_model.specs.declared.op.Op.{Op}
use Rattle.bq_model.specs.declared.shape.Shape.{Shape}
use Rattle.bq_model.specs.History.{operations}
use Rattle.bq_model.specs.Own.{mine}
use Rattle.lane_steps.specs.declared.point.Point.{Point}
use Rattle.lane_steps.specs.declared.point.Point.TheVariants.{Idle}
use Rattle.lane_steps.specs.Functions.{put}
use Rattle.lane_steps.specs.LaneSizes.{LaneSizes, lane_sizes}
use Rattle.core_model.specs.Lawful.{Lawful}
use Rattle.core_model.specs.Noted.{IsNoted}
use Rattle.lane_steps.specs.Start.{IsCommand, begun}
use Rattle.lane_steps.specs.State.{Caller, State, own_group}
use Rattle.lane_steps.specs.Step.{next}
use Rattle.core_model.proofs.Alone.{others_stay}
use Rattle.core_model.proofs.Ends.{idle_groups}
use Rattle.core_model.proofs.Notes.{step_noted}
use Rattle.core_model.proofs.Puts.{put_here, put_else}
use Rattle.step_core.specs.declared.schedule.Event.{Event}
use Rattle.step_core.specs.declared.schedule.Event.TheVariants as event
use Rattle.step_core.specs.declared.schedule.EventCause.{EventCause}
use Rattle.step_core.specs.Commands.{is_command}
use Rattle.step_core.specs.Due.{is_idle}
use Rattle.step_core.specs.Schedule.{cause_of, after_event, refused_or, schedule}
use Rattle.step_core.specs.Started.{ends_full, without_last, started_by, all_started}
use Rattle.step_core.proofs.Begins.{command_is, goes}
use Rattle.step_core.proofs.Runs.{can_start, can_step, event_lawful, same_state}

abbrev ops_of : Group → List Op
ops_of g = g.ops

-- the operations of its ended commands, and those of one that runs
abbrev one : Bool → List Op → List (List Op)
one idle ops = cond idle [] (ops ∷ [])

abbrev commands : Caller → List (List Op)
commands k = map ops_of k.mine ++ one (is_idle k.point) k.ops

last_left : (xs : List (List Op)) (x : List Op) → without_last (xs ++ x ∷ []) ≡ xs
last_left [] x = refl
last_left (y ∷ []) x = refl
last_left (y ∷ z ∷ xs) x = ap (λ (ys : List (List Op)). y ∷ ys) (last_left (z ∷ xs) x)

-- how many groups an ended command has made, or none
same_length : (xs : List Group) → (length xs == length xs) ≡ true
same_length xs = eq-eqb (length xs) (length xs) refl

more : (xs ys : List Group) (x : Group) → ys ≡ xs ++ x ∷ [] → (length ys == length xs) ≡ false
more xs ys x is = by (length ys == length xs) refl where
  by : (b : Bool) → (length ys == length xs) ≡ b → (length ys == length xs) ≡ false
  by false e = e
  by true e = let same = eqb-true (length ys) (length xs) e in let l = ap length is ∙ length-append xs (x ∷ []) in absurd (let c : ⊥ = omega arith in c)

-- after a step of a caller whose command runs
ended_commands : (old new : Caller) (o : Bool) → is_idle old.point ≡ false → (length new.mine == length old.mine) ≡ o → (is_idle new.point ≡ false → commands new ≡ commands old)
    → (o ≡ false → map ops_of new.mine ≡ map ops_of old.mine ++ old.ops ∷ []) → (o ≡ true → map ops_of new.mine ≡ map ops_of old.mine)
    → commands new ≡ cond (ends_full old new) (without_last (commands old)) (commands old)
ended_commands old new o runs none on grew kept = by (is_idle new.point) refl o none grew kept where
  was : commands old ≡ map ops_of old.mine ++ old.ops ∷ []
  was = ap (λ (b : Bool). map ops_of old.mine ++ one b old.ops) runs

  by : (b : Bool) → is_idle new.point ≡ b → (p : Bool) → (length new.mine == length old.mine) ≡ p → (p ≡ false → map ops_of new.mine ≡ map ops_of old.mine ++ old.ops ∷ []) → (p ≡ true → map ops_of new.mine ≡ map ops_of old.mine)
      → commands new ≡ cond (ends_full old new) (without_last (commands old)) (commands old)
  by false e p same grew kept = on e ∙ sym (ap (λ (c : Bool). cond (c && (length new.mine == length old.mine)) (without_last (commands old)) (commands old)) e)
  by true e false same grew kept = (ap (λ (c : Bool). map ops_of new.mine ++ one c new.ops) e ∙ append-nil (map ops_of new.mine)) ∙ (grew refl ∙ sym was)
      ∙ sym (λ i. cond (e i && same i) (without_last (commands old)) (commands old))
  by true e true same grew kept = (ap (λ (c : Bool). map ops_of new.mine ++ one c new.ops) e ∙ append-nil (map ops_of new.mine)) ∙ (kept refl ∙ sym (ap without_last was ∙ last_left (map ops_of old.mine) old.ops))
      ∙ sym (λ i. cond (e i && same i) (without_last (commands old)) (commands old))

noted_commands : (n c : ℕ) (old new : Caller) → is_idle old.point ≡ false → IsNoted n c old new → commands new ≡ cond (ends_full old new) (without_last (commands old)) (commands old)
noted_commands n c old new runs (inl on) = ended_commands old new true runs (ap (λ (gs : List Group). length gs == length old.mine) on.mine ∙ same_length old.mine)
    (λ going. λ i. map ops_of (on.mine i) ++ one ((going ∙ sym runs) i) (on.ops i)) (λ e. absurd (cc e)) (λ _. ap (map ops_of) on.mine)
noted_commands n c old new runs (inr (inl done)) = ended_commands old new false runs (more old.mine new.mine (own_group c old) done.mine)
    (λ going. absurd (differ (sym going ∙ ap is_idle done.point))) (λ _. ap (map ops_of) done.mine ∙ map-append ops_of old.mine (own_group c old ∷ [])) (λ e. absurd (cc e)) where
      differ : false ≡ true → ⊥
      differ e = cc e
noted_commands n c old new runs (inr (inr full)) = ended_commands old new true runs (ap (λ (gs : List Group). length gs == length old.mine) full.mine ∙ same_length old.mine)
    (λ going. absurd (differ (sym going ∙ ap is_idle full.point))) (λ e. absurd (cc e)) (λ _. ap (map ops_of) full.mine) where
      differ : false ≡ true → ⊥
      differ e = cc e

module _ (shape : Shape) (s : State) (L : Lawful (lane_sizes shape) s) (c : ℕ) where
  abbrev z : LaneSizes
  z = lane_sizes shape

  eq_eqb : (d : ℕ) → c ≡ d → (d == c) ≡ true
  eq_eqb d same = eq-eqb d c (sym same)

  differ : true ≡ false → ⊥
  differ e = cc e

  step_commands : (d : ℕ) → is_idle (s.callers d).point ≡ false → commands ((next (lane_sizes shape) s d).callers c) ≡ started_by shape s c (commands (s.callers c)) (event.Step d)
  step_commands d runs = by (d == c) refl where
    by : (b : Bool) → (d == c) ≡ b → commands ((next (lane_sizes shape) s d).callers c)
        ≡ cond (b && ends_full (s.callers d) ((next (lane_sizes shape) s d).callers d)) (without_last (commands (s.callers c))) (commands (s.callers c))
    by true e = subst (λ (x : ℕ). commands ((next (lane_sizes shape) s d).callers x) ≡ cond (ends_full (s.callers d) ((next (lane_sizes shape) s d).callers d)) (without_last (commands (s.callers x))) (commands (s.callers x))) (eqb-true d c e)
        (noted_commands (length (next (lane_sizes shape) s d).history) d (s.callers d) ((next (lane_sizes shape) s d).callers d) runs (step_noted (lane_sizes shape) s d))
    by false e = ap commands (others_stay (lane_sizes shape) s d c (λ same. differ (sym (eq_eqb d same) ∙ e)))

  start_commands : (d : ℕ) (ops : List Op) → is_idle (s.callers d).point ≡ true → IsCommand ops
      → commands ((after_event shape s (event.Start d ops)).callers c) ≡ started_by shape s c (commands (s.callers c)) (event.Start d ops)
  start_commands d ops idle some = by (d == c) (ltb shape.allowance (length (operations (s.callers d).mine) + length ops)) refl where
    k : Caller
    k = begun (lane_sizes shape) (length s.history) d (s.callers d) ops

    grown : commands k ≡ commands (s.callers d) ++ ops ∷ []
    grown = ap (λ (b : Bool). map ops_of (s.callers d).mine ++ one b ops) (goes (lane_sizes shape) d (s.callers d) ops some)
        ∙ ap (λ (first : List (List Op)). first ++ ops ∷ []) (sym (ap (λ (b : Bool). map ops_of (s.callers d).mine ++ one b (s.callers d).ops) idle ∙ append-nil (map ops_of (s.callers d).mine)))

    by : (same spent : Bool) → (d == c) ≡ same
        → commands ((cond spent s record { memory = s.memory; history = s.history; callers = put s.callers d k }).callers c)
        ≡ cond (same && not spent) (commands (s.callers c) ++ ops ∷ []) (commands (s.callers c))
    by false true e = refl
    by true true e = refl
    by false false e = ap commands (put_else s.callers d k c (λ same. differ (sym (eq_eqb d same) ∙ e)))
    by true false e = subst (λ (x : ℕ). commands (put s.callers d k x) ≡ commands (s.callers x) ++ ops ∷ []) (eqb-true d c e) (ap commands (put_here s.callers d k) ∙ grown)

  event_commands : (e : Event) → cause_of shape s e ≡ None → commands ((after_event shape s e).callers c) ≡ started_by shape s c (commands (s.callers c)) e
  event_commands (event.Step d) none = step_commands d (can_step shape s L (ltb d shape.callers) (is_idle (s.callers d).point) none)
  event_commands (event.Start d ops) none = let can = can_start shape s L (ltb d shape.callers) (is_command shape.batch ops) (is_idle (s.callers d).point) none in
      start_commands d ops can.2 (command_is shape.batch ops can.1).0

all_commands : (z : Shape) (s : State) (n : ℕ) (es : List Event) (t : State) (c : ℕ) → Lawful (lane_sizes z) s → schedule z s n es ≡ Ok t → commands (t.callers c) ≡ all_started z s c (commands (s.callers c)) es
all_commands z s n [] t c L is = ap (λ (y : State). commands (y.callers c)) (sym (same_state is))
all_commands z s n (e ∷ es) t c L is = by (cause_of z s e) refl
    (λ none ran. all_commands z (after_event z s e) (suc n) es t c (event_lawful z s L e none) ran
    ∙ ap (λ (first : List (List Op)). all_started z (after_event z s e) c first es) (event_commands z s L c e none)) is where
      by : (o : Option EventCause) → cause_of z s e ≡ o
          → (cause_of z s e ≡ None → schedule z (after_event z s e) (suc n) es ≡ Ok t → commands (t.callers c) ≡ all_started z (after_event z s e) c (started_by z s c (commands (s.callers c)) e) es)
          → refused_or o n (schedule z (after_event z s e) (suc n) es) ≡ Ok t → commands (t.callers c) ≡ all_started z (after_event z s e) c (started_by z s c (commands (s.callers c)) e) es
      by None none rest is = rest none is
      by (Some cause) some rest is = absurd (cc is)

-- an idle caller's groups have the operations of the commands that it started, in order
pub groups_started : (z : Shape) (s : State) (n : ℕ) (es : List Event) (t : State) (c : ℕ) → Lawful (lane_sizes z) s → Lawful (lane_sizes z) t → commands (s.callers c) ≡ [] → schedule z s n es ≡ Ok t → (t.callers c).point ≡ Idle
    → map (λ (g : Group). g.ops) (mine t.history c) ≡ all_started z s c [] es
groups_started z s n es t c L V none ran idle = ap (map ops_of) (idle_groups (lane_sizes z) t V c idle)
    ∙ (sym (ap (λ (u : Point). map ops_of (t.callers c).mine ++ one (is_idle u) (t.callers c).ops) idle ∙ append-nil (map ops_of (t.callers c).mine))
    ∙ (all_commands z s n es t c L ran ∙ ap (λ (first : List (List Op)). all_started z s c first es) none))
