-- How many groups there are and will be, and whose group a step adds.
use Rattle.std.proofs.Common.{◌≡◌, ◌≢◌, ◌⊎◌, ⊎_elim, ℕ, suc, ◌+◌, ◌<◌, ◌≤◌, Bool, true, false, cond, List, [], ◌∷◌, ◌++◌, length, All, refl, sym, ap, ◌∙◌, subst, arith}
use Rattle.std.proofs.lemmas.List.{append-nil, length-append}
use Rattle.std.proofs.Math.Seq.{get_or-append_seam}
use Rattle.std.proofs.lemmas.List.Elements.{recursion_from_All}
use mathlib.Core.Logic.{dite}
use native.Mathlib.Decide.{ℕ_discrete}
use Rattle.bq_model.specs.declared.group.Group.{Group}
use Rattle.bq_model.specs.Own.{mine}
use Rattle.lane_steps.specs.declared.point.Point.{Point}
use Rattle.lane_steps.specs.declared.point.Point.TheVariants.{Idle}
use Rattle.lane_steps.specs.LaneSizes.{LaneSizes}
use Rattle.lane_steps.specs.State.{Caller, State, read, own_group}
use Rattle.lane_steps.specs.Step.{target, linearizes, added_by, group_owner, next}
use Rattle.core_model.specs.Lawful.{Lawful}
use Rattle.core_model.proofs.Groups.{mine-push_own, mine-push_other}
use Rattle.core_model.proofs.Preserves.{known}
use Rattle.core_model.proofs.Steps.{preserves_next}
use Rattle.core_model.proofs.Alone.{others_stay, history_added, goes_on_or_ends}
use Rattle.step_core.specs.Due.{is_idle, due}
use Rattle.step_core.proofs.Totals.{total, total_le, total_all, total_groups}

-- one group where a command runs
abbrev one : Bool → ℕ
one idle = cond idle 0 1

pub idle_is : (t : Point) → is_idle t ≡ true → t ≡ Idle
idle_is Idle e = refl
idle_is _ e = absurd (cc e)

pub not_idle : (t : Point) → t ≢ Idle → is_idle t ≡ false
not_idle t runs = by (is_idle t) refl where
  by : (b : Bool) → is_idle t ≡ b → is_idle t ≡ false
  by true e = absurd (runs (idle_is t e))
  by false e = e

module _ (z : LaneSizes) (s : State) (L : Lawful z s) where
  -- those of a caller's ended commands stand in the history, and no others but that of a running one
  pub mine_least : (c : ℕ) → length (s.callers c).mine ≤ length (mine s.history c)
  mine_least c = let e = ap length ((L.callers c).own_groups) ∙ length-append (s.callers c).mine _ in omega arith

  pub mine_most : (c : ℕ) → length (mine s.history c) ≤ due (s.callers c)
  mine_most c = by (L.ghost.linearized c) (is_idle (s.callers c).point) refl refl where
    by : (l i : Bool) → L.ghost.linearized c ≡ l → is_idle (s.callers c).point ≡ i → length (mine s.history c) ≤ length (s.callers c).mine + cond (is_idle (s.callers c).point) 0 1
    by true true on idle = absurd (differ (sym on ∙ (known z s L c Idle (idle_is (s.callers c).point idle)).call.0.0)) where
      differ : true ≡ false → ⊥
      differ e = cc e
    by true false on idle = let e : length (mine s.history c) ≡ length (s.callers c).mine + 1 = ap length ((L.callers c).own_groups) ∙ (length-append (s.callers c).mine _ ∙ ap (λ (b : Bool). length (s.callers c).mine + length (cond b (own_group c (s.callers c) ∷ []) [])) on) in
        let runs = ap one idle in omega arith
    by false i off idle = let e : length (mine s.history c) ≡ length (s.callers c).mine + 0 = ap length ((L.callers c).own_groups) ∙ (length-append (s.callers c).mine _ ∙ ap (λ (b : Bool). length (s.callers c).mine + length (cond b (own_group c (s.callers c) ∷ []) [])) off) in omega arith

  all_groups : total z.callers (λ c. length (mine s.history c)) ≡ length s.history
  all_groups = total_groups z.callers s.history (recursion_from_All (λ (g : Group). g.caller < z.callers) s.history L.history.proper.known)

  -- the groups of the history are no more than those that are due
  pub groups_due : length s.history ≤ total z.callers (λ c. due (s.callers c))
  groups_due = let e = all_groups in let le = total_le z.callers (λ c. length (mine s.history c)) (λ c. due (s.callers c)) (λ c _. mine_most c) in omega arith

  -- and no more are due than one of each caller on top
  pub due_groups : total z.callers (λ c. due (s.callers c)) ≤ length s.history + z.callers
  due_groups = let e = all_groups in let le = total_all z.callers (λ c. length (mine s.history c)) (λ c. due (s.callers c)) (λ c _. let l = mine_least c in by c (is_idle (s.callers c).point) l) in omega arith where
    by : (c : ℕ) (b : Bool) → length (s.callers c).mine ≤ length (mine s.history c) → length (s.callers c).mine + cond b 0 1 ≤ suc (length (mine s.history c))
    by c true l = omega arith
    by c false l = omega arith

module _ (z : LaneSizes) (s : State) (L : Lawful z s) (c : ℕ) (runs : (s.callers c).point ≢ Idle) where
  one_due : due (s.callers c) ≡ length (s.callers c).mine + 1
  one_due = ap (λ (b : Bool). length (s.callers c).mine + cond b 0 1) (not_idle (s.callers c).point runs)

  own_due : due ((next z s c).callers c) ≤ due (s.callers c)
  own_due = let was = one_due in let k' = (next z s c).callers c in ⊎_elim
      (λ (w : (k'.ops ≡ (s.callers c).ops) × (k'.mine ≡ (s.callers c).mine)). let e = ap length w.1 in by k' (is_idle k'.point) e)
      (λ (w : (k'.point ≡ Idle) × ((k'.mine ≡ (s.callers c).mine ++ own_group c (s.callers c) ∷ []) ⊎ (k'.mine ≡ (s.callers c).mine))). let i = ap (λ (t : Point). one (is_idle t)) w.0 in ⊎_elim
      (λ (m : k'.mine ≡ (s.callers c).mine ++ own_group c (s.callers c) ∷ []). let e = ap length m ∙ length-append (s.callers c).mine (own_group c (s.callers c) ∷ []) in omega (arith, was, i, e))
      (λ (m : k'.mine ≡ (s.callers c).mine). let e = ap length m in omega (arith, was, i, e)) w.1)
      (goes_on_or_ends z s c) where
        by : (k' : Caller) (b : Bool) → length k'.mine ≡ length (s.callers c).mine → length k'.mine + cond b 0 1 ≤ due (s.callers c)
        by k' true e = let was = one_due in omega arith
        by k' false e = let was = one_due in omega arith

  -- a step makes no more groups due
  pub due_falls : (d : ℕ) → due ((next z s c).callers d) ≤ due (s.callers d)
  due_falls d = dite (ℕ_discrete d c) (λ same. subst (λ (e : ℕ). due ((next z s c).callers e) ≤ due (s.callers e)) (sym same) own_due)
      (λ apart. let e = ap due (others_stay z s c d apart) in omega arith)

  -- a command that goes on keeps its operations and the groups before it
  pub goes_on_same : (d : ℕ) → ((next z s c).callers d).point ≢ Idle
      → ((s.callers d).point ≢ Idle) × (((next z s c).callers d).ops ≡ (s.callers d).ops) × (((next z s c).callers d).mine ≡ (s.callers d).mine)
  goes_on_same d still = dite (ℕ_discrete d c)
      (λ same. subst (λ (e : ℕ). ((next z s c).callers e).point ≢ Idle → ((s.callers e).point ≢ Idle) × (((next z s c).callers e).ops ≡ (s.callers e).ops) × (((next z s c).callers e).mine ≡ (s.callers e).mine)) (sym same) own still)
      (λ apart. let e = others_stay z s c d apart in ((λ idle. still (ap (λ (k : Caller). k.point) e ∙ idle)), ap (λ (k : Caller). k.ops) e, ap (λ (k : Caller). k.mine) e)) where
        own : ((next z s c).callers c).point ≢ Idle → ((s.callers c).point ≢ Idle) × (((next z s c).callers c).ops ≡ (s.callers c).ops) × (((next z s c).callers c).mine ≡ (s.callers c).mine)
        own still = let k' = (next z s c).callers c in ⊎_elim
            (λ (w : (k'.ops ≡ (s.callers c).ops) × (k'.mine ≡ (s.callers c).mine)). (runs, w.0, w.1))
            (λ (w : (k'.point ≡ Idle) × ((k'.mine ≡ (s.callers c).mine ++ own_group c (s.callers c) ∷ []) ⊎ (k'.mine ≡ (s.callers c).mine))). absurd (still w.0))
            (goes_on_or_ends z s c)

  -- there is room for the groups after the step where there is for those that are due
  pub room_after : length (next z s c).history ≤ total z.callers (λ d. due (s.callers d))
  room_after = let now = groups_due z (next z s c) (preserves_next z s L c) in let le = total_le z.callers (λ d. due ((next z s c).callers d)) (λ d. due (s.callers d)) (λ d _. due_falls d) in omega arith

  module _ (t : Point) (at : t ≡ (s.callers c).point) where
    grew : linearizes t (read s.memory (target c t)) ≡ true → (next z s c).history ≡ s.history ++ own_group (group_owner z c t) (s.callers (group_owner z c t)) ∷ []
    grew g = subst (λ (u : Point). (next z s c).history ≡ s.history ++ added_by z s.callers c u (read s.memory (target c u))) (sym at) (history_added z s c)
        ∙ ap (λ (b : Bool). s.history ++ cond b (own_group (group_owner z c t) (s.callers (group_owner z c t)) ∷ []) []) g

    pub leaves_history : linearizes t (read s.memory (target c t)) ≡ false → (next z s c).history ≡ s.history
    leaves_history g = subst (λ (u : Point). (next z s c).history ≡ s.history ++ added_by z s.callers c u (read s.memory (target c u))) (sym at) (history_added z s c)
        ∙ (ap (λ (b : Bool). s.history ++ cond b (own_group (group_owner z c t) (s.callers (group_owner z c t)) ∷ []) []) g ∙ append-nil s.history)

    module _ (g : linearizes t (read s.memory (target c t)) ≡ true) where
      -- the history grows by one group
      pub one_more : length s.history < total z.callers (λ e. due (s.callers e))
      one_more = let room = room_after in let e = ap length (grew g) ∙ length-append s.history (own_group (group_owner z c t) (s.callers (group_owner z c t)) ∷ []) in omega arith

      -- of one of the callers
      pub owner_known : group_owner z c t < z.callers
      owner_known = let own = own_group (group_owner z c t) (s.callers (group_owner z c t)) in
          subst (λ (x : Group). x.caller < z.callers) (get_or-append_seam s.history own [] own)
          (subst (All (λ (x : Group). x.caller < z.callers)) (grew g) (preserves_next z s L c).history.proper.known (length s.history) own (let e = length-append s.history (own ∷ []) in omega arith))

      own_more : length (mine (next z s c).history (group_owner z c t)) ≡ length (mine s.history (group_owner z c t)) + 1
      own_more = let own = own_group (group_owner z c t) (s.callers (group_owner z c t)) in ap (λ (h : List Group). length (mine h (group_owner z c t))) (grew g)
          ∙ (ap length (mine-push_own s.history own) ∙ length-append (mine s.history (group_owner z c t)) (own ∷ []))

      -- whose command runs, and had none in the history
      pub owner_waits : ((s.callers (group_owner z c t)).point ≢ Idle) × (length (mine s.history (group_owner z c t)) ≡ length (s.callers (group_owner z c t)).mine)
      owner_waits = let most = mine_most z (next z s c) (preserves_next z s L c) (group_owner z c t) in let falls = due_falls (group_owner z c t) in let least = mine_least z s L (group_owner z c t) in let more = own_more in by (is_idle (s.callers (group_owner z c t)).point) refl
          (let sum : length (mine s.history (group_owner z c t)) + 1 ≤ length (s.callers (group_owner z c t)).mine + cond (is_idle (s.callers (group_owner z c t)).point) 0 1 = omega arith in sum) least where
            by : (b : Bool) → is_idle (s.callers (group_owner z c t)).point ≡ b → length (mine s.history (group_owner z c t)) + 1 ≤ length (s.callers (group_owner z c t)).mine + cond (is_idle (s.callers (group_owner z c t)).point) 0 1
                → length (s.callers (group_owner z c t)).mine ≤ length (mine s.history (group_owner z c t))
                → ((s.callers (group_owner z c t)).point ≢ Idle) × (length (mine s.history (group_owner z c t)) ≡ length (s.callers (group_owner z c t)).mine)
            by true i sum least = let none = ap one i in absurd (omega arith)
            by false i sum least = let runs' = ap one i in ((λ idle. differ (sym i ∙ ap is_idle idle)), omega arith) where
              differ : false ≡ true → ⊥
              differ e = cc e

      -- a caller whose command still has none in the history is another one
      pub another : (e : ℕ) → ((next z s c).callers e).point ≢ Idle → length (mine (next z s c).history e) ≡ length ((next z s c).callers e).mine → e ≢ group_owner z c t
      another e still none same = let P : ℕ → Type 0 = λ i. length (mine (next z s c).history i) ≡ length ((next z s c).callers i).mine in
          let here = subst P same none in let kept = subst (λ (i : ℕ). ((next z s c).callers i).mine ≡ (s.callers i).mine) same (goes_on_same e still).2 in
          let len = ap length kept in let more = own_more in let least = owner_waits.1 in absurd (omega arith)

      pub others_mine : (e : ℕ) → e ≢ group_owner z c t → mine (next z s c).history e ≡ mine s.history e
      others_mine e apart = ap (λ (h : List Group). mine h e) (grew g) ∙ mine-push_other s.history (own_group (group_owner z c t) (s.callers (group_owner z c t))) e apart
