-- Steps that add a command to the history raise the rank; loads and failed exchanges leave what callers share.
use Rattle.std.proofs.Common.{◌≡◌, ◌≢◌, inl, inr, ℕ, ◌<◌, Bool, true, false, List, [], ◌∷◌, ◌++◌, length, sym, refl, ap, ◌∙◌, subst, arith}
use Rattle.std.proofs.lemmas.List.Elements.{recursion_from_All}
use Rattle.std.specs.List.{AllByRecursion}
use Rattle.bq_model.specs.declared.op.Op.{Op}
use Rattle.bq_model.specs.declared.group.Group.{Group}
use Rattle.bq_model.specs.Proper.{IsProper}
use Rattle.word_rows.specs.declared.head_word.HeadWord.TheVariants.{Ann}
use Rattle.lane_steps.specs.declared.point.Point.{Point}
use Rattle.lane_steps.specs.LaneSizes.{LaneSizes}
use Rattle.lane_steps.specs.State.{Memory, State, read, write, own_group}
use Rattle.lane_steps.specs.Step.{target, stored, linearizes, history_after, group_owner, step_at}
use Rattle.core_model.specs.Lawful.{Lawful}
use Rattle.core_model.proofs.Groups.{length-operations-push}
use Rattle.core_model.proofs.StoredAgain.{write_read}
use Rattle.core_model.proofs.Steps.{preserves_at}
use Rattle.lane_rank.specs.Rank.{rank_of, rank, Writes, Rests, Climbs}
use Rattle.lane_rank.proofs.Ranks.{stage_below, rests_rank, all_rest}

-- the last group of a proper history has an operation
last_of : {X : Type 0} (P : X → Type 0) (xs : List X) (x : X) → AllByRecursion P (xs ++ x ∷ []) → P x
last_of P [] x all = all.0
last_of P (y ∷ xs) x all = last_of P xs x all.1

positive : (ops : List Op) → ops ≢ [] → 0 < length ops
positive [] some = absurd (some refl)
positive (op ∷ ops) some = omega arith

pub last_has : (n : ℕ) (h : List Group) (g : Group) → IsProper n (h ++ g ∷ []) → 0 < length g.ops
last_has n h g p = positive g.ops (last_of (λ (x : Group). x.ops ≢ []) h g (recursion_from_All (λ (x : Group). x.ops ≢ []) (h ++ g ∷ []) p.filled))

module _ (z : LaneSizes) (s : State) (L : Lawful z s) (c : ℕ) where
  -- the memory after the step
  abbrev then : Point → Memory
  then t = write s.memory (target c t) (stored c t (read s.memory (target c t)))

  -- whose group it adds
  abbrev added : Point → Group
  added t = own_group (group_owner z c t) (s.callers (group_owner z c t))

  -- a step that adds a command
  pub adds_rank : (m : Memory) (g : Group) (n : ℕ) → IsProper n (s.history ++ g ∷ []) → rank s < rank_of m (s.history ++ g ∷ [])
  adds_rank m g n p = let some = last_has n s.history g p in let more = length-operations-push s.history g in let old = stage_below s.memory in omega arith

  -- a step that adds nothing to the history and leaves what callers share
  pub rests_at : (t : Point) → ((a n : ℕ) → s.memory.head ≡ Ann a n → Writes t a → ⊥) → (b : Bool) → linearizes t (read s.memory (target c t)) ≡ b → b ≡ false
      → Rests t L.ghost s.memory (then t) → Climbs t L.ghost s (step_at z s c t)
  rests_at t aside true e bad R = absurd (never bad) where
    never : true ≡ false → ⊥
    never e = cc e
  rests_at t aside false e _ R = inr (
    (ap (λ (b : Bool). rank_of (then t) (history_after b s.history (added t))) e ∙ rests_rank z s L t aside (then t) R),
    R,
  )

  -- one that stores what it found
  pub leaves_at : (t : Point) → ((a n : ℕ) → s.memory.head ≡ Ann a n → Writes t a → ⊥) → linearizes t (read s.memory (target c t)) ≡ false → stored c t (read s.memory (target c t)) ≡ read s.memory (target c t)
      → Climbs t L.ghost s (step_at z s c t)
  leaves_at t aside e same = rests_at t aside (linearizes t (read s.memory (target c t))) refl e
      (subst (Rests t L.ghost s.memory) (sym (ap (write s.memory (target c t)) same ∙ write_read s.memory (target c t))) (all_rest z s L t))

  -- one that adds a command where it succeeds, and else stores what it found
  pub lands_at : (t : Point) → ((a n : ℕ) → s.memory.head ≡ Ann a n → Writes t a → ⊥) → (s.callers c).point ≡ t → (b : Bool) → linearizes t (read s.memory (target c t)) ≡ b
      → (b ≡ false → stored c t (read s.memory (target c t)) ≡ read s.memory (target c t)) → Climbs t L.ghost s (step_at z s c t)
  lands_at t aside is false e same = leaves_at t aside e (same refl)
  lands_at t aside is true e same = let g : Group = added t in let h : List Group = s.history in
      let grown_is : history_after (linearizes t (read s.memory (target c t))) h g ≡ h ++ g ∷ [] = ap (λ (b : Bool). history_after b h g) e in
      inl (subst (λ (new : List Group). rank s < rank_of (then t) new) (sym grown_is) (adds_rank (then t) g z.callers (subst (IsProper z.callers) grown_is (preserves_at z s L c t is).history.proper)))
