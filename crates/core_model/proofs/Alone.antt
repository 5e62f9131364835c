-- A step changes its own caller alone.
use Rattle.std.proofs.Common.{◌≡◌, ◌≢◌, inl, inr, ℕ, Bool, true, false, cond, ◌++◌, List, [], ◌∷◌, length, refl, sym, subst}
use Rattle.std.proofs.lemmas.List.{append-nil}
use Rattle.bq_model.specs.declared.group.Group.{Group}
use Rattle.word_rows.specs.declared.content.Content.{Content}
use Rattle.lane_steps.specs.declared.point.Closing.{Closing}
use Rattle.lane_steps.specs.declared.point.Closing.TheVariants.{Plain, Batch, Full}
use Rattle.lane_steps.specs.declared.point.Hold.{Hold}
use Rattle.lane_steps.specs.LaneSizes.{LaneSizes}
use Rattle.lane_steps.specs.State.{Caller, State, read}
use Rattle.lane_steps.specs.Step.{target, linearizes, history_after, history_with, course, added_by, after, next, ended}
use Rattle.core_model.specs.Alone.{GoesOnOrEnds}
use Rattle.core_model.proofs.Follows.{holding_these, Somehow, ends_somehow, follows}
use Rattle.core_model.proofs.Puts.{put_here, put_else}

module _ (z : LaneSizes) (s : State) (c : ℕ) where
  -- the content of the word of caller c's next step, and how many groups there are after it
  abbrev found : Content
  found = read s.memory (target c (s.callers c).point)

  abbrev groups : ℕ
  groups = length (history_with z s c (s.callers c).point (read s.memory (target c (s.callers c).point)))

  pub others_stay : (d : ℕ) → d ≢ c → (next z s c).callers d ≡ s.callers d
  unfolding next
  others_stay d apart = put_else s.callers c (after z groups c (s.callers c) (s.callers c).point found) d apart

  pub history_added : (next z s c).history ≡ s.history ++ added_by z s.callers c (s.callers c).point (read s.memory (target c (s.callers c).point))
  unfolding next
  history_added = added (linearizes (s.callers c).point (read s.memory (target c (s.callers c).point))) s.history _ where
    added : (b : Bool) (h : List Group) (g : Group) → history_after b h g ≡ h ++ cond b (g ∷ []) []
    added true h g = refl
    added false h g = sym (append-nil h)

-- its command goes on, or it ends as it closes
ends_so : (n c : ℕ) (k : Caller) (rows vs ws retired named : List ℕ) (h r : Hold) (a : Closing) → GoesOnOrEnds c k (ended n c (holding_these k rows vs ws retired named h r) a)
ends_so n c k rows vs ws retired named h r (Plain x) = inr (refl, inl refl)
ends_so n c k rows vs ws retired named h r (Batch m) = inr (refl, inl refl)
ends_so n c k rows vs ws retired named h r Full = inr (refl, inr refl)

pub goes_on_or_ends : (z : LaneSizes) (s : State) (c : ℕ) → GoesOnOrEnds c (s.callers c) ((next z s c).callers c)
unfolding next
goes_on_or_ends z s c = let k = s.callers c in let x = read s.memory (target c k.point) in let n = length (history_with z s c k.point x) in
    subst (GoesOnOrEnds c k) (sym (put_here s.callers c (after z n c k k.point x))) (follows z n c k (GoesOnOrEnds c k) (λ _ _ _ _ _ _ _ _. inl (refl, refl)) Somehow (λ rows vs ws retired named h r a _. ends_so n c k rows vs ws retired named h r a) (course k.point x) (ends_somehow (course k.point x)))
