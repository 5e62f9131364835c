-- The seats of two passes, joined into one.
use Rattle.std.proofs.Common.{◌≡◌, ◌⊎◌, ⊎_elim, inl, inr, ℕ, zero, suc, ◌≤◌, List, [], ◌∷◌, ◌++◌, length, map, Contains, refl, sym, ap, subst, ◌∙◌, arith, length-append}
use Rattle.atomic_table.specs.Table.{Me}
use Rattle.bq_model.specs.declared.shape.Shape.{Shape}
use Rattle.bq_model.specs.Own.{mine}
use Rattle.bq_model.specs.Grows.{SawMore}
use Rattle.lane_steps.specs.declared.point.Point.TheVariants.{Idle}
use Rattle.lane_rule.specs.declared.view.Kept.{Kept}
use Rattle.lane_rule.specs.declared.view.Held.{Held}
use Rattle.lane_rule.specs.declared.view.Kind.{Kind}
use Rattle.lane_rule.specs.declared.view.Kind.TheVariants.{Maker, Alone, Gathered, Spent}
use Rattle.lane_rule.specs.declared.view.View.{View}
use Rattle.lane_rule.specs.Rule.{Begins}
use Rattle.lane_rule.specs.Plays.{IsWhole}
use Rattle.lane_rule.specs.Seating.{held_as, Holds, Idles}
use Rattle.bq_model.specs.Proper.{IsProper}
use Rattle.lane_course.specs.declared.scratch.Scratch.{Scratch}
use Rattle.bq_lane.specs.Pass.{callers_of, Rests}

-- one of the callers has something kept of it
held_of : (hs : List Held) (c : ℕ) → Contains (map (λ (h : Held). h.caller) hs) c → (k : Kept) × Holds c k hs
held_of [] c (k, below, e) = absurd (omega (arith, below))
held_of (h ∷ hs) c (zero, below, e) = (h.kept, inl (e, refl))
held_of (h ∷ hs) c (suc k, below, e) = let t = held_of hs c (k, (omega (arith, below)), e) in (t.0, inr t.1)

holds_cases : (xs ys : List Held) (c : ℕ) (k : Kept) → Holds c k (xs ++ ys) → Holds c k xs ⊎ Holds c k ys
holds_cases [] ys c k h = inr h
holds_cases (x ∷ xs) ys c k (inl h) = inl (inl h)
holds_cases (x ∷ xs) ys c k (inr h) = ⊎_elim (λ (there : Holds c k xs). inl (inr there)) (λ (there : Holds c k ys). inr there) (holds_cases xs ys c k h)

holds_left : (xs ys : List Held) (c : ℕ) (k : Kept) → Holds c k xs → Holds c k (xs ++ ys)
holds_left [] ys c k h = absurd h
holds_left (x ∷ xs) ys c k (inl h) = inl h
holds_left (x ∷ xs) ys c k (inr h) = inr (holds_left xs ys c k h)

holds_right : (xs ys : List Held) (c : ℕ) (k : Kept) → Holds c k ys → Holds c k (xs ++ ys)
holds_right [] ys c k h = h
holds_right (x ∷ xs) ys c k h = inr (holds_right xs ys c k h)

-- a resting seat has a caller
some_held : (me : Me ℕ View) (shape : Shape) (caller : ℕ) (batches : ℕ) (operated : ℕ) (hand : Scratch) → Rests me shape caller batches operated hand → 1 ≤ length (held_as me.0.kind me.0)
some_held me shape caller batches operated hand r = by me.0.kind refl where
  by : (k : Kind) → me.0.kind ≡ k → 1 ≤ length (held_as k me.0)
  by Maker is = absurd (subst Idles is r.between_calls)
  by Alone is = omega arith
  by Gathered is = let two = r.several is in omega (arith, two)
  by Spent is = absurd (subst Idles is r.between_calls)

module _ (a b w : Me ℕ View) (shape other : Shape) (caller operated : ℕ) (hand : Scratch) (caller' operated' : ℕ) (hand' : Scratch) (batches batches' : ℕ) (ra : Rests a shape caller batches operated hand) (rb : Rests b other caller' batches' operated' hand')
    (kind : w.0.kind ≡ Gathered) (holds : w.0.gathered ≡ held_as a.0.kind a.0 ++ held_as b.0.kind b.0) (whole : IsWhole w.0) where
  all_held : held_as w.0.kind w.0 ≡ held_as a.0.kind a.0 ++ held_as b.0.kind b.0
  all_held = ap (λ (k : Kind). held_as k w.0) kind ∙ holds

  -- what is kept of a caller of either
  of_first : (c : ℕ) (k : Kept) → Holds c k (held_as a.0.kind a.0) → (k.point ≡ Idle) × (mine w.0.seen c ≡ k.mine)
  of_first c k h = let idle = (ra.own c k h).0 in (idle, whole.own c k (subst (Holds c k) (sym holds) (holds_left (held_as a.0.kind a.0) (held_as b.0.kind b.0) c k h)) idle)

  of_second : (c : ℕ) (k : Kept) → Holds c k (held_as b.0.kind b.0) → (k.point ≡ Idle) × (mine w.0.seen c ≡ k.mine)
  of_second c k h = let idle = (rb.own c k h).0 in (idle, whole.own c k (subst (Holds c k) (sym holds) (holds_right (held_as a.0.kind a.0) (held_as b.0.kind b.0) c k h)) idle)

  pub goes_on_first : Begins a.0.seen w.0.seen → (c : ℕ) → Contains (callers_of a.0) c → SawMore c a.0.seen w.0.seen
  goes_on_first begins c among = let k = held_of (held_as a.0.kind a.0) c among in record { more = begins.0; grown = begins.1; own = (of_first c k.0 k.1).1 ∙ sym (ra.own c k.0 k.1).1 }

  pub goes_on_second : Begins b.0.seen w.0.seen → (c : ℕ) → Contains (callers_of b.0) c → SawMore c b.0.seen w.0.seen
  goes_on_second begins c among = let k = held_of (held_as b.0.kind b.0) c among in record { more = begins.0; grown = begins.1; own = (of_second c k.0 k.1).1 ∙ sym (rb.own c k.0 k.1).1 }

  pub rests_gathered : w.0.heard ≡ [] → w.1 ≡ [] → w.0.shape ≡ a.0.shape → Rests w shape caller batches operated hand
  rests_gathered heard slots same = record {
    carries_none = slots;
    heard_none = heard;
    planned = same ∙ ra.planned;
    between_calls = subst Idles (sym kind) tt;
    several = λ _. let all = ap length holds ∙ length-append (held_as a.0.kind a.0) (held_as b.0.kind b.0) in let one = some_held a shape caller batches operated hand ra in let two = some_held b other caller' batches' operated' hand' rb in omega (arith, all, one, two);
    proper = subst (λ (s : Shape). IsProper s.callers w.0.seen) (same ∙ ra.planned) whole.proper;
    never_shut = whole.never_shut;
    own = λ c k h. ⊎_elim (of_first c k) (of_second c k) (holds_cases (held_as a.0.kind a.0) (held_as b.0.kind b.0) c k (subst (Holds c k) all_held h));
    alone = λ is. absurd (apart (sym kind ∙ is));
    reserves = ra.reserves;
  } where
    apart : Gathered ≡ Alone → ⊥
    apart e = cc e
