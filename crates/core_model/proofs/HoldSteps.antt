-- A hold begins at a second load and ends at the caller's own store; and what a scan has read stays right until its end.
use Rattle.std.proofs.Common.{◌≡◌, ◌≢◌, ◌⊎◌, inl, inr, ⊎_elim, ℕ, ◌<◌, Bool, true, false, cond, List, length, sym, refl, ap, ◌∙◌, subst, Some}
use mathlib.Core.Logic.{dite}
use native.Mathlib.Decide.{ℕ_discrete}
use Rattle.bq_model.specs.declared.op.Op.{Op}
use Rattle.node_guard.specs.Pick.{among}
use Rattle.word_rows.specs.declared.content.Content.{Content}
use Rattle.word_rows.specs.declared.content.Content.TheVariants.{OfHead}
use Rattle.word_rows.specs.declared.head_word.HeadWord.TheVariants.{Ann}
use Rattle.word_rows.specs.declared.location.Location.TheVariants.{NodeHazard}
use Rattle.lane_steps.specs.declared.course.Course.{Course}
use Rattle.lane_steps.specs.declared.course.Course.TheVariants as course_is
use Rattle.lane_steps.specs.declared.course.Course.TheVariants.{GoesOn}
use Rattle.lane_steps.specs.declared.kind.StepKind.TheVariants as kind
use Rattle.lane_steps.specs.declared.point.Closing.{Closing}
use Rattle.lane_steps.specs.declared.point.Closing.TheVariants.{Plain, Batch, Full}
use Rattle.lane_steps.specs.declared.point.Guarding.{Guarding}
use Rattle.lane_steps.specs.declared.point.Guarding.TheVariants as guard
use Rattle.lane_steps.specs.declared.point.GuardPoint.{GuardPoint}
use Rattle.lane_steps.specs.declared.point.GuardPoint.TheVariants.{StoreHazard, LoadAgain}
use Rattle.lane_steps.specs.declared.point.ClosePoint.TheVariants as close
use Rattle.lane_steps.specs.declared.point.FillPoint.TheVariants as fill
use Rattle.lane_steps.specs.declared.point.Help.{Help}
use Rattle.lane_steps.specs.declared.point.Notice.{Notice}
use Rattle.lane_steps.specs.declared.point.Hold.{Hold}
use Rattle.lane_steps.specs.declared.point.Hold.TheVariants.{Free, Names, Held}
use Rattle.lane_steps.specs.declared.point.Point.{Point}
use Rattle.lane_steps.specs.declared.point.Point.TheVariants as point
use Rattle.lane_steps.proofs.Origins.{From, comes_from}
use Rattle.lane_steps.specs.Kind.{kind_of}
use Rattle.lane_steps.specs.LaneSizes.{LaneSizes}
use Rattle.lane_steps.specs.Batches.{owner_of}
use Rattle.lane_steps.specs.State.{Caller, State, read, head_in}
use Rattle.lane_steps.specs.Act.{same_content}
use Rattle.lane_steps.specs.Guard.{guarded, hazard, source, expected, held, again}
use Rattle.lane_steps.specs.Step.{ended, history_with, target, course, followed, after, next}
use Rattle.lane_steps.specs.Start.{begun, start}
use Rattle.core_model.specs.Held.{HoldsAnn, BeginsHold, HoldsRow, BeginsRowHold}
use Rattle.core_model.specs.Lawful.{HelpsOwn, Lawful}
use Rattle.core_model.proofs.Puts.{put_here, put_all}
use Rattle.core_model.proofs.Rely.{one_some, fourth}
use Rattle.core_model.proofs.Sames.{same_is}
use Rattle.core_model.proofs.Follows.{holding_these, Somehow, ends_somehow, Keeps, follows_with}
use Rattle.core_model.proofs.Preserves.{Plain as Bare, known, plain_or_own}
use Rattle.core_model.proofs.Lookups.{ann_stands}
use Rattle.core_model.proofs.Alone.{others_stay}
use Rattle.core_model.proofs.Holdings.{held_there, names_its_hold, names_its_row}

-- the start of a command leaves what its caller holds
pub start_leaves : (z : LaneSizes) (s : State) (c d : ℕ) (ops : List Op) → (((start z s c ops).callers d).hold ≡ (s.callers d).hold) × (((start z s c ops).callers d).row_hold ≡ (s.callers d).row_hold)
start_leaves z s c d ops = put_all s.callers c (begun z (length s.history) c (s.callers c) ops) (λ e k. (k.hold ≡ (s.callers e).hold) × (k.row_hold ≡ (s.callers e).row_hold)) (refl, refl) (λ _ _. (refl, refl)) d

-- what follows is with these holds, where the course leaves such
module _ (z : LaneSizes) (n c : ℕ) (k : Caller) (H : Hold → Hold → Type 0) (now : H k.hold k.row_hold) where
  abbrev Has : Caller → Type 0
  Has k' = H k'.hold k'.row_hold

  goes_with : (t : Point) (rows vs ws retired named : List ℕ) (h r : Hold) → H h r → Has (record k { point = t; rows = rows; values = vs; walked = ws; retired = retired; named = named; hold = h; row_hold = r })
  goes_with t rows vs ws retired named h r y = y

  ends_with : (rows vs ws retired named : List ℕ) (h r : Hold) (a : Closing) → H h r → Somehow a → Has (ended n c (holding_these k rows vs ws retired named h r) a)
  ends_with rows vs ws retired named h r (Plain x) y _ = y
  ends_with rows vs ws retired named h r (Batch m) y _ = y
  ends_with rows vs ws retired named h r Full y _ = y

  kept_with : (x : Course) → Keeps z n c k Has H Somehow goes_with ends_with now x → H (followed z n c k x).hold (followed z n c k x).row_hold
  kept_with x y = follows_with z n c k Has H Somehow goes_with ends_with now x y (ends_somehow x)

-- at these points alone the hold of an announcement changes, and at these that of a row
abbrev LeavesAnn : Point → Type 0
LeavesAnn (point.Guard (guard.Help h) p) = ⊥
LeavesAnn (point.Close a close.ClearAnn) = ⊥
LeavesAnn _ = Unit {0}

abbrev LeavesRow : Point → Type 0
LeavesRow (point.Guard (guard.Help h) p) = Unit {0}
LeavesRow (point.Guard t p) = ⊥
LeavesRow (point.Close a close.ClearNode) = ⊥
LeavesRow _ = Unit {0}

module _ (z : LaneSizes) (n c : ℕ) (k : Caller) where
  abbrev SameAnn : Hold → Hold → Type 0
  SameAnn h r = h ≡ k.hold

  abbrev SameRow : Hold → Hold → Type 0
  SameRow h r = r ≡ k.row_hold

  keeps_ann : (x : Course) (t : Point) → From x t → LeavesAnn t → Keeps z n c k (Has z n c k SameAnn refl) SameAnn Somehow (goes_with z n c k SameAnn refl) (ends_with z n c k SameAnn refl) refl x
  keeps_ann (course_is.Guards u h) t f off = absurd (subst LeavesAnn f.2 off)
  keeps_ann (course_is.Holds u h) t f off = refl
  keeps_ann (course_is.ClearsNode a) t f off = refl
  keeps_ann (course_is.ClearsAnn a) t f off = absurd (subst LeavesAnn f off)
  keeps_ann _ t f off = tt

  -- a caller that names no row isn't left its hold
  no_row : (t : Guarding) (p : GuardPoint) → hazard c t ≡ NodeHazard c → LeavesRow (point.Guard t p) → ⊥
  no_row (guard.Help h) _ e off = cc e
  no_row (guard.Enqueue x p) _ e off = off
  no_row (guard.Dequeue p) _ e off = off
  no_row (guard.Many d) _ e off = off
  no_row (guard.ManyTail d p) _ e off = off
  no_row (guard.HelpTail h p) _ e off = off

  keeps_row : (x : Course) (t : Point) → From x t → LeavesRow t → Keeps z n c k (Has z n c k SameRow refl) SameRow Somehow (goes_with z n c k SameRow refl) (ends_with z n c k SameRow refl) refl x
  keeps_row (course_is.Guards u h) t f off = refl
  keeps_row (course_is.Holds u h) t f off = absurd (no_row f.0 f.1 (f.3 c) (subst LeavesRow f.2 off))
  keeps_row (course_is.ClearsNode a) t f off = absurd (subst LeavesRow f off)
  keeps_row (course_is.ClearsAnn a) t f off = refl
  keeps_row _ t f off = tt

  -- elsewhere a step leaves the holds
  ann_left : (t : Point) (x : Content) → LeavesAnn t → (after z n c k t x).hold ≡ k.hold
  ann_left t x off = kept_with z n c k SameAnn refl (course t x) (keeps_ann (course t x) t (comes_from t x) off)

  row_left : (t : Point) (x : Content) → LeavesRow t → (after z n c k t x).row_hold ≡ k.row_hold
  row_left t x off = kept_with z n c k SameRow refl (course t x) (keeps_row (course t x) t (comes_from t x) off)

not_free : (a : ℕ) → Free ≢ Held a
not_free a e = cc e

not_named : (a b : ℕ) → Names b ≢ Held a
not_named a b e = cc e

same_held : (a b : ℕ) → Held b ≡ Held a → b ≡ a
same_held a b e = cc e

module _ (z : LaneSizes) (s : State) (L : Lawful z s) (c : ℕ) where
  abbrev me : Caller
  me = s.callers c

  abbrev found : Point → Content
  found t = read s.memory (target c t)

  -- no announcement is held once the ANN_HAZARD is cleared, nor a row once the NODE_HAZARD is
  abbrev NoAnn : Hold → Hold → Type 0
  NoAnn h r = h ≡ Free

  abbrev NoRow : Hold → Hold → Type 0
  NoRow h r = r ≡ Free

  ann_cleared : (n : ℕ) (x : Closing) → (after z n c me (point.Close x close.ClearAnn) (found (point.Close x close.ClearAnn))).hold ≡ Free
  ann_cleared n x = kept_with z n c (record me { hold = Free }) NoAnn refl (course_is.ClearsAnn x) refl

  row_cleared : (n : ℕ) (x : Closing) → (after z n c me (point.Close x close.ClearNode) (found (point.Close x close.ClearNode))).row_hold ≡ Free
  row_cleared n x = kept_with z n c (record me { row_hold = Free }) NoRow refl (course_is.ClearsNode x) refl

  module _ (a : ℕ) where
    second : (n : ℕ) (h : Help) (b : Bool) → same_content (OfHead s.memory.head) (OfHead (Ann h.ann h.old_head.count)) ≡ b → (s.callers c).point ≡ point.Guard (guard.Help h) LoadAgain
        → (followed z n c (s.callers c) (cond b (course_is.Guards (held (guard.Help h)) (Held h.ann)) (GoesOn (again (guard.Help h))))).hold ≡ Held a → HoldsAnn (s.callers c) a ⊎ BeginsHold s c a
    second n h false _ is e = inl e
    second n h true same is e = inr (h, is, same_held a h.ann e, ap head_in (same_is (OfHead s.memory.head) (OfHead (Ann h.ann h.old_head.count)) same) ∙ ap (λ (x : ℕ). Ann x h.old_head.count) (same_held a h.ann e))

    begins_at : (n : ℕ) (t : Point) → (s.callers c).point ≡ t → HoldsAnn (after z n c (s.callers c) t (read s.memory (target c t))) a → HoldsAnn (s.callers c) a ⊎ BeginsHold s c a
    begins_at n (point.Guard (guard.Help h) StoreHazard) is e = absurd (not_named a h.ann e)
    begins_at n (point.Guard (guard.Help h) LoadAgain) is e = second n h (same_content (OfHead s.memory.head) (OfHead (Ann h.ann h.old_head.count))) refl is e
    begins_at n (point.Close x close.ClearAnn) is e = absurd (not_free a (sym (ann_cleared n x) ∙ e))
    begins_at n t is e = inl (sym (ann_left z n c me t (found t) tt) ∙ e)

    held_on : (n : ℕ) (h : Help) (b : Bool) → h.ann ≡ a → HoldsAnn (s.callers c) a → (followed z n c (s.callers c) (cond b (course_is.Guards (held (guard.Help h)) (Held h.ann)) (GoesOn (again (guard.Help h))))).hold ≡ Held a
    held_on n h true named e = ap Held named
    held_on n h false named e = e

    ends_at : (n : ℕ) (t : Point) → (s.callers c).point ≡ t → HoldsAnn (s.callers c) a → HoldsAnn (after z n c (s.callers c) t (read s.memory (target c t))) a ⊎ (kind_of t ≡ Some kind.StoreAnnHazard)
    ends_at n (point.Guard (guard.Help h) StoreHazard) is e = inr refl
    ends_at n (point.Close x close.ClearAnn) is e = inr refl
    ends_at n (point.Guard (guard.Help h) LoadAgain) is e = inl (held_on n h (same_content (OfHead s.memory.head) (OfHead (Ann h.ann h.old_head.count))) (one_some (sym (known z s L c (point.Guard (guard.Help h) LoadAgain) is).here.0 ∙ names_its_hold z s L c a e)) e)
    ends_at n t is e = inl (ann_left z n c me t (found t) tt ∙ e)

  -- the same of rows
  module _ (r : ℕ) where
    row_second : (n : ℕ) (t : Guarding) (b : Bool) → hazard c t ≡ NodeHazard c → same_content (read s.memory (source t)) (expected t) ≡ b → (s.callers c).point ≡ point.Guard t LoadAgain
        → (followed z n c (s.callers c) (cond b (course_is.Holds (held t) (Held (guarded t))) (GoesOn (again t)))).row_hold ≡ Held r → HoldsRow (s.callers c) r ⊎ BeginsRowHold s c r
    row_second n t false _ _ is e = inl e
    row_second n t true row same is e = inr (t, is, row, same_held r (guarded t) e, same_is (read s.memory (source t)) (expected t) same)

    row_begins_at : (n : ℕ) (t : Point) → (s.callers c).point ≡ t → HoldsRow (after z n c (s.callers c) t (read s.memory (target c t))) r → HoldsRow (s.callers c) r ⊎ BeginsRowHold s c r
    row_begins_at n (point.Guard (guard.Enqueue x p) StoreHazard) is e = absurd (not_named r p.row e)
    row_begins_at n (point.Guard (guard.Dequeue p) StoreHazard) is e = absurd (not_named r p.row e)
    row_begins_at n (point.Guard (guard.Many d) StoreHazard) is e = absurd (not_named r d.notice.old_head.row e)
    row_begins_at n (point.Guard (guard.ManyTail d p) StoreHazard) is e = absurd (not_named r p.row e)
    row_begins_at n (point.Guard (guard.HelpTail h p) StoreHazard) is e = absurd (not_named r p.row e)
    row_begins_at n (point.Guard (guard.Enqueue x p) LoadAgain) is e = row_second n (guard.Enqueue x p) _ refl refl is e
    row_begins_at n (point.Guard (guard.Dequeue p) LoadAgain) is e = row_second n (guard.Dequeue p) _ refl refl is e
    row_begins_at n (point.Guard (guard.Many d) LoadAgain) is e = row_second n (guard.Many d) _ refl refl is e
    row_begins_at n (point.Guard (guard.ManyTail d p) LoadAgain) is e = row_second n (guard.ManyTail d p) _ refl refl is e
    row_begins_at n (point.Guard (guard.HelpTail h p) LoadAgain) is e = row_second n (guard.HelpTail h p) _ refl refl is e
    row_begins_at n (point.Close x close.ClearNode) is e = absurd (not_free r (sym (row_cleared n x) ∙ e))
    row_begins_at n t is e = inl (sym (row_left z n c me t (found t) tt) ∙ e)

    row_held_on : (n : ℕ) (t : Guarding) (b : Bool) → s.memory.node_hazard c ≡ Some (guarded t) → HoldsRow (s.callers c) r → (followed z n c (s.callers c) (cond b (course_is.Holds (held t) (Held (guarded t))) (GoesOn (again t)))).row_hold ≡ Held r
    row_held_on n t true names e = ap Held (one_some (sym names ∙ names_its_row z s L c r e))
    row_held_on n t false names e = e

    row_ends_at : (n : ℕ) (t : Point) → (s.callers c).point ≡ t → HoldsRow (s.callers c) r → HoldsRow (after z n c (s.callers c) t (read s.memory (target c t))) r ⊎ (kind_of t ≡ Some kind.StoreNodeHazard)
    row_ends_at n (point.Guard (guard.Enqueue x p) StoreHazard) is e = inr refl
    row_ends_at n (point.Guard (guard.Dequeue p) StoreHazard) is e = inr refl
    row_ends_at n (point.Guard (guard.Many d) StoreHazard) is e = inr refl
    row_ends_at n (point.Guard (guard.ManyTail d p) StoreHazard) is e = inr refl
    row_ends_at n (point.Guard (guard.HelpTail h p) StoreHazard) is e = inr refl
    row_ends_at n (point.Close x close.ClearNode) is e = inr refl
    row_ends_at n (point.Guard (guard.Enqueue x p) LoadAgain) is e = inl (row_held_on n (guard.Enqueue x p) _ (known z s L c (point.Guard (guard.Enqueue x p) LoadAgain) is).here.0 e)
    row_ends_at n (point.Guard (guard.Dequeue p) LoadAgain) is e = inl (row_held_on n (guard.Dequeue p) _ (known z s L c (point.Guard (guard.Dequeue p) LoadAgain) is).here.0 e)
    row_ends_at n (point.Guard (guard.Many d) LoadAgain) is e = inl (row_held_on n (guard.Many d) _ (known z s L c (point.Guard (guard.Many d) LoadAgain) is).here.0 e)
    row_ends_at n (point.Guard (guard.ManyTail d p) LoadAgain) is e = inl (row_held_on n (guard.ManyTail d p) _ (known z s L c (point.Guard (guard.ManyTail d p) LoadAgain) is).here.0 e)
    row_ends_at n (point.Guard (guard.HelpTail h p) LoadAgain) is e = inl (row_held_on n (guard.HelpTail h p) _ (known z s L c (point.Guard (guard.HelpTail h p) LoadAgain) is).here.0 e)
    row_ends_at n t is e = inl (row_left z n c me t (found t) tt ∙ e)

  abbrev groups : ℕ
  groups = length (history_with z s c (s.callers c).point (read s.memory (target c (s.callers c).point)))

  abbrev stepped_on : Caller
  stepped_on = after z groups c (s.callers c) (s.callers c).point (read s.memory (target c (s.callers c).point))

  -- a hold begins at the second load alone
  pub hold_begins : (a : ℕ) → HoldsAnn ((next z s c).callers c) a → HoldsAnn (s.callers c) a ⊎ BeginsHold s c a
  unfolding next
  hold_begins a e = begins_at a groups me.point refl (sym (ap (λ (k : Caller). k.hold) (put_here s.callers c stepped_on)) ∙ e)

  pub row_hold_begins : (r : ℕ) → HoldsRow ((next z s c).callers c) r → HoldsRow (s.callers c) r ⊎ BeginsRowHold s c r
  unfolding next
  row_hold_begins r e = row_begins_at r groups me.point refl (sym (ap (λ (k : Caller). k.row_hold) (put_here s.callers c stepped_on)) ∙ e)

  -- and ends at the caller's own store alone
  pub hold_ends : (a : ℕ) → HoldsAnn (s.callers c) a → HoldsAnn ((next z s c).callers c) a ⊎ (kind_of (s.callers c).point ≡ Some kind.StoreAnnHazard)
  unfolding next
  hold_ends a e = ⊎_elim (λ (x : HoldsAnn stepped_on a). inl (ap (λ (k : Caller). k.hold) (put_here s.callers c stepped_on) ∙ x)) (λ (x : kind_of me.point ≡ Some kind.StoreAnnHazard). inr x) (ends_at a groups me.point refl e)

  pub row_hold_ends : (r : ℕ) → HoldsRow (s.callers c) r → HoldsRow ((next z s c).callers c) r ⊎ (kind_of (s.callers c).point ≡ Some kind.StoreNodeHazard)
  unfolding next
  row_hold_ends r e = ⊎_elim (λ (x : HoldsRow stepped_on r). inl (ap (λ (k : Caller). k.row_hold) (put_here s.callers c stepped_on) ∙ x)) (λ (x : kind_of me.point ≡ Some kind.StoreNodeHazard). inr x) (row_ends_at r groups me.point refl e)

  -- whose word it read holds no own announcement but those that it found named
  pub scan_says : (n : Notice) (d e a : ℕ) → (s.callers c).point ≡ point.Fill n (fill.LoadHazard e) → d < e → d ≢ c → owner_of z a ≡ c → among (s.callers c).named a ≡ false → HoldsAnn (s.callers d) a → ⊥
  scan_says n d e a is below other own off held = (fourth (known z s L c (point.Fill n (fill.LoadHazard e)) is).here).unheld d a below other own off (held_there z s L d a held)

  -- the word that it reads names what that caller holds
  pub scan_reads : (d a : ℕ) → s.memory.ann_hazard d ≢ Some a → HoldsAnn (s.callers d) a → ⊥
  scan_reads d a other held = other (names_its_hold z s L d a held)

-- and nobody comes to hold an announcement of a caller that hasn't installed one
pub none_begins : (z : LaneSizes) (s : State) (L : Lawful z s) (c d e a : ℕ) → (HelpsOwn (s.callers c).point → ⊥) → owner_of z a ≡ c → (HoldsAnn (s.callers d) a → ⊥) → HoldsAnn ((next z s e).callers d) a → ⊥
none_begins z s L c d e a not_own own unheld held = dite (ℕ_discrete d e)
    (λ same. ⊎_elim (λ (old : HoldsAnn (s.callers e) a). unheld (subst (λ (i : ℕ). HoldsAnn (s.callers i) a) (sym same) old))
    (λ (new : BeginsHold s e a). ⊎_elim (λ (plain : Bare z L.ghost c). plain a (ann_stands z s L c a new.0.old_head.count new.3) own) not_own (plain_or_own z s L c (s.callers c) (s.callers c).point (known z s L c (s.callers c).point refl)))
    (hold_begins z s L e a (subst (λ (i : ℕ). HoldsAnn ((next z s e).callers i) a) same held)))
    (λ apart. unheld (ap (λ (k : Caller). k.hold) (sym (others_stay z s e d apart)) ∙ held))
