-- What a step can change for others: the world goes on, and what was linked, decided or installed stays so.
use Rattle.std.proofs.Common.{◌≡◌, ◌≢◌, ◌⊎◌, ℕ, suc, ◌<◌, ◌≤◌, true, false, List, ◌++◌, sym, ap, ◌∙◌, inl, Option, Some, None}
use Rattle.bq_model.specs.declared.group.Group.{Group}
use Rattle.word_rows.specs.declared.place.Place.{Place}
use Rattle.lane_steps.specs.declared.point.Notice.{Notice}
use Rattle.lane_steps.specs.LaneSizes.{LaneSizes}
use Rattle.lane_steps.specs.Batches.{owner_of}
use Rattle.lane_steps.specs.State.{State}
use Rattle.core_model.specs.Ghost.{Stage, unused, waiting, decided, owes, paid, Ghost, World, positions, Unlinked, LinkAt, On, RetiredBy, Installed}

-- the third, the fourth and the fifth of the facts in a list
abbrev pub third : {A B C D : Type 0} → A × (B × (C × D)) → C
third f = f.1.1.0

abbrev pub fourth : {A B C D E : Type 0} → A × (B × (C × (D × E))) → D
fourth f = f.1.1.1.0

abbrev pub fifth : {A B C D E F : Type 0} → A × (B × (C × (D × (E × F)))) → E
fifth f = f.1.1.1.1.0

-- a state with what its words don't say
abbrev pub world : State → Ghost → World
world s g = record { memory = s.memory; history = s.history; ghost = g }

-- the stages differ
pub unused_waits : {s : Stage} → s ≡ unused → s ≡ waiting → ⊥
unused_waits e f = never (sym e ∙ f) where
  never : unused ≡ waiting → ⊥
  never e = cc e

pub unused_decides : {s : Stage} {i : ℕ} → s ≡ unused → s ≡ decided i → ⊥
unused_decides {i = i} e f = never (sym e ∙ f) where
  never : unused ≡ decided i → ⊥
  never e = cc e

pub waits_decides : {s : Stage} {i : ℕ} → s ≡ waiting → s ≡ decided i → ⊥
waits_decides {i = i} e f = never (sym e ∙ f) where
  never : waiting ≡ decided i → ⊥
  never e = cc e

pub one_position : {s : Stage} {i j : ℕ} → s ≡ decided i → s ≡ decided j → i ≡ j
one_position {i = i} {j = j} e f = same (sym e ∙ f) where
  same : decided i ≡ decided j → i ≡ j
  same e = cc e

pub true_false : true ≡ false → ⊥
true_false e = cc e

pub one_some : {A : Type 0} {i j : A} → Some i ≡ Some j → i ≡ j
one_some e = cc e

pub some_none : {A : Type 0} {i : A} → Some i ≡ None → ⊥
some_none e = cc e

-- Announcements go on, from waiting to decided. One is decided as rows are linked, or it tells that none are, and the command
-- of its owner takes effect.
pub record AnnRely (z : LaneSizes) (a b : World) : Type 0 where
  pub installed : (x : ℕ) → Installed a x → Installed b x
  pub waited : (x : ℕ) → b.ghost.stage x ≡ waiting → Installed a x → a.ghost.stage x ≡ waiting
  pub done : (x i : ℕ) → a.ghost.stage x ≡ decided i → b.ghost.stage x ≡ decided i
  pub decides : (x i : ℕ) → Installed a x → b.ghost.stage x ≡ decided i
      → (a.ghost.stage x ≡ decided i) ⊎ (((positions a.ghost < positions b.ghost) ⊎ (b.ghost.span x ≡ 0)) × (a.ghost.linearized (owner_of z x) ≡ false) × (b.ghost.linearized (owner_of z x) ≡ true))
  pub span_same : (x i : ℕ) → a.ghost.stage x ≡ decided i → b.ghost.span x ≡ a.ghost.span x
  pub notice_same : (x : ℕ) → Installed a x → b.memory.notice x ≡ a.memory.notice x
  pub old_same : (x : ℕ) (q : Place) → Installed a x → a.memory.old_tail x ≡ Some q → b.memory.old_tail x ≡ Some q
  -- what stands in HEAD stood there, or is installed by the step
  pub stood : (x : ℕ) → b.ghost.ann ≡ Some x
      → ((a.ghost.ann ≡ Some x) × (b.ghost.head ≡ a.ghost.head) × ((i : ℕ) → a.ghost.stage x ≡ decided i → b.ghost.shown ≡ a.ghost.shown))
      ⊎ ((a.ghost.stage x ≡ unused) × (b.ghost.stage x ≡ waiting))

-- the stages are the same, and what stands stood
pub anns_moved : (z : LaneSizes) (a b : World) → b.ghost.stage ≡ a.ghost.stage → b.ghost.span ≡ a.ghost.span → ((x : ℕ) → Installed a x → b.memory.notice x ≡ a.memory.notice x)
    → ((x : ℕ) (q : Place) → Installed a x → a.memory.old_tail x ≡ Some q → b.memory.old_tail x ≡ Some q)
    → ((x : ℕ) → b.ghost.ann ≡ Some x → (a.ghost.ann ≡ Some x) × (b.ghost.head ≡ a.ghost.head) × (b.ghost.shown ≡ a.ghost.shown)) → AnnRely z a b
anns_moved z a b stage span notice old stood = record {
  installed = λ x i e. i (sym (ap (λ (f : ℕ → Stage). f x) stage) ∙ e);
  waited = λ x e _. sym (ap (λ (f : ℕ → Stage). f x) stage) ∙ e;
  done = λ x i e. ap (λ (f : ℕ → Stage). f x) stage ∙ e;
  decides = λ x i _ e. inl (sym (ap (λ (f : ℕ → Stage). f x) stage) ∙ e);
  span_same = λ x _ _. ap (λ (f : ℕ → ℕ). f x) span;
  notice_same = notice;
  old_same = old;
  stood = λ x e. let s = stood x e in inl (s.0, s.1, λ _ _. s.2);
}

pub anns_same : (z : LaneSizes) (a b : World) → b.ghost.stage ≡ a.ghost.stage → b.ghost.span ≡ a.ghost.span → b.memory.notice ≡ a.memory.notice → b.memory.old_tail ≡ a.memory.old_tail
    → b.ghost.ann ≡ a.ghost.ann → b.ghost.head ≡ a.ghost.head → b.ghost.shown ≡ a.ghost.shown → AnnRely z a b
anns_same z a b stage span notice old ann head shown = anns_moved z a b stage span (λ x _. ap (λ (f : ℕ → Notice). f x) notice) (λ x q _ e. ap (λ (f : ℕ → Option Place). f x) old ∙ e) (λ x e. (sym ann ∙ e, head, shown))

-- the row r at the position i was retired, nobody holds it, and it is free now
pub record LetGo (a b : World) (r i : ℕ) : Type 0 where
  pub unheld : (d : ℕ) → a.ghost.row_held d ≢ Some r
  pub was_read : a.ghost.reader i ≡ paid
  pub was_passed : a.ghost.passer i ≡ paid
  pub free : (b.memory.mark r).free ≡ true
  pub gone : b.ghost.spot r ≡ None

-- A row keeps its position, or is let go. A hold begins at a row of the list.
pub record RowRely (a b : World) : Type 0 where
  pub spots : (r i : ℕ) → a.ghost.spot r ≡ Some i → (b.ghost.spot r ≡ Some i) ⊎ LetGo a b r i
  pub held_new : (d r : ℕ) → b.ghost.row_held d ≡ Some r → (a.ghost.row_held d ≡ Some r) ⊎ ((i : ℕ) × (a.ghost.spot r ≡ Some i) × (a.ghost.head ≤ i))

-- positions and holds are the same
pub rows_same : (a b : World) → ((r i : ℕ) → a.ghost.spot r ≡ Some i → b.ghost.spot r ≡ Some i) → b.ghost.row_held ≡ a.ghost.row_held → RowRely a b
rows_same a b spots held = record {
  spots = λ r i at. inl (spots r i at);
  held_new = λ d r e. inl (sym (ap (λ (f : ℕ → Option ℕ). f d) held) ∙ e);
}

-- What a step leaves of the marks to set and the retired rows of caller d, where it may give it marks to set.
pub record Near (a b : World) (d : ℕ) : Type 0 where
  pub reads : (i : ℕ) → a.ghost.reader i ≡ owes d → b.ghost.reader i ≡ owes d
  pub passes : (i : ℕ) → a.ghost.passer i ≡ owes d → b.ghost.passer i ≡ owes d
  pub retired : (r i : ℕ) → RetiredBy a d r i → RetiredBy b d r i
  pub no_retired : (r i : ℕ) → RetiredBy b d r i → RetiredBy a d r i

-- the same, where it gives it none
pub record NoDebts (a b : World) (d : ℕ) : Type 0 where
  pub near : Near a b d
  pub no_reads : (i : ℕ) → b.ghost.reader i ≡ owes d → a.ghost.reader i ≡ owes d
  pub no_passes : (i : ℕ) → b.ghost.passer i ≡ owes d → a.ghost.passer i ≡ owes d

-- what caller d wrote of an own announcement that it didn't install
abbrev pub Drafts : LaneSizes → World → World → ℕ → Type 0
Drafts z a b d = (x : ℕ) → owner_of z x ≡ d → a.ghost.stage x ≡ unused
    → (b.ghost.stage x ≡ unused) × (b.memory.notice x ≡ a.memory.notice x) × (b.memory.old_tail x ≡ a.memory.old_tail x)

-- The world a goes on as b, by a step that touches only those unlinked rows for which Touch holds.
pub record Rely (z : LaneSizes) (Touch : ℕ → Type 0) (a b : World) : Type 0 where
  pub longer : positions a.ghost ≤ positions b.ghost
  pub heads : a.ghost.head ≤ b.ghost.head
  pub tails : a.ghost.tail ≤ b.ghost.tail
  pub path_same : (i : ℕ) → i < positions a.ghost → b.ghost.path i ≡ a.ghost.path i
  pub chained_same : (i : ℕ) → suc i < positions a.ghost → b.ghost.chained i ≡ a.ghost.chained i
  pub spot_own : (r : ℕ) → Unlinked a r → ¬ (Touch r) → Unlinked b r
  pub rows : RowRely a b
  pub on_same : (i r : ℕ) → On a i r → b.ghost.spot r ≡ Some i → LinkAt b i r × (b.memory.value r ≡ a.memory.value r)
  pub link_own : (r : ℕ) → Unlinked a r → ¬ (Touch r) → b.memory.link r ≡ a.memory.link r
  pub value_own : (r : ℕ) → Unlinked a r → ¬ (Touch r) → b.memory.value r ≡ a.memory.value r
  pub mark_own : (r : ℕ) → Unlinked a r → ¬ (Touch r) → b.memory.mark r ≡ a.memory.mark r
  pub value_path : (i : ℕ) → a.ghost.head ≤ i → i < positions a.ghost → b.memory.value (a.ghost.path i) ≡ a.memory.value (a.ghost.path i)
  pub anns : AnnRely z a b
  -- who comes to hold an announcement finds it in HEAD
  pub holds : (d x : ℕ) → b.ghost.held d ≡ Some x → (a.ghost.held d ≡ Some x) ⊎ (a.ghost.ann ≡ Some x)
  pub more : (new : List Group) × (b.history ≡ a.history ++ new)
