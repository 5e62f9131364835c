-- Each row of a lawful lane is used in one way, and in one alone.
use Rattle.std.proofs.Common.{◌≡◌, ◌≢◌, ◌⊎◌, inl, inr, ⊎_elim, ℕ, ◌+◌, ◌<◌, Bool, true, false, List, [], ◌∷◌, sym, refl, ap, ◌∙◌, arith, Option, Some, None}
use mathlib.Core.Logic.{dite}
use native.Mathlib.Decide.{dec_le}
use Rattle.bq_model.specs.declared.group.Group.{Group}
use Rattle.node_guard.specs.Pick.{among}
use Rattle.word_rows.specs.declared.marks.Marks.{Marks}
use Rattle.lane_steps.specs.declared.point.Back.{Back}
use Rattle.lane_steps.specs.declared.point.Back.TheVariants as back
use Rattle.lane_steps.specs.declared.point.AnswerPoint.TheVariants as answer
use Rattle.lane_steps.specs.declared.point.ClosePoint.TheVariants as close
use Rattle.lane_steps.specs.declared.point.FillPoint.TheVariants as fill
use Rattle.lane_steps.specs.declared.point.Guarding.{Guarding}
use Rattle.lane_steps.specs.declared.point.Guarding.TheVariants as guard
use Rattle.lane_steps.specs.declared.point.Point.{Point}
use Rattle.lane_steps.specs.declared.point.Point.TheVariants.{Idle}
use Rattle.lane_steps.specs.declared.point.Point.TheVariants as point
use Rattle.lane_steps.specs.LaneSizes.{LaneSizes}
use Rattle.lane_steps.specs.State.{Caller, Command, command, State, both_marks}
use Rattle.lane_steps.specs.Help.{back_facts}
use Rattle.lane_steps.specs.Guard as guarding
use Rattle.lane_steps.specs.Step.{rows_left}
use Rattle.core_model.specs.Ghost.{Stage, unused, waiting, decided, Due, due, owes, paid, is_paid, Owed}
use Rattle.core_model.specs.Rows.{Takes, Retires}
use Rattle.core_model.specs.Facts.{Each, AtPoint, TakesEffect}
use Rattle.core_model.specs.Lawful.{Lawful}
use Rattle.lane_steps.specs.Step.{next}
use Rattle.core_model.specs.Held.{RowUntouched}
use Rattle.core_model.proofs.HeldRows.{placed_row_is_left}
use Rattle.core_model.specs.Uses.{taken_behind, taken_beside, taken_at, Use, free, taken, listed, lacking, retired, IsListed, LacksMark, IsRetiredBy, IsUsed}
use Rattle.core_model.proofs.Rely.{world, true_false, one_some, some_none, fourth}
use Rattle.core_model.proofs.Lists.{among_none}
use Rattle.core_model.proofs.Preserves.{known}

-- in the order in which a row comes to these
abbrev IsEarlier : Use → Use → Type 0
IsEarlier free free = ⊥
IsEarlier free _ = Unit {0}
IsEarlier taken free = ⊥
IsEarlier taken taken = ⊥
IsEarlier taken _ = Unit {0}
IsEarlier listed lacking = Unit {0}
IsEarlier listed (retired c) = Unit {0}
IsEarlier listed _ = ⊥
IsEarlier lacking (retired c) = Unit {0}
IsEarlier lacking _ = ⊥
IsEarlier (retired c) _ = ⊥

module _ (z : LaneSizes) (s : State) (L : Lawful z s) where
  -- what a call has taken and not linked it takes
  module _ (c r : ℕ) (home : z.home r ≡ c) (none : L.ghost.spot r ≡ None) (kept : (s.memory.mark r).free ≡ false) (unmarked : s.memory.mark r ≢ both_marks) where
    in_rows : (rows : List ℕ) → Takes z (world s L.ghost) c rows → among rows r ≡ true
    in_rows rows takes = takes r home none kept unmarked

    no_rows : {A : Type 0} → Takes z (world s L.ghost) c [] → A
    no_rows takes = absurd (among_none r (in_rows [] takes))

    left_rows : (b : Bool) (rows : List ℕ) → Takes z (world s L.ghost) c (rows_left b rows) → among rows r ≡ true
    left_rows true rows takes = no_rows takes
    left_rows false rows takes = in_rows rows takes

    -- of an own announcement, which waits or is decided
    by_effect : (a n : ℕ) (rows : List ℕ) (own : Group) → TakesEffect z (world s L.ghost) c a rows n own → among rows r ≡ true
    by_effect a n rows own x = by (L.ghost.stage a) refl where
      by : (t : Stage) → L.ghost.stage a ≡ t → among rows r ≡ true
      by unused e = absurd (x.installed e)
      by waiting e = in_rows rows (x.takes e).0
      by (decided i) e = left_rows _ rows (x.stands i e).taken

    behind_it : (m : Command) (a : ℕ) (b : Back) → Each z (world s L.ghost) c (back_facts c m a b) → among (taken_behind b m.rows) r ≡ true
    behind_it m a back.Own f = by_effect a m.started_at m.rows _ f.0
    behind_it m a (back.Enqueue x) f = in_rows (x.row ∷ []) f.0.3
    behind_it m a back.Dequeue f = no_rows f.0.3
    behind_it m a (back.Batch d) f = in_rows m.rows f.0.3
    behind_it m a (back.Many d) f = in_rows m.rows f.1.0.3

    beside_it : (k : Caller) (t : Guarding) → Each z (world s L.ghost) c (guarding.call_knows c k t) → among (taken_beside t k.rows) r ≡ true
    beside_it k (guard.Enqueue x p) f = in_rows (x.row ∷ []) f.0.3
    beside_it k (guard.Dequeue p) f = no_rows f.0.3
    beside_it k (guard.Many d) f = in_rows k.rows f.0.3
    beside_it k (guard.ManyTail d p) f = in_rows k.rows f.0.3
    beside_it k (guard.Help h) f = behind_it (command k) h.ann h.back f.1
    beside_it k (guard.HelpTail h p) f = behind_it (command k) h.ann h.back f.1

    at_it : (k : Caller) (t : Point) → AtPoint z (world s L.ghost) c k t → among (taken_at t k.rows) r ≡ true
    at_it k Idle f = in_rows [] f.call.0.3
    at_it k (point.Enqueue x p) f = in_rows _ f.call.0.3
    at_it k (point.Dequeue p) f = no_rows f.call.0.3
    at_it k (point.Take t p) f = in_rows _ f.call.0.3
    at_it k (point.Guard t p) f = beside_it k t f.call
    at_it k (point.Fill n (fill.StoreValue q v)) f = in_rows (q ∷ k.rows) f.here.0.3
    at_it k (point.Fill n (fill.StoreChain i q y)) f = in_rows k.rows f.here.0.3
    at_it k (point.Fill n (fill.LoadHazard e)) f = in_rows k.rows f.here.0.3
    at_it k (point.Batch d p) f = in_rows k.rows f.call.0.3
    at_it k (point.Many d p) f = in_rows k.rows f.call.0.3
    at_it k (point.Help h p) f = behind_it (command k) h.ann h.back f.call.1
    at_it k (point.Answer (answer.LoadOldTail h)) f = by_effect h.ann k.started_at k.rows _ (fourth f.here)
    at_it k (point.Answer (answer.LoadLink b q l)) f = in_rows k.rows f.here.0.3
    at_it k (point.Answer (answer.LoadValue b q l)) f = in_rows k.rows f.here.0.3
    at_it k (point.Close a (close.MarkRow q read passed stopped)) f = in_rows k.rows f.call.0.3
    at_it k (point.Close a (close.MarkLoose q)) f = in_rows (q ∷ k.rows) f.call.0.3
    at_it k (point.Close a close.ClearNode) f = no_rows f.call.0.3
    at_it k (point.Close a close.ClearAnn) f = no_rows f.call.0.3
    at_it k (point.Close a (close.LoadHazard d)) f = no_rows f.call.0.3
    at_it k (point.Close a (close.MarkFree q)) f = no_rows f.call.0.3

  module _ (r : ℕ) (inside : r < z.rows) where
    -- both marks are set, or not
    both_or_not : (m : Marks) → m.free ≡ false → (m ≡ both_marks) ⊎ (m ≢ both_marks)
    both_or_not m kept = by m.read m.passed refl refl where
      by : (a b : Bool) → m.read ≡ a → m.passed ≡ b → (m ≡ both_marks) ⊎ (m ≢ both_marks)
      by true true read passed = inl (λ i. record { read = read i; passed = passed i; free = kept i })
      by false b read _ = inr (λ e. true_false (sym (ap (λ (y : Marks). y.read) e) ∙ read))
      by true false _ passed = inr (λ e. true_false (sym (ap (λ (y : Marks). y.passed) e) ∙ passed))

    abbrev used : Use → Type 0
    used u = IsUsed z s L.ghost r u

    -- who has a mark to set makes a call
    owes_running : (i d : ℕ) → Owed (world s L.ghost) d i → (s.callers d).point ≢ Idle
    owes_running i d owed idle = let debts = (known z s L d Idle idle).call.0.4 in ⊎_elim (λ (e : L.ghost.reader i ≡ owes d). among_none (z.first + i) (debts.unread i e)) (λ (e : L.ghost.passer i ≡ owes d). among_none (z.first + i) (debts.passes i e)) owed

    unset : (d : Due) (c : ℕ) → d ≡ owes c → is_paid d ≡ false
    unset d c e = ap is_paid e

    retired_by : (c : ℕ) → Retires z (world s L.ghost) c r → s.memory.mark r ≡ both_marks → (u : Use) × used u
    retired_by c x marks = (retired c, record { listed = (L.callers c).knows.retired.all r x; marks = marks })

    unlinked : L.ghost.spot r ≡ None → (b : Bool) → (s.memory.mark r).free ≡ b → (u : Use) × used u
    unlinked none true is = (free, is)
    unlinked none false is = ⊎_elim
        (λ (both : s.memory.mark r ≡ both_marks). retired_by (z.home r) (inr (record { at_home = refl; inside = inside; unlinked = none; marks = both })) both)
        (λ (not_both : s.memory.mark r ≢ both_marks). (taken, record { unlinked = none; kept = is; unmarked = not_both; taken = at_it (z.home r) r refl none is not_both (s.callers (z.home r)) (s.callers (z.home r)).point (known z s L (z.home r) (s.callers (z.home r)).point refl) }))
        (both_or_not (s.memory.mark r) is)

    -- before the dummy
    passed_by : (i : ℕ) → L.ghost.spot r ≡ Some i → i < L.ghost.head → (a b : Due) → L.ghost.reader i ≡ a → L.ghost.passer i ≡ b → (u : Use) × used u
    passed_by i at early due b read _ = absurd (L.marks.was_read i (omega arith) read)
    passed_by i at early (owes d) b read _ = (lacking, record { position = i; spot = at; before = early; marker = d; running = owes_running i d (inl read); lacks = inl (read, L.marks.read r i at ∙ unset (L.ghost.reader i) d read) })
    passed_by i at early paid due _ pass = absurd (L.marks.was_passed i (omega arith) pass)
    passed_by i at early paid (owes d) _ pass = (lacking, record { position = i; spot = at; before = early; marker = d; running = owes_running i d (inr pass); lacks = inr (pass, L.marks.passed r i at ∙ unset (L.ghost.passer i) d pass) })
    passed_by i at early paid paid read pass = retired_by (L.ghost.keeper i) (inl (i, record { spot = at; before = early; was_read = read; was_passed = pass; kept = refl }))
        (λ j. record { read = (L.marks.read r i at ∙ ap is_paid read) j; passed = (L.marks.passed r i at ∙ ap is_paid pass) j; free = L.marks.kept r i at j })

    -- each row has a use
    use_of : (u : Use) × used u
    use_of = by (L.ghost.spot r) refl where
      by : (o : Option ℕ) → L.ghost.spot r ≡ o → (u : Use) × used u
      by None none = unlinked none (s.memory.mark r).free refl
      by (Some i) at = let p = L.list.rows.placed r i at in dite (dec_le L.ghost.head i)
          (λ from. (listed, record { position = i; spot = at; row = p.1; from = from; inside = p.0 }))
          (λ early. passed_by i at (omega arith) (L.ghost.reader i) (L.ghost.passer i) refl refl)

    -- and one alone
    free_linked : (i : ℕ) → L.ghost.spot r ≡ Some i → (s.memory.mark r).free ≡ true → ⊥
    free_linked i at is = true_false (sym is ∙ L.marks.kept r i at)

    retired_is : (c : ℕ) → IsRetiredBy z s L.ghost r c → Retires z (world s L.ghost) c r
    retired_is c x = (L.callers c).knows.retired.each r x.listed

    retired_early : (c i : ℕ) → Retires z (world s L.ghost) c r → L.ghost.spot r ≡ Some i → (i < L.ghost.head) × (L.ghost.keeper i ≡ c)
    retired_early c i (inl (j, x)) at = let same = one_some (sym x.spot ∙ at) in let before = x.before in (omega arith, ap L.ghost.keeper (sym same) ∙ x.kept)
    retired_early c i (inr l) at = absurd (some_none (sym at ∙ l.unlinked))

    one_retires : (c d : ℕ) → Retires z (world s L.ghost) c r → Retires z (world s L.ghost) d r → d ≡ c
    one_retires c d (inl (i, x)) y = sym (retired_early d i y x.spot).1 ∙ x.kept
    one_retires c d (inr l) (inl (i, y)) = absurd (some_none (sym y.spot ∙ l.unlinked))
    one_retires c d (inr l) (inr k) = sym k.at_home ∙ l.at_home

    lacks_one : LacksMark z s L.ghost r → s.memory.mark r ≡ both_marks → ⊥
    lacks_one x both = ⊎_elim (λ (y : (L.ghost.reader x.position ≡ owes x.marker) × ((s.memory.mark r).read ≡ false)). true_false (sym (ap (λ (m : Marks). m.read) both) ∙ y.1))
        (λ (y : (L.ghost.passer x.position ≡ owes x.marker) × ((s.memory.mark r).passed ≡ false)). true_false (sym (ap (λ (m : Marks). m.passed) both) ∙ y.1)) x.lacks

    apart : (u v : Use) → IsEarlier u v → used u → used v → ⊥
    apart free taken _ x y = true_false (sym x ∙ y.kept)
    apart free listed _ x y = free_linked y.position y.spot x
    apart free lacking _ x y = free_linked y.position y.spot x
    apart free (retired c) _ x y = true_false (sym x ∙ ap (λ (m : Marks). m.free) y.marks)
    apart taken listed _ x y = some_none (sym y.spot ∙ x.unlinked)
    apart taken lacking _ x y = some_none (sym y.spot ∙ x.unlinked)
    apart taken (retired c) _ x y = x.unmarked y.marks
    apart listed lacking _ x y = let same = one_some (sym x.spot ∙ y.spot) in let from = x.from in let before = y.before in omega arith
    apart listed (retired c) _ x y = let early = (retired_early c x.position (retired_is c y) x.spot).0 in let from = x.from in omega arith
    apart lacking (retired c) _ x y = lacks_one x y.marks
    apart _ _ never x y = absurd never

    only_one : (u v : Use) → used u → used v → v ≡ u
    only_one free free x y = refl
    only_one taken taken x y = refl
    only_one listed listed x y = refl
    only_one lacking lacking x y = refl
    only_one (retired c) (retired d) x y = ap retired (one_retires c d (retired_is c x) (retired_is d y))
    only_one free taken x y = absurd (apart free taken tt x y)
    only_one free listed x y = absurd (apart free listed tt x y)
    only_one free lacking x y = absurd (apart free lacking tt x y)
    only_one free (retired c) x y = absurd (apart free (retired c) tt x y)
    only_one taken listed x y = absurd (apart taken listed tt x y)
    only_one taken lacking x y = absurd (apart taken lacking tt x y)
    only_one taken (retired c) x y = absurd (apart taken (retired c) tt x y)
    only_one listed lacking x y = absurd (apart listed lacking tt x y)
    only_one listed (retired c) x y = absurd (apart listed (retired c) tt x y)
    only_one lacking (retired c) x y = absurd (apart lacking (retired c) tt x y)
    only_one taken free x y = absurd (apart free taken tt y x)
    only_one listed free x y = absurd (apart free listed tt y x)
    only_one lacking free x y = absurd (apart free lacking tt y x)
    only_one (retired c) free x y = absurd (apart free (retired c) tt y x)
    only_one listed taken x y = absurd (apart taken listed tt y x)
    only_one lacking taken x y = absurd (apart taken lacking tt y x)
    only_one (retired c) taken x y = absurd (apart taken (retired c) tt y x)
    only_one lacking listed x y = absurd (apart listed lacking tt y x)
    only_one (retired c) listed x y = absurd (apart listed (retired c) tt y x)
    only_one (retired c) lacking x y = absurd (apart lacking (retired c) tt y x)

    pub one_use : (u : Use) × IsUsed z s L.ghost r u × ((v : Use) → IsUsed z s L.ghost r v → v ≡ u)
    one_use = (use_of.0, use_of.1, λ v y. only_one use_of.0 v use_of.1 y)

  -- a row that is in the list, or has a mark to be set, is left
  pub used_row_is_left : (c r : ℕ) → IsListed z s L.ghost r ⊎ LacksMark z s L.ghost r → RowUntouched s.memory (next z s c).memory r
  used_row_is_left c r x = placed_row_is_left z s L c r (λ none. ⊎_elim (λ (y : IsListed z s L.ghost r). some_none (sym y.spot ∙ none)) (λ (y : LacksMark z s L.ghost r). some_none (sym y.spot ∙ none)) x)
