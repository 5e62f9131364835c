-- A caller marks a row that it took and didn't link, as both read and passed, and has it in its retired list from then on.
use Rattle.std.proofs.Common.{◌≡◌, ◌≢◌, inl, inr, ⊎_elim, ℕ, Bool, true, false, [], ◌∷◌, ◌++◌, sym, refl, ap, ◌∙◌, subst}
use Rattle.std.specs.Prelude.{◌||◌}
use mathlib.Core.Logic.{dite}
use native.Mathlib.Decide.{ℕ_discrete}
use Rattle.node_guard.specs.Pick.{among}
use Rattle.word_rows.specs.declared.marks.Marks.{Marks}
use Rattle.lane_steps.specs.declared.point.Closing.{Closing}
use Rattle.lane_steps.specs.declared.point.Closing.TheVariants.{Plain, Batch, Full}
use Rattle.lane_steps.specs.declared.point.ClosePoint.TheVariants as close
use Rattle.lane_steps.specs.declared.point.Point.TheVariants as point
use Rattle.lane_steps.specs.Functions.{put}
use Rattle.lane_steps.specs.LaneSizes.{LaneSizes}
use Rattle.lane_steps.specs.State.{Caller, State, both_marks}
use Rattle.lane_steps.specs.Act.{with_marks}
use Rattle.lane_steps.specs.Close.{is_done, answer_known}
use Rattle.lane_steps.specs.Fact.{linearized_is, own_rows}
use Rattle.lane_steps.specs.Step.{step_at}
use Rattle.core_model.specs.Ghost.{World}
use Rattle.core_model.specs.Rows.{IsLoose, Takes, Loose, Retires, RetiresThese}
use Rattle.core_model.specs.Facts.{Holds, Each, AtPoint}
use Rattle.core_model.specs.Lawful.{Lawful}
use Rattle.core_model.proofs.Puts.{put_here, put_else}
use Rattle.core_model.proofs.Rely.{world, true_false, some_none}
use Rattle.core_model.proofs.Lists.{among_else, among_pushed, among_last, among_before, distinct_push, not_among}
use Rattle.core_model.proofs.Preserves.{known, kept_lists}
use Rattle.core_model.proofs.RowStores.{rows_stored, debts_stored}
use Rattle.core_model.proofs.Losses.{losing, losing_point, rows_behind, losing_knows, lost}

or_true : (b : Bool) → (b || true) ≡ true
or_true true = refl
or_true false = refl

-- both are set now
pub both_joined : (m : Marks) → m.free ≡ false → with_marks m both_marks ≡ both_marks
both_joined m kept = λ i. record { read = or_true m.read i; passed = or_true m.passed i; free = ap (λ (b : Bool). b || false) kept i }

module _ (z : LaneSizes) (s : State) (L : Lawful z s) (c : ℕ) (a : Closing) (r : ℕ) (f : AtPoint z (world s L.ghost) c (s.callers c) (point.Close a (close.MarkLoose r))) where
  abbrev me : Caller
  me = s.callers c

  abbrev mark' : ℕ → Marks
  mark' = put s.memory.mark r (with_marks (s.memory.mark r) both_marks)

  abbrev W : World
  W = record { memory = record s.memory { mark = mark' }; history = s.history; ghost = L.ghost }

  abbrev k : Caller
  k = record me { retired = me.retired ++ r ∷ [] }

  loose : IsLoose z (world s L.ghost) c r
  loose = f.here.0

  mark_else : (q : ℕ) → q ≢ r → mark' q ≡ s.memory.mark q
  mark_else q ne = put_else s.memory.mark r (with_marks (s.memory.mark r) both_marks) q ne

  mark_here : mark' r ≡ both_marks
  mark_here = put_here s.memory.mark r (with_marks (s.memory.mark r) both_marks) ∙ both_joined (s.memory.mark r) loose.kept

  not_yet : (q : ℕ) → Retires z (world s L.ghost) c q → q ≢ r
  not_yet q (inl (i, x)) e = some_none (sym x.spot ∙ (ap L.ghost.spot e ∙ loose.unlinked))
  not_yet q (inr l) e = loose.unmarked (ap s.memory.mark (sym e) ∙ l.marks)

  still : (q : ℕ) → Retires z (world s L.ghost) c q → Retires z W c q
  still q (inl (i, x)) = inl (i, record { spot = x.spot; before = x.before; was_read = x.was_read; was_passed = x.was_passed; kept = x.kept })
  still q (inr l) = inr (record { at_home = l.at_home; inside = l.inside; unlinked = l.unlinked; marks = mark_else q (not_yet q (inr l)) ∙ l.marks })

  here : (q : ℕ) → r ≡ q → Loose z W c q
  here q e = subst (Loose z W c) e (record { at_home = loose.at_home; inside = loose.inside; unlinked = loose.unlinked; marks = mark_here })

  -- it joins the list
  joins : RetiresThese z W c (me.retired ++ r ∷ [])
  joins = let l = (L.callers c).knows.retired in record {
    distinct = distinct_push me.retired r l.distinct (not_among me.retired r (λ is. not_yet r (l.each r is) refl));
    each = λ q is. ⊎_elim (λ (e : r ≡ q). inr (here q e)) (λ (old : among me.retired q ≡ true). still q (l.each q old)) (among_pushed me.retired r q is);
    all = λ q x. all q x;
  } where
    was : (q : ℕ) → Retires z (world s L.ghost) c q → among (me.retired ++ r ∷ []) q ≡ true
    was q x = among_before me.retired r q ((L.callers c).knows.retired.all q x)

    all : (q : ℕ) → Retires z W c q → among (me.retired ++ r ∷ []) q ≡ true
    all q (inl (i, x)) = was q (inl (i, record { spot = x.spot; before = x.before; was_read = x.was_read; was_passed = x.was_passed; kept = x.kept }))
    all q (inr l) = dite (ℕ_discrete r q) (λ e. among_last me.retired r q e)
        (λ ne. was q (inr (record { at_home = l.at_home; inside = l.inside; unlinked = l.unlinked; marks = sym (mark_else q (λ e. ne (sym e))) ∙ l.marks })))

  off : Holds z W c (linearized_is (is_done a) me.rows [] [])
  off = let x = f.call.0 in (x.0, x.1, x.2, takes, debts_stored z s L c r loose.at_home loose.unlinked s.memory.link s.memory.value mark' (λ _ _. refl) (λ _ _. refl) mark_else L.list.links [] [] x.4) where
    takes : Takes z W c me.rows
    takes q home none taken fresh = let ne : q ≢ r = λ e. fresh (ap mark' e ∙ mark_here) in
        sym (among_else me.rows r q (λ e. ne (sym e))) ∙ f.call.0.3 q home none (sym (ap (λ (m : Marks). m.free) (mark_else q ne)) ∙ taken) (λ y. fresh (mark_else q ne ∙ y))

  own : Holds z W c (own_rows me.rows)
  own = let o = f.here.1.0 in record {
    each = λ q is. let x = o.each q is in let ne : q ≢ r = λ e. true_false (sym is ∙ (ap (among me.rows) e ∙ f.here.1.1.0)) in
        record { at_home = x.at_home; inside = x.inside; unlinked = x.unlinked; kept = ap (λ (m : Marks). m.free) (mark_else q ne) ∙ x.kept; unmarked = λ e. x.unmarked (sym (mark_else q ne) ∙ e) };
    distinct = o.distinct;
  }

  answers : (b : Closing) → Each z (world s L.ghost) c (answer_known c me b) → Each z W c (answer_known c k b)
  answers (Plain x) g = g
  answers (Batch m) g = g
  answers Full g = g

  pub loose_marked : Lawful z (step_at z s c (point.Close a (close.MarkLoose r)))
  loose_marked = lost z c s (record s.memory { mark = mark' }) s.history k a me.rows (rows_stored z s L c r loose.at_home loose.unlinked s.memory.link s.memory.value mark' (λ _ _. refl) (λ _ _. refl) mark_else L.list.links
      f.call.0.1 (losing k a me.rows) refl refl (L.callers c).own_groups (L.callers c).allowed (let o = (L.callers c).knows in record {
        retired = joins;
        started = o.started;
        last = kept_lists s.history c me (losing_point a me.rows) (rows_behind me.rows) me.values me.walked k.retired me.named me.hold me.row_hold o.last;
        at_point = losing_knows z c W k a me.rows off own (answers a f.call.1);
      }))

pub preserves_mark_loose : (z : LaneSizes) (s : State) (L : Lawful z s) (c : ℕ) (a : Closing) (r : ℕ) → (s.callers c).point ≡ point.Close a (close.MarkLoose r) → Lawful z (step_at z s c (point.Close a (close.MarkLoose r)))
preserves_mark_loose z s L c a r is = loose_marked z s L c a r (known z s L c (point.Close a (close.MarkLoose r)) is)
