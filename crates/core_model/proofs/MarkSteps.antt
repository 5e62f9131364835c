-- At the end of its call a caller marks the rows that its operation read and passed, one after the other from the old dummy on.
use Rattle.std.proofs.Common.{◌≡◌, ◌≢◌, inl, inr, ⊎_elim, ℕ, zero, suc, ◌+◌, ◌-◌, ◌<◌, ◌≤◌, Bool, true, false, cond, List, [], ◌∷◌, ◌++◌, length, sym, refl, ap, ◌∙◌, subst, arith, Some}
use Rattle.std.specs.Prelude.{◌||◌, nat_lt}
use Rattle.std.proofs.lemmas.Bool.{and_parts, and_from, ltb-true, ltb-false}
use Rattle.node_guard.specs.Pick.{among}
use Rattle.word_rows.specs.declared.marks.Marks.{Marks}
use Rattle.word_rows.specs.declared.place.Place.{Place}
use Rattle.lane_steps.specs.declared.point.Closing.{Closing}
use Rattle.lane_steps.specs.declared.point.Closing.TheVariants.{Plain, Batch, Full}
use Rattle.lane_steps.specs.declared.point.ClosePoint.TheVariants as close
use Rattle.lane_steps.specs.declared.point.Point.{Point}
use Rattle.lane_steps.specs.declared.point.Point.TheVariants as point
use Rattle.lane_steps.specs.Functions.{put, run, upto, rising}
use Rattle.lane_steps.specs.LaneSizes.{LaneSizes}
use Rattle.lane_steps.specs.State.{Memory, Caller, State, marks}
use Rattle.lane_steps.specs.Act.{with_marks, behind}
use Rattle.lane_steps.specs.Close.{is_done, to_pass, both_set, answer_known}
use Rattle.lane_steps.specs.Fact.{linearized_is, own_rows}
use Rattle.lane_steps.specs.Step.{retires, marks_on, step_at}
use Rattle.core_model.specs.Ghost.{Due, owes, paid, is_paid, Ghost, World}
use Rattle.core_model.specs.Rows.{RetiresThese, OwesRows}
use Rattle.core_model.specs.Facts.{Holds, Each, AtPoint}
use Rattle.core_model.specs.Lawful.{Lawful}
use Rattle.core_model.proofs.Puts.{put_here, put_else}
use Rattle.core_model.proofs.Rely.{world, true_false, Rely}
use Rattle.core_model.proofs.RowsStable.{takes_stable, own_rows_stable}
use Rattle.core_model.proofs.Lists.{among_else, among_none}
use Rattle.core_model.proofs.Owing.{owes_paid}
use Rattle.core_model.proofs.Preserves.{known, changed, kept_lists}
use Rattle.core_model.proofs.Closes.{answers_so}
use Rattle.core_model.proofs.Losses.{losing, losing_point, rows_behind, closing_knows, closed}
use Rattle.core_model.proofs.RowMarks.{Pays, is_set, marking, none_new, marks_set, retired_now}

-- a mark is set, or left
abbrev pub joined : Bool → Due → Due
joined set d = cond set paid d

or_set : (b set : Bool) (d : Due) → b ≡ is_paid d → (b || set) ≡ is_paid (joined set d)
or_set true true d is = refl
or_set false true d is = refl
or_set true false d is = is
or_set false false d is = is

or_false : (b : Bool) → (b || false) ≡ b
or_false true = refl
or_false false = refl

-- of so many numbers, those behind the first
among_rest : (from n x : ℕ) → among (upto from n) x ≡ true → x ≢ from → among (upto (suc from) (n - 1)) x ≡ true
among_rest from zero x is ne = absurd (among_none x is)
among_rest from (suc n) x is ne = subst (λ (k : ℕ). among (upto (suc from) k) x ≡ true) (let e : n ≡ suc n - 1 = omega arith in e) (sym (among_else (upto (suc from) n) from x (λ e. ne (sym e))) ∙ is)

module _ (z : LaneSizes) (s : State) (L : Lawful z s) (c : ℕ) (a : Closing) (q : Place) (read passed stopped : Bool) (f : AtPoint z (world s L.ghost) c (s.callers c) (point.Close a (close.MarkRow q read passed stopped))) where
  abbrev G : Ghost
  G = L.ghost

  abbrev me : Caller
  me = s.callers c

  abbrev n : ℕ
  n = length (s.callers c).walked

  abbrev owed : OwesRows z (world s L.ghost) c q read stopped (s.callers c).walked
  owed = f.here.0

  abbrev i : ℕ
  i = f.here.0.position

  abbrev m : Marks
  m = with_marks (s.memory.mark q.row) (marks read passed false)

  abbrev reader' : ℕ → Due
  reader' = put L.ghost.reader f.here.0.position (joined read (L.ghost.reader f.here.0.position))

  abbrev passer' : ℕ → Due
  passer' = put L.ghost.passer f.here.0.position (joined passed (L.ghost.passer f.here.0.position))

  at : G.spot q.row ≡ Some i
  at = subst (λ (j : ℕ). G.spot q.row ≡ Some j) (let e : i + 0 ≡ i = omega arith in e) (subst (λ (r : ℕ). G.spot r ≡ Some (i + 0)) (ap G.path (let e : i + 0 ≡ i = omega arith in e) ∙ owed.row) (owed.spots 0 (omega arith)))

  first_passed : passed ≡ true → (G.passer i ≡ owes c) × (i < G.head)
  first_passed is = let p = owed.passes 0 (ltb-true 0 (to_pass n stopped) (sym f.here.1.1.0 ∙ is)) in let early = p.1 in (ap G.passer (let e : i ≡ i + 0 = omega arith in e) ∙ p.0, omega arith)

  reads : Pays c (G.reader i) (reader' i)
  reads = by read refl where
    by : (b : Bool) → read ≡ b → Pays c (G.reader i) (reader' i)
    by true is = inr (owed.first_read is, put_here G.reader i (joined read (G.reader i)) ∙ ap (λ (d : Bool). joined d (G.reader i)) is)
    by false is = inl (put_here G.reader i (joined read (G.reader i)) ∙ ap (λ (d : Bool). joined d (G.reader i)) is)

  passes : Pays c (G.passer i) (passer' i)
  passes = by passed refl where
    by : (b : Bool) → passed ≡ b → Pays c (G.passer i) (passer' i)
    by true is = inr ((first_passed is).0, put_here G.passer i (joined passed (G.passer i)) ∙ ap (λ (d : Bool). joined d (G.passer i)) is)
    by false is = inl (put_here G.passer i (joined passed (G.passer i)) ∙ ap (λ (d : Bool). joined d (G.passer i)) is)

  -- one of them was to be set
  one : G.reader i ≡ paid → G.passer i ≡ paid → ⊥
  one r p = let same : i + 0 ≡ i = omega arith in ⊎_elim (λ (x : G.reader (i + 0) ≡ owes c). owes_paid (ap G.reader (sym same) ∙ x) r) (λ (x : G.passer (i + 0) ≡ owes c). owes_paid (ap G.passer (sym same) ∙ x) p) (owed.owed 0 (omega arith))

  read_is : m.read ≡ is_paid (reader' i)
  read_is = or_set (s.memory.mark q.row).read read (G.reader i) (L.marks.read q.row i at) ∙ ap is_paid (sym (put_here G.reader i (joined read (G.reader i))))

  passed_is : m.passed ≡ is_paid (passer' i)
  passed_is = or_set (s.memory.mark q.row).passed passed (G.passer i) (L.marks.passed q.row i at) ∙ ap is_paid (sym (put_here G.passer i (joined passed (G.passer i))))

  kept_is : m.free ≡ false
  kept_is = or_false (s.memory.mark q.row).free ∙ L.marks.kept q.row i at

  before : passer' i ≡ paid → i < G.head
  before is = ⊎_elim (λ (x : passer' i ≡ G.passer i). L.marks.behind i (sym x ∙ is)) (λ (x : (G.passer i ≡ owes c) × (passer' i ≡ paid)). was x.0) passes where
    was : G.passer i ≡ owes c → i < G.head
    was owe = by passed refl where
      by : (b : Bool) → passed ≡ b → i < G.head
      by true e = (first_passed e).1
      by false e = absurd (owes_paid owe (sym (put_here G.passer i (joined passed (G.passer i)) ∙ ap (λ (d : Bool). joined d (G.passer i)) e) ∙ is))

  abbrev memory' : Memory
  memory' = record s.memory { mark = put s.memory.mark q.row m }

  abbrev W : World
  W = record { memory = memory'; history = s.history; ghost = record L.ghost { reader = reader'; passer = passer'; keeper = put L.ghost.keeper i c } }

  reads_else : (j : ℕ) → j ≢ i → reader' j ≡ G.reader j
  reads_else j ne = put_else G.reader i (joined read (G.reader i)) j ne

  passes_else : (j : ℕ) → j ≢ i → passer' j ≡ G.passer j
  passes_else j ne = put_else G.passer i (joined passed (G.passer i)) j ne

  goes_on : Rely z (λ _. ⊥) (world s L.ghost) W
  goes_on = marking z s L c q.row i at m reader' passer' reads_else passes_else reads passes one read_is passed_is kept_is before

  -- the retired list is right, where it has the row once both marks are set
  retired_so : (b : Bool) → both_set (s.memory.mark q.row) read passed ≡ b → RetiresThese z W c (retires me q.row b).retired
  retired_so b is = retired_now z s L c q.row i at m reader' passer' reads_else passes_else reads passes one read_is passed_is kept_is before b
      (λ e. let both = and_parts m.read m.passed (is ∙ e) in (is_set (reader' i) (sym read_is ∙ both.0), is_set (passer' i) (sym passed_is ∙ both.1)))
      (λ e r p. true_false (sym (and_from m.read m.passed (read_is ∙ ap is_paid r) (passed_is ∙ ap is_paid p)) ∙ (is ∙ e)))

  -- what it has to mark now
  passes_left : (j : ℕ) → passer' j ≡ owes c → among (upto (suc q.count) (to_pass n stopped - 1)) (z.first + j) ≡ true
  passes_left j e = by passed refl where
    was : among (upto q.count (to_pass n stopped)) (z.first + j) ≡ true
    was = f.call.0.4.passes j ((none_new z s L c q.row i at m reader' passer' reads_else passes_else reads passes one read_is passed_is kept_is before j c).1 e)

    by : (b : Bool) → passed ≡ b → among (upto (suc q.count) (to_pass n stopped - 1)) (z.first + j) ≡ true
    by true is = among_rest q.count (to_pass n stopped) (z.first + j) was (λ same. owes_paid (ap passer' (let count = owed.count in let here : i ≡ j = omega arith in here) ∙ e) (put_here G.passer i (joined passed (G.passer i)) ∙ ap (λ (d : Bool). joined d (G.passer i)) is))
    by false is = let zero_passed = ltb-false 0 (to_pass n stopped) (sym f.here.1.1.0 ∙ is) in let nothing : to_pass n stopped ≡ 0 = omega arith in absurd (among_none (z.first + j) (subst (λ (y : ℕ). among (upto q.count y) (z.first + j) ≡ true) nothing was))

  reads_left : (j : ℕ) → reader' j ≡ owes c → among (upto (suc q.count) n) (z.first + j) ≡ true
  reads_left j e = by read refl (f.call.0.4.unread j ((none_new z s L c q.row i at m reader' passer' reads_else passes_else reads passes one read_is passed_is kept_is before j c).0 e)) where
    by : (b : Bool) → read ≡ b → among (cond b (upto q.count (suc n)) (upto (suc q.count) n)) (z.first + j) ≡ true → among (upto (suc q.count) n) (z.first + j) ≡ true
    by false is was = was
    by true is was = subst (λ (y : ℕ). among (upto (suc q.count) y) (z.first + j) ≡ true) (let e : suc n - 1 ≡ n = omega arith in e)
        (among_rest q.count (suc n) (z.first + j) was (λ same. owes_paid (ap reader' (let count = owed.count in let here : i ≡ j = omega arith in here) ∙ e) (put_here G.reader i (joined read (G.reader i)) ∙ ap (λ (d : Bool). joined d (G.reader i)) is)))

  off : Holds z W c (linearized_is (is_done a) me.rows (upto (suc q.count) (to_pass n stopped - 1)) (upto (suc q.count) n))
  off = let x = f.call.0 in (x.0, x.1, x.2, takes_stable z (λ _. ⊥) (world s G) W goes_on c (λ _ _ x. x) me.rows x.3, record { passes = passes_left; unread = reads_left })

  own : Holds z W c (own_rows me.rows)
  own = own_rows_stable z (λ _. ⊥) (world s G) W goes_on c (λ _ _ x. x) me.rows f.here.1.0

  answers : (b : Closing) → Each z (world s G) c (answer_known c me b) → Each z W c (answer_known c me b)
  answers (Plain x) g = g
  answers (Batch x) g = g
  answers Full g = g

  -- the row behind it is the next one
  module _ (w : ℕ) (ws : List ℕ) (is : (s.callers c).walked ≡ w ∷ ws) where
    count_is : n ≡ suc (length ws)
    count_is = ap (λ (xs : List ℕ). length xs) is

    run_is : w ∷ ws ≡ G.path (suc i) ∷ run G.path (suc (suc i)) (length ws)
    run_is = sym is ∙ (owed.behind ∙ ap (run G.path (suc i)) count_is)

    read_owed : (x : ℕ) → x ≤ length ws → reader' (suc i + x) ≡ owes c
    read_owed x le = let many = count_is in reads_else (suc i + x) (omega arith) ∙ (ap G.reader (let e : suc i + x ≡ i + suc x = omega arith in e) ∙ owed.reads (suc x) (omega arith) (omega arith))

    next_owed : OwesRows z W c (behind q w) true stopped ws
    next_owed = let many = count_is in let count = owed.count in let inside = owed.inside in record {
      position = suc i;
      count = omega arith;
      row = cc run_is;
      inside = omega arith;
      behind = cc run_is;
      owed = λ x le. inl (read_owed x le);
      spots = λ x le. subst (λ (j : ℕ). G.spot (G.path j) ≡ Some j) (let e : i + suc x ≡ suc i + x = omega arith in e) (owed.spots (suc x) (omega arith));
      first_read = λ _. subst (λ (j : ℕ). reader' j ≡ owes c) (let e : suc i + 0 ≡ suc i = omega arith in e) (read_owed 0 (omega arith));
      reads = λ x some le. read_owed x le;
      passes = λ x less. let p = owed.passes (suc x) (omega arith) in let early = p.1 in (passes_else (suc i + x) (omega arith) ∙ (ap G.passer (let e : suc i + x ≡ i + suc x = omega arith in e) ∙ p.0), omega arith);
    }

  -- it marks that one, or comes to its end
  marked : (retired : List ℕ) → RetiresThese z W c retired → (ws : List ℕ) → me.walked ≡ ws → Lawful z (changed s c memory' s.history (marks_on (length s.history) c (record me { retired = retired }) a stopped q ws))
  marked retired list (w ∷ ws) is = let t : Point = point.Close a (close.MarkRow (behind q w) true (nat_lt 0 (to_pass (length ws) stopped)) stopped) in let k : Caller = record me { point = t; walked = ws; retired = retired } in
      marks_set z s L c q.row i at m reader' passer' reads_else passes_else reads passes one read_is passed_is kept_is before f.call.0.1 k refl refl (L.callers c).own_groups (L.callers c).allowed (let o = (L.callers c).knows in record {
        retired = list;
        started = o.started;
        last = kept_lists s.history c me t me.rows me.values ws retired me.named me.hold me.row_hold o.last;
        at_point = record {
          call = (
            subst (λ (y : ℕ × ℕ × ℕ). Holds z W c (linearized_is (is_done a) me.rows (upto y.0 y.1) (upto y.0 y.2))) (λ j. (next j, fewer w ws is j, count_is w ws is j)) off,
            answers_so z W c me t me.rows ws retired me.named me.hold me.row_hold a (answers a f.call.1),
          );
          here = (next_owed w ws is, (own, (refl, tt)));
        };
      }) where
        next : suc q.count ≡ q.count + 1
        next = omega arith

        fewer : (w : ℕ) (ws : List ℕ) → me.walked ≡ w ∷ ws → to_pass n stopped - 1 ≡ to_pass (length ws) stopped
        fewer w ws is = let many = count_is w ws is in omega arith
  marked retired list [] is = let k : Caller = record me { walked = []; retired = retired } in closed z c s memory' s.history k a
      (marks_set z s L c q.row i at m reader' passer' reads_else passes_else reads passes one read_is passed_is kept_is before f.call.0.1 (losing k a (rising me.rows)) refl refl (L.callers c).own_groups (L.callers c).allowed (let o = (L.callers c).knows in record {
        retired = list;
        started = o.started;
        last = kept_lists s.history c me (losing_point a (rising me.rows)) (rows_behind (rising me.rows)) me.values [] retired me.named me.hold me.row_hold o.last;
        at_point = closing_knows z c W k a none_left own (answers_so z W c me me.point me.rows [] retired me.named me.hold me.row_hold a (answers a f.call.1));
      })) where
        none_left : Holds z W c (linearized_is (is_done a) me.rows [] [])
        none_left = let none = ap (λ (xs : List ℕ). length xs) is in by stopped (subst (λ (y : ℕ). Holds z W c (linearized_is (is_done a) me.rows (upto (suc q.count) (to_pass y stopped - 1)) (upto (suc q.count) y))) none off) where
          by : (b : Bool) → Holds z W c (linearized_is (is_done a) me.rows (upto (suc q.count) (to_pass 0 b - 1)) []) → Holds z W c (linearized_is (is_done a) me.rows [] [])
          by true x = x
          by false x = x

  pub row_marked : Lawful z (step_at z s c (point.Close a (close.MarkRow q read passed stopped)))
  row_marked = by (both_set (s.memory.mark q.row) read passed) refl where
    by : (b : Bool) → both_set (s.memory.mark q.row) read passed ≡ b → Lawful z (changed s c memory' s.history (let k = retires me q.row b in marks_on (length s.history) c k a stopped q k.walked))
    by true is = marked (me.retired ++ q.row ∷ []) (retired_so true is) me.walked refl
    by false is = marked me.retired (retired_so false is) me.walked refl

pub preserves_mark_row : (z : LaneSizes) (s : State) (L : Lawful z s) (c : ℕ) (a : Closing) (q : Place) (read passed stopped : Bool) → (s.callers c).point ≡ point.Close a (close.MarkRow q read passed stopped)
    → Lawful z (step_at z s c (point.Close a (close.MarkRow q read passed stopped)))
preserves_mark_row z s L c a q read passed stopped is = row_marked z s L c a q read passed stopped (known z s L c (point.Close a (close.MarkRow q read passed stopped)) is)
