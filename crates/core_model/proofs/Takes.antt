-- A call takes a row: it searches its own rows for a free one, stores that one's marks, and clears its link; where none is free
-- the call ends with Full.
use Rattle.std.proofs.Common.{◌≡◌, ◌≢◌, ℕ, zero, suc, ◌<◌, eqb, eq-eqb, Bool, true, false, List, [], ◌∷◌, length, get_or, sym, refl, ap, ◌∙◌, subst, arith, Option, Some, None, ltb, inl, inr}
use mathlib.Core.Logic.{dite}
use native.Mathlib.Decide.{ℕ_discrete}
use Rattle.bq_model.specs.declared.op.Op.{Op}
use Rattle.bq_model.specs.declared.shape.Shape.{Shape}
use Rattle.word_rows.specs.Sizes.{rows_of}
use Rattle.word_rows.specs.declared.content.Content.{Content}
use Rattle.lane_steps.specs.Coded.{TakingFits, CourseFits}
use Rattle.excess_count.specs.declared.counts.Counts.{Counts}
use Rattle.excess_count.specs.Excess.{enqueue_count}
use Rattle.excess_count.proofs.ExcessLaws.{enqueue_count-enq}
use Rattle.std.proofs.lemmas.Bool.{and_from, lt-ltb}
use Rattle.node_guard.specs.Pick.{among}
use Rattle.word_rows.specs.declared.marks.Marks.{Marks}
use Rattle.word_rows.specs.declared.link_word.LinkWord.{LinkWord}
use Rattle.word_rows.specs.declared.link_word.LinkWord.TheVariants.{Nil}
use Rattle.word_rows.specs.declared.location.Location.TheVariants.{Mark}
use Rattle.lane_steps.specs.declared.point.Closing.TheVariants.{Full}
use Rattle.lane_steps.specs.declared.point.Point.{Point}
use Rattle.lane_steps.specs.declared.point.Point.TheVariants as point
use Rattle.lane_steps.specs.declared.point.EnqueuePoint.TheVariants as enq
use Rattle.lane_steps.specs.declared.point.FillPoint.TheVariants as fill
use Rattle.lane_steps.specs.declared.point.Taking.{Taking}
use Rattle.lane_steps.specs.declared.point.Taking.TheVariants.{Enqueue, Batch, Stopper}
use Rattle.lane_steps.specs.declared.point.TakePoint.{TakePoint}
use Rattle.lane_steps.specs.declared.point.TakePoint.TheVariants.{LoadMark, ClearMark, ClearLink}
use Rattle.lane_steps.specs.Functions.{put}
use Rattle.lane_steps.specs.Batches.{with_rows}
use Rattle.lane_steps.specs.Fill.{scan_from}
use Rattle.lane_steps.specs.LaneSizes.{LaneSizes, IsItem, own_row, own_count}
use Rattle.lane_steps.specs.State.{Memory, Caller, command, State, mark_in}
use Rattle.lane_steps.specs.Fact.{linearized_is, own_rows, seeks, free_row, fills, may_lack}
use Rattle.lane_steps.specs.Take as taking
use Rattle.lane_steps.specs.Take.{is_stopper, taken_marks, command_knows, after_mark, after_take}
use Rattle.lane_steps.specs.Step.{followed, step_at}
use Rattle.core_model.specs.Ghost.{World}
use Rattle.core_model.specs.Rows.{IsUnlinked, IsTaken, Takes}
use Rattle.core_model.specs.Facts.{Holds, Each, AtPoint}
use Rattle.core_model.specs.Lawful.{Lawful}
use Rattle.core_model.proofs.Puts.{put_here, put_else}
use Rattle.core_model.proofs.Rely.{world, true_false}
use Rattle.core_model.proofs.Lists.{among_here, among_there, among_at, among_index, not_among}
use Rattle.core_model.proofs.Preserves.{known, changed, point_changes}
use Rattle.core_model.proofs.StoredAgain.{write_read}
use Rattle.core_model.proofs.RowStores.{free_apart, taken_apart, row_stored, debts_stored, linearized_stored}
use Rattle.core_model.proofs.Announces.{links_put}
use Rattle.core_model.proofs.Counting.{chain_none}
use Rattle.core_model.proofs.Filled.{draft_with}
use Rattle.core_model.proofs.FillScans.{scan_begins}
use Rattle.core_model.proofs.LooseRows.{fills_loose}
use Rattle.core_model.proofs.Closes.{may_close, closes_so, no_own_rows}

-- the row that it loads next is one of the lane
abbrev pub NextInside : ℕ → TakePoint → Type 0
NextInside rows (LoadMark r (suc l)) = suc r < rows
NextInside rows _ = Unit {0}

module _ (z : LaneSizes) (s : State) (L : Lawful z s) (c : ℕ) where
  abbrev me : Caller
  me = s.callers c

  -- a call that takes rows is of a caller of the lane
  taker_known : (t : Taking) → Each z (world s L.ghost) c (command_knows (command (s.callers c)) t) → c < z.callers
  taker_known (Enqueue v) f = f.0.1
  taker_known (Batch n v) f = f.0.known
  taker_known (Stopper n) f = f.0.known

  -- its operations take rows
  pub may_take : (t : Taking) → Each z (world s L.ghost) c (command_knows (command (s.callers c)) t) → Holds z (world s L.ghost) c (may_lack (s.callers c).ops)
  may_take (Enqueue v) f = inl (subst (λ (ops : List Op). 0 < enqueue_count ops) (sym f.0.0) (let one = enqueue_count-enq v [] in omega arith))
  may_take (Batch n v) f = let enqs = ap (λ (k : Counts). k.enqs) f.0.describes.counts in let inside = f.1.1.0.inside in inl (omega arith)
  may_take (Stopper n) f = let enqs = ap (λ (k : Counts). k.enqs) f.0.describes.counts in let none = f.1.0.0 in
      inr (and_from (ltb 1 (length me.ops)) (eqb (enqueue_count me.ops) 0) (lt-ltb 1 (length me.ops) f.0.several) (eq-eqb (enqueue_count me.ops) 0 (omega arith)))

  -- the rows that it has taken so far
  own_so_far : (t : Taking) → Each z (world s L.ghost) c (command_knows (command (s.callers c)) t) → Holds z (world s L.ghost) c (own_rows (s.callers c).rows)
  own_so_far (Enqueue v) f = subst (λ (rows : List ℕ). Holds z (world s L.ghost) c (own_rows rows)) (sym f.0.2) (no_own_rows z s L c)
  own_so_far (Batch n v) f = fills_loose z (world s L.ghost) c me.rows me.ops 0 f.1.0
  own_so_far (Stopper n) f = subst (λ (rows : List ℕ). Holds z (world s L.ghost) c (own_rows rows)) (sym ((f.1.1.0.0) refl)) (no_own_rows z s L c)

  -- an own row that was found free has no position
  found_free : (b : Bool) (r l : ℕ) → c < z.callers → Holds z (world s L.ghost) c (seeks b r l) → (s.memory.mark r).free ≡ true → Holds z (world s L.ghost) c (free_row b r)
  found_free b r l inside x free = (
    record {
      at_home = subst (λ (q : ℕ). z.home q ≡ c) x.1 (L.sizes.homes b c x.0 inside (omega arith));
      inside = subst (λ (q : ℕ). q < z.rows) x.1 (L.sizes.inside b c x.0 inside (omega arith));
      of_kind = item b x.1 (omega arith);
      unlinked = none (L.ghost.spot r) refl;
    },
    free,
  ) where
    item : (b : Bool) → own_row z c b x.0 ≡ r → x.0 < own_count z b → b ≡ false → IsItem z r
    item true _ _ e = absurd (true_false e)
    item false is below _ = (c, x.0, inside, below, is)

    none : (o : Option ℕ) → L.ghost.spot r ≡ o → L.ghost.spot r ≡ None
    none None at = at
    none (Some i) at = absurd (true_false (sym free ∙ L.marks.kept r i at))

  -- the marks of one row are loaded
  mark_loaded : (t : Taking) (r l : ℕ) (b : Bool) → (s.memory.mark r).free ≡ b → AtPoint z (world s L.ghost) c (s.callers c) (point.Take t (LoadMark r l))
      → Lawful z (changed s c s.memory s.history (followed z (length s.history) c (s.callers c) (after_mark t r l b)))
  mark_loaded t r l true free f = point_changes z s L c (point.Take t (ClearMark r)) (record { call = f.call; here = (found_free (is_stopper t) r l (taker_known t f.call.1) f.here.0 free, tt) })
  mark_loaded t r zero false _ f = closes_so z s L c Full me (may_close z s L c Full me.rows me.values me.walked (taker_known t f.call.1, (may_take t f.call.1, tt))) f.call.0 (own_so_far t f.call.1)
  mark_loaded t r (suc l) false _ f = point_changes z s L c (point.Take t (LoadMark (suc r) l)) (record { call = f.call; here = (next f.here.0, tt) }) where
    next : Holds z (world s L.ghost) c (seeks (is_stopper t) r (suc l)) → Holds z (world s L.ghost) c (seeks (is_stopper t) (suc r) l)
    next x = (suc x.0, goes (is_stopper t) x.1, let below = x.2 in omega arith) where
      goes : (b : Bool) → own_row z c b x.0 ≡ r → own_row z c b (suc x.0) ≡ suc r
      goes true is = omega arith
      goes false is = omega arith

  pub preserves_load_mark : (t : Taking) (r l : ℕ) → (s.callers c).point ≡ point.Take t (LoadMark r l) → Lawful z (step_at z s c (point.Take t (LoadMark r l)))
  preserves_load_mark t r l is = subst (λ (m : Memory). Lawful z (changed s c m s.history (followed z (length s.history) c me (after_mark t r l (s.memory.mark r).free))))
      (sym (write_read s.memory (Mark r))) (mark_loaded t r l (s.memory.mark r).free refl (known z s L c (point.Take t (LoadMark r l)) is))

  -- a free row is taken
  module _ (t : Taking) (r : ℕ) (f : AtPoint z (world s L.ghost) c (s.callers c) (point.Take t (ClearMark r))) where
    abbrev mark' : ℕ → Marks
    mark' = put s.memory.mark r (taken_marks (is_stopper t))

    abbrev W : World
    W = record { memory = record s.memory { mark = mark' }; history = s.history; ghost = L.ghost }

    abbrev own : IsUnlinked z c L.ghost.spot (is_stopper t) r
    own = f.here.0.0

    mark_else : (q : ℕ) → q ≢ r → mark' q ≡ s.memory.mark q
    mark_else q ne = put_else s.memory.mark r (taken_marks (is_stopper t)) q ne

    mark_here : mark' r ≡ taken_marks (is_stopper t)
    mark_here = put_here s.memory.mark r (taken_marks (is_stopper t))

    takes : Takes z W c (r ∷ me.rows)
    takes q home none taken fresh = dite (ℕ_discrete q r) (λ e. among_here me.rows r q (sym e))
        (λ ne. among_there me.rows r q (f.call.0.3 q home none (sym (ap (λ (m : Marks). m.free) (mark_else q ne)) ∙ taken) (λ y. fresh (mark_else q ne ∙ y))))

    off : Holds z W c (linearized_is false (r ∷ me.rows) [] [])
    off = let x = f.call.0 in (x.0, x.1, x.2, takes, debts_stored z s L c r own.at_home own.unlinked s.memory.link s.memory.value mark' (λ _ _. refl) (λ _ _. refl) mark_else L.list.links [] [] x.4)

    -- the rows that it has taken before are others
    taken_else : (rows : List ℕ) (ops : List Op) → Holds z (world s L.ghost) c (fills rows ops 0) → (l : ℕ) → l < length rows → get_or rows l 0 ≢ r
    taken_else rows ops x l below e = true_false (sym f.here.0.1 ∙ (ap (λ (q : ℕ). (s.memory.mark q).free) (sym e) ∙ ap (λ (m : Marks). m.free) (x.taken l below).marks))

    still_fills : (rows : List ℕ) (ops : List Op) → Holds z (world s L.ghost) c (fills rows ops 0) → Holds z W c (fills rows ops 0)
    still_fills rows ops x = record {
      taken = λ l below. let y = x.taken l below in record { free = y.free; marks = mark_else (get_or rows l 0) (taken_else rows ops x l below) ∙ y.marks };
      distinct = x.distinct;
      values = x.values;
      joined = x.joined;
      nil = x.nil;
    }

    not_yet : (u : Taking) → Each z (world s L.ghost) c (command_knows (command me) u) → among me.rows r ≡ false
    not_yet (Enqueue v) g = ap (λ (rows : List ℕ). among rows r) g.0.2
    not_yet (Batch n v) g = not_among me.rows r (λ is. let y = among_index me.rows r is in taken_else me.rows me.ops g.1.0 y.0 y.1 y.2)
    not_yet (Stopper n) g = ap (λ (rows : List ℕ). among rows r) (g.1.1.0.0 refl)

    still : (u : Taking) → Each z (world s L.ghost) c (command_knows (command me) u) → Each z W c (command_knows (command me) u)
    still (Enqueue v) g = g
    still (Batch n v) g = (g.0, (still_fills me.rows me.ops g.1.0, g.1.1))
    still (Stopper n) g = g

    mark_cleared : Lawful z (step_at z s c (point.Take t (ClearMark r)))
    mark_cleared = row_stored z s L c r own.at_home own.unlinked s.memory.link s.memory.value mark' (λ _ _. refl) (λ _ _. refl) mark_else L.list.links (free_apart (s.memory.mark r) f.here.0.1) (taken_apart (is_stopper t) (mark' r) mark_here) f.call.0.1
        (point.Take t (ClearLink r)) me.rows me.named (record { call = (off, still t f.call.1); here = (record { free = own; marks = mark_here }, (not_yet t f.call.1, tt)) })

  -- its link is cleared
  module _ (r : ℕ) (b : Bool) (own : IsTaken z c L.ghost.spot s.memory.mark b r) (apart : among (s.callers c).rows r ≡ false) (taken : Holds z (world s L.ghost) c (linearized_is false (r ∷ (s.callers c).rows) [] [])) where
    abbrev link' : ℕ → LinkWord
    link' = put s.memory.link r Nil

    abbrev V : World
    V = record { memory = record s.memory { link = link' }; history = s.history; ghost = L.ghost }

    link_else : (q : ℕ) → q ≢ r → link' q ≡ s.memory.link q
    link_else q ne = put_else s.memory.link r Nil q ne

    link_here : link' r ≡ Nil
    link_here = put_here s.memory.link r Nil

    goes_on : (u : Point) (rows named : List ℕ) → AtPoint z V c (record me { point = u; rows = rows; named = named }) u → Lawful z (changed s c (record s.memory { link = link' }) s.history (record me { point = u; rows = rows; named = named }))
    goes_on u rows named knows = row_stored z s L c r own.free.at_home own.free.unlinked link' s.memory.value s.memory.mark link_else (λ _ _. refl) (λ _ _. refl) (links_put z.rows s.memory.link r Nil tt L.list.links)
        (taken_apart b (s.memory.mark r) own.marks) (taken_apart b (s.memory.mark r) own.marks) taken.1 u rows named knows

    off_there : Holds z V c (linearized_is false (r ∷ me.rows) [] [])
    off_there = linearized_stored z s L c r own.free.at_home own.free.unlinked link' s.memory.value s.memory.mark link_else (λ _ _. refl) (λ _ _. refl) (links_put z.rows s.memory.link r Nil tt L.list.links) refl false (r ∷ me.rows) [] [] taken

    -- the rows that a batch has filled are others
    filled_there : (ops : List Op) → Holds z (world s L.ghost) c (fills me.rows ops 0) → Holds z V c (fills me.rows ops 0)
    filled_there ops x = record {
      taken = x.taken;
      distinct = x.distinct;
      values = x.values;
      joined = λ l below less. absurd (omega arith);
      nil = λ l below late. link_else (get_or me.rows l 0) (λ e. true_false (sym (among_at me.rows l below) ∙ (ap (among me.rows) e ∙ apart))) ∙ x.nil l below late;
    }

    -- a stopper is all that is filled
    stopper_fills : (ops : List Op) → enqueue_count ops ≡ 0 → b ≡ true → Holds z V c (fills (r ∷ []) ops 0)
    stopper_fills ops none is = record {
      taken = λ l below. subst (λ (q : ℕ). IsTaken z c L.ghost.spot s.memory.mark (eqb (enqueue_count ops) 0) q) (only l below) (subst (λ (d : Bool). IsTaken z c L.ghost.spot s.memory.mark d r) (is ∙ sym (eq-eqb (enqueue_count ops) 0 none)) own);
      distinct = (refl, tt);
      values = λ l below wanted. absurd (omega arith);
      joined = λ l below less. absurd (omega arith);
      nil = λ l below late. ap link' (sym (only l below)) ∙ link_here;
    } where
      only : (l : ℕ) → l < length (r ∷ []) → r ≡ get_or (r ∷ []) l 0
      only zero below = refl
      only (suc l) below = absurd (omega arith)

  link_cleared : (t : Taking) (r : ℕ) → AtPoint z (world s L.ghost) c (s.callers c) (point.Take t (ClearLink r)) → Lawful z (step_at z s c (point.Take t (ClearLink r)))
  link_cleared (Enqueue v) r f = let own = f.here.0 in goes_on r false own f.here.1.0 f.call.0 (point.Enqueue (record { row = r; value = v }) enq.StoreValue) me.rows me.named
      (record { call = (subst (λ (rows : List ℕ). Holds z (V r false own f.here.1.0 f.call.0) c (linearized_is false (r ∷ rows) [] [])) f.call.1.0.2 (off_there r false own f.here.1.0 f.call.0), (f.call.1.0, ((own, link_here r false own f.here.1.0 f.call.0), tt))); here = tt })
  link_cleared (Batch n v) r f = let own = f.here.0 in goes_on r false own f.here.1.0 f.call.0 (point.Fill n (fill.StoreValue r v)) me.rows me.named
      (record { call = (f.call.1.0, tt); here = (off_there r false own f.here.1.0 f.call.0, (filled_there r false own f.here.1.0 f.call.0 me.ops f.call.1.1.0, (f.call.1.1.1.0, ((own, link_here r false own f.here.1.0 f.call.0), (f.here.1.0, tt))))) })
  link_cleared (Stopper n) r f = let own = f.here.0 in let none = f.call.1.1.0.0 in let enqs = ap (λ (k : Counts). k.enqs) f.call.1.0.describes.counts in let no_rows = f.call.1.1.1.0.0 refl in
      goes_on r true own f.here.1.0 f.call.0 (scan_from z c [] (with_rows n (r ∷ [])) 0) (r ∷ []) []
      (scan_begins z s L c (record s.memory { link = put s.memory.link r Nil }) (r ∷ []) (with_rows n (r ∷ []))
      (subst (λ (rows : List ℕ). Holds z (V r true own f.here.1.0 f.call.0) c (linearized_is false (r ∷ rows) [] [])) no_rows (off_there r true own f.here.1.0 f.call.0))
      (draft_with z c (command me) n (r ∷ []) r r f.call.1.0)
      (stopper_fills r true own f.here.1.0 f.call.0 me.ops (omega arith) refl)
      (record { all = sym (chain_none n.counts none); first = refl; last = refl }))

  -- each step of a caller that takes a row
  pub preserves_take : (t : Taking) (p : TakePoint) → (s.callers c).point ≡ point.Take t p → Lawful z (step_at z s c (point.Take t p))
  preserves_take t (LoadMark r l) is = preserves_load_mark t r l is
  preserves_take t (ClearMark r) is = mark_cleared t r (known z s L c (point.Take t (ClearMark r)) is)
  preserves_take t (ClearLink r) is = link_cleared t r (known z s L c (point.Take t (ClearLink r)) is)

  pub next_inside : (t : Taking) (p : TakePoint) → (s.callers c).point ≡ point.Take t p → NextInside z.rows p
  next_inside t (LoadMark r (suc l)) is = let f = known z s L c (point.Take t (LoadMark r (suc l))) is in let x = f.here.0 in
      by x.0 (is_stopper t) x.1 (L.sizes.inside (is_stopper t) c (suc x.0) (taker_known t f.call.1) (omega arith)) where
        by : (i : ℕ) (b : Bool) → own_row z c b i ≡ r → own_row z c b (suc i) < z.rows → suc r < z.rows
        by i true is below = omega arith
        by i false is below = omega arith
  next_inside t (LoadMark r zero) is = tt
  next_inside t (ClearMark r) is = tt
  next_inside t (ClearLink r) is = tt

-- and it goes on with what fits
module _ (s : Shape) where
  mark_fits : (t : Taking) (r l : ℕ) (b : Bool) → TakingFits s t → r < rows_of s → NextInside (rows_of s) (LoadMark r l) → CourseFits s (after_mark t r l b)
  mark_fits t r l true a fits _ = (a, fits)
  mark_fits t r zero false a fits _ = tt
  mark_fits t r (suc l) false a fits next = (a, next)

  taken_fits : (t : Taking) (r : ℕ) → TakingFits s t → r < rows_of s → CourseFits s (after_take t r)
  taken_fits (Enqueue v) r a fits = (record { row = fits; value = a }, tt)
  taken_fits (Batch n v) r a fits = (a.0, (fits, a.1))
  taken_fits (Stopper n) r a fits = (a, fits)

  pub take_fits : (t : Taking) (p : TakePoint) (x : Content) → TakingFits s t → taking.fits s p → NextInside (rows_of s) p → CourseFits s (taking.course t p x)
  take_fits t (LoadMark r l) x a fits next = mark_fits t r l (mark_in x).free a fits next
  take_fits t (ClearMark r) x a fits _ = (a, fits)
  take_fits t (ClearLink r) x a fits _ = taken_fits t r a fits
