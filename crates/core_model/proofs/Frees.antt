-- A caller frees a row of its retired list that nobody holds. The row has no position from then on.
use Rattle.std.proofs.Common.{◌≡◌, ◌≢◌, inl, inr, ℕ, ◌<◌, ◌≤◌, Bool, true, false, List, [], length, sym, refl, ap, ◌∙◌, subst, arith, le_refl, Some, None}
use Rattle.std.specs.Prelude.{◌||◌}
use Rattle.std.proofs.lemmas.List.{append-nil}
use mathlib.Core.Logic.{dite}
use native.Mathlib.Decide.{ℕ_discrete}
use Rattle.node_guard.specs.Pick.{among}
use Rattle.node_guard.specs.Retired.{without_first_unheld}
use Rattle.word_rows.specs.declared.marks.Marks.{Marks}
use Rattle.lane_steps.specs.declared.point.Closing.{Closing}
use Rattle.lane_steps.specs.declared.point.Closing.TheVariants.{Plain, Batch, Full}
use Rattle.lane_steps.specs.declared.point.ClosePoint.TheVariants as close
use Rattle.lane_steps.specs.declared.point.Point.TheVariants as point
use Rattle.lane_steps.specs.Functions.{put}
use Rattle.lane_steps.specs.LaneSizes.{LaneSizes}
use Rattle.lane_steps.specs.Batches.{owner_of}
use Rattle.lane_steps.specs.Stopper.{chain_rows}
use Rattle.lane_steps.specs.State.{Memory, Caller, State, marks}
use Rattle.lane_steps.specs.Act.{with_marks}
use Rattle.lane_steps.specs.Close.{is_done, answer_known}
use Rattle.lane_steps.specs.Fact.{linearized_is, lets_go}
use Rattle.lane_steps.specs.Step.{frees_next, step_at}
use Rattle.core_model.specs.Ghost.{Ghost, World, positions, RetiredBy}
use Rattle.core_model.specs.Rows.{Takes, Loose, Retires, RetiresThese}
use Rattle.core_model.specs.Facts.{Holds, Each, AtPoint}
use Rattle.core_model.specs.Lawful.{Listed, Marked, held_by, Lawful}
use Rattle.core_model.proofs.Puts.{put_here, put_else, put_all}
use Rattle.core_model.proofs.Rely.{world, true_false, one_some, some_none, anns_same, LetGo, RowRely, NoDebts, Rely}
use Rattle.core_model.proofs.RowLists.{first_is_there, among_without, gone_without, distinct_without}
use Rattle.core_model.proofs.Preserves.{known, preserves, changed, drafts_same, told_plain, waits_plain, waits_there, kept_lists}
use Rattle.core_model.proofs.Announces.{pending_same}
use Rattle.core_model.proofs.RowStores.{taken_apart}
use Rattle.core_model.proofs.Closes.{answers_so, frees_so, knows_there, may_close_there, goes_there}

module _ (z : LaneSizes) (s : State) (L : Lawful z s) (c : ℕ) (a : Closing) (r : ℕ) (f : AtPoint z (world s L.ghost) c (s.callers c) (point.Close a (close.MarkFree r))) where
  abbrev G : Ghost
  G = L.ghost

  abbrev me : Caller
  me = s.callers c

  abbrev freed : Marks
  freed = with_marks (s.memory.mark r) (marks false false true)

  abbrev memory' : Memory
  memory' = record s.memory { mark = put s.memory.mark r freed }

  abbrev G' : Ghost
  G' = record L.ghost { spot = put L.ghost.spot r None }

  abbrev W : World
  W = record { memory = memory'; history = s.history; ghost = G' }

  abbrev rows' : List ℕ
  rows' = without_first_unheld me.named me.retired

  there : (among me.retired r ≡ true) × (among me.named r ≡ false)
  there = first_is_there me.named me.retired r f.here.1.0

  retired_now : Retires z (world s G) c r
  retired_now = (L.callers c).knows.retired.each r there.0

  -- nobody holds it
  nobody : (d : ℕ) → G.row_held d ≢ Some r
  nobody d holds = let below = (L.callers d).guards_row.known r holds in (f.here.0 d r below there.0 there.1).1 holds

  mark_else : (q : ℕ) → q ≢ r → memory'.mark q ≡ s.memory.mark q
  mark_else q ne = put_else s.memory.mark r freed q ne

  or_true : (b : Bool) → (b || true) ≡ true
  or_true true = refl
  or_true false = refl

  free_here : (memory'.mark r).free ≡ true
  free_here = ap (λ (m : Marks). m.free) (put_here s.memory.mark r freed) ∙ or_true (s.memory.mark r).free

  is_free : (q : ℕ) → q ≡ r → (memory'.mark q).free ≡ true
  is_free q e = ap (λ (y : ℕ). (memory'.mark y).free) e ∙ free_here

  -- a row with a position is another row, and had that before
  other_row : (q j : ℕ) → G'.spot q ≡ Some j → q ≢ r
  other_row q j at is = some_none (sym at ∙ (ap G'.spot is ∙ put_here G.spot r None))

  was_at : (q j : ℕ) → G'.spot q ≡ Some j → G.spot q ≡ Some j
  was_at q j at = sym (put_else G.spot r None q (other_row q j at)) ∙ at

  spot_else : (q : ℕ) → q ≢ r → G'.spot q ≡ G.spot q
  spot_else q ne = put_else G.spot r None q ne

  -- it lies before the dummy, if it has a position
  before : (j : ℕ) → G.spot r ≡ Some j → RetiredBy (world s G) c r j
  before j at = by retired_now where
    by : Retires z (world s G) c r → RetiredBy (world s G) c r j
    by (inl (i, x)) = subst (RetiredBy (world s G) c r) (one_some (sym x.spot ∙ at)) x
    by (inr l) = absurd (some_none (sym at ∙ l.unlinked))

  on_path : (j : ℕ) → G.head ≤ j → j < positions G → G.path j ≢ r
  on_path j from below is = let early = (before j (ap G.spot (sym is) ∙ L.list.rows.spots j from below)).before in omega arith

  loose_now : G.spot r ≡ None → Loose z (world s G) c r
  loose_now none = by retired_now where
    by : Retires z (world s G) c r → Loose z (world s G) c r
    by (inl (i, x)) = absurd (some_none (sym x.spot ∙ none))
    by (inr l) = l

  -- it is touched where it was never linked
  abbrev Touch : ℕ → Type 0
  Touch q = (q ≡ r) × Loose z (world s L.ghost) c r

  untouched : (q : ℕ) → G.spot q ≡ None → ¬ (Touch q) → q ≢ r
  untouched q none off e = off (e, loose_now (ap G.spot (sym e) ∙ none))

  let_go : (j : ℕ) → G.spot r ≡ Some j → LetGo (world s G) W r j
  let_go j at = let x = before j at in record { unheld = nobody; was_read = x.was_read; was_passed = x.was_passed; free = free_here; gone = put_here G.spot r None }

  rows_rely : RowRely (world s G) W
  rows_rely = record {
    spots = λ q j at. dite (ℕ_discrete q r)
        (λ is. inr (subst (λ (y : ℕ). LetGo (world s G) W y j) (sym is) (let_go j (ap G.spot (sym is) ∙ at))))
        (λ ne. inl (spot_else q ne ∙ at));
    held_new = λ d q holds. inl holds;
  }

  rely : Rely z Touch (world s G) W
  rely = record {
    longer = le_refl _;
    heads = le_refl _;
    tails = le_refl _;
    path_same = λ _ _. refl;
    chained_same = λ _ _. refl;
    spot_own = λ q none off. spot_else q (untouched q none off) ∙ none;
    rows = rows_rely;
    on_same = λ j q on _. (on.link, refl);
    link_own = λ _ _ _. refl;
    value_own = λ _ _ _. refl;
    mark_own = λ q none off. mark_else q (untouched q none off);
    value_path = λ _ _ _. refl;
    anns = anns_same z (world s G) W refl refl refl refl refl refl refl;
    holds = λ _ _ e. inl e;
    more = ([], sym (append-nil s.history));
  }

  listed' : Listed z.rows s.memory.link G.path G.chained G'.spot G.head G.rest
  listed' = record {
    joined = L.list.rows.joined;
    last = L.list.rows.last;
    spots = λ j from below. spot_else (G.path j) (on_path j from below) ∙ L.list.rows.spots j from below;
    inside = L.list.rows.inside;
    placed = λ q j at. L.list.rows.placed q j (was_at q j at);
  }

  marked' : Marked memory'.mark G'.spot G.reader G.passer G.head G.shown
  marked' = record {
    kept = λ q j at. ap (λ (m : Marks). m.free) (same q j at) ∙ L.marks.kept q j (was_at q j at);
    read = λ q j at. ap (λ (m : Marks). m.read) (same q j at) ∙ L.marks.read q j (was_at q j at);
    passed = λ q j at. ap (λ (m : Marks). m.passed) (same q j at) ∙ L.marks.passed q j (was_at q j at);
    unread = L.marks.unread;
    unpassed = L.marks.unpassed;
    was_read = L.marks.was_read;
    was_passed = L.marks.was_passed;
    behind = L.marks.behind;
  } where
    same : (q j : ℕ) → G'.spot q ≡ Some j → memory'.mark q ≡ s.memory.mark q
    same q j at = mark_else q (other_row q j at)

  -- what else is retired stays so
  still : (d q j : ℕ) → q ≢ r → RetiredBy (world s G) d q j → RetiredBy W d q j
  still d q j ne x = record { spot = spot_else q ne ∙ x.spot; before = x.before; was_read = x.was_read; was_passed = x.was_passed; kept = x.kept }

  back : (d q j : ℕ) → RetiredBy W d q j → RetiredBy (world s G) d q j
  back d q j x = record { spot = was_at q j x.spot; before = x.before; was_read = x.was_read; was_passed = x.was_passed; kept = x.kept }

  others : (d : ℕ) → d ≢ c → NoDebts (world s G) W d
  others d apart = record {
    near = record {
      reads = λ _ x. x;
      passes = λ _ x. x;
      retired = λ q j x. still d q j (λ is. apart (sym x.kept ∙ (before j (ap G.spot (sym is) ∙ x.spot)).kept)) x;
      no_retired = back d;
    };
    no_reads = λ _ x. x;
    no_passes = λ _ x. x;
  }

  still_retired : (q : ℕ) → q ≢ r → Retires z (world s G) c q → Retires z W c q
  still_retired q ne (inl (j, x)) = inl (j, still c q j ne x)
  still_retired q ne (inr l) = inr (record { at_home = l.at_home; inside = l.inside; unlinked = spot_else q ne ∙ l.unlinked; marks = mark_else q ne ∙ l.marks })

  left : (q : ℕ) → among rows' q ≡ true → (q ≢ r) × (among me.retired q ≡ true)
  left q is = let ne : q ≢ r = λ e. true_false (sym is ∙ (ap (among rows') e ∙ gone_without me.named r me.retired (L.callers c).knows.retired.distinct f.here.1.0)) in
      (ne, sym (among_without me.named r me.retired f.here.1.0 q ne) ∙ is)

  fewer : RetiresThese z W c rows'
  fewer = let l = (L.callers c).knows.retired in record {
    distinct = distinct_without me.named r me.retired l.distinct f.here.1.0;
    each = λ q is. let y = left q is in still_retired q y.0 (l.each q y.1);
    all = λ q x. all q x;
  } where
    there_still : (q : ℕ) → q ≢ r → Retires z (world s G) c q → among rows' q ≡ true
    there_still q ne x = among_without me.named r me.retired f.here.1.0 q ne ∙ (L.callers c).knows.retired.all q x

    all : (q : ℕ) → Retires z W c q → among rows' q ≡ true
    all q (inl (j, x)) = there_still q (other_row q j x.spot) (inl (j, back c q j x))
    all q (inr l) = let ne : q ≢ r = λ is. true_false (sym (is_free q is) ∙ ap (λ (m : Marks). m.free) l.marks) in
        there_still q ne (inr (record { at_home = l.at_home; inside = l.inside; unlinked = sym (spot_else q ne) ∙ l.unlinked; marks = sym (mark_else q ne) ∙ l.marks }))

  lets : Holds z W c (lets_go z.callers rows' me.named)
  lets d q below is apart = let y = left q is in let x = f.here.0 d q below y.1 apart in (still_retired q y.0 x.0, x.1)

  takes : Takes z W c []
  takes q home none free fresh = dite (ℕ_discrete q r) (λ is. absurd (true_false (sym (is_free q is) ∙ free)))
      (λ ne. f.call.0.3 q home (sym (spot_else q ne) ∙ none) (sym (ap (λ (m : Marks). m.free) (mark_else q ne)) ∙ free) (λ y. fresh (mark_else q ne ∙ y)))

  off : Holds z W c (linearized_is (is_done a) [] [] [])
  off = (f.call.0.0, f.call.0.1, f.call.0.2, takes, record { passes = f.call.0.4.passes; unread = f.call.0.4.unread })

  answers : (b : Closing) → Each z (world s G) c (answer_known c me b) → Each z W c (answer_known c me b)
  answers (Plain x) g = g
  answers (Batch m) g = g
  answers Full g = g

  abbrev k1 : Caller
  k1 = record me { point = point.Close a close.ClearAnn; retired = rows' }

  row_freed : Lawful z (changed s c memory' s.history k1)
  row_freed = preserves z s L c memory' s.history G' k1 Touch (λ q t. ap z.home t.0 ∙ t.1.at_home) rely
      (λ d ne. record { linearized = refl; made = refl; drafts = drafts_same z (world s G) W refl refl refl d; hazard = refl; held = refl; row_hazard = refl; row_held = refl; debts = others d ne })
      marked' L.history L.queue L.owners
      (record { rows = listed'; item_rows = L.list.item_rows; head = L.list.head; tail = L.list.tail; counts = L.list.counts; links = L.list.links })
      L.announced
      (told_plain z s L c memory' G' k1 f.call.0.1 L.told)
      (waits_plain z s L c memory' G' k1 f.call.0.1 (waits_there z s L c) (λ b waits. let p = L.pending b waits in
      let other : (i : ℕ) → i < chain_rows (s.memory.notice b).counts → G.chain i ≢ r = λ i below e. taken_apart _ (s.memory.mark (G.chain i)) (p.marks i below) (ap s.memory.mark e ∙ (loose_now (ap G.spot (sym e) ∙ p.unlinked i below)).marks) in
      pending_same z s.memory.link s.memory.link s.memory.value s.memory.value s.memory.mark memory'.mark G.spot G'.spot G.chain (G.linearized (owner_of z b)) (G.linearized (owner_of z b)) (s.memory.notice b) (owner_of z b) (s.callers (owner_of z b))
      (λ _ _. refl) (λ _ _. refl) (λ i below. mark_else (G.chain i) (other i below)) (λ i below. spot_else (G.chain i) (other i below) ∙ p.unlinked i below) refl p))
      (let o = L.callers c in record {
        guards = o.guards;
        guards_row = record {
          word = o.guards_row.word;
          holds = o.guards_row.holds;
          placed = λ q holds none. o.guards_row.placed q holds (sym (spot_else q (λ is. nobody c (holds ∙ ap Some is))) ∙ none);
          known = o.guards_row.known;
        };
        own_groups = o.own_groups;
        allowed = o.allowed;
        knows = record {
          retired = fewer;
          started = o.knows.started;
          last = kept_lists s.history c me k1.point me.rows me.values me.walked rows' me.named me.hold me.row_hold o.knows.last;
          at_point = record { call = (off, answers_so z W c me k1.point me.rows me.walked rows' me.named me.hold me.row_hold a (answers a f.call.1)); here = ((refl, f.here.1.1.0.1), tt) };
        };
      })

  -- nobody holds the others then
  lets_now : Holds z (world (changed s c memory' s.history k1) row_freed.ghost) c (lets_go z.callers rows' me.named)
  lets_now d q below is apart = (
    (subst (λ (y : Caller). RetiresThese z (world (changed s c memory' s.history k1) row_freed.ghost) c y.retired) (put_here s.callers c k1) (row_freed.callers c).knows.retired).each q is,
    λ holds. (lets d q below is apart).1 ((L.callers d).guards_row.holds ∙ (sym (put_all s.callers c k1 (λ e y. held_by y.row_hold ≡ held_by (s.callers e).row_hold) refl (λ _ _. refl) d) ∙ (sym (row_freed.callers d).guards_row.holds ∙ holds))),
  )

  pub goes_on : Lawful z (step_at z s c (point.Close a (close.MarkFree r)))
  goes_on = let g = knows_there z s c memory' s.history k1 row_freed k1.point refl in goes_there z s c memory' s.history k1 row_freed (frees_next (length s.history) c (record me { retired = rows' }) a)
      (frees_so z (changed s c memory' s.history k1) row_freed c a g.call.0 (record me { retired = rows' }) (may_close_there z s c memory' s.history k1 row_freed a me.point me.rows me.walked me.named g.call.1) f.here.1.1.0.0 f.here.1.1.0.1 lets_now)

pub preserves_free : (z : LaneSizes) (s : State) (L : Lawful z s) (c : ℕ) (a : Closing) (r : ℕ) → (s.callers c).point ≡ point.Close a (close.MarkFree r) → Lawful z (step_at z s c (point.Close a (close.MarkFree r)))
preserves_free z s L c a r is = goes_on z s L c a r (known z s L c (point.Close a (close.MarkFree r)) is)
