-- A caller stores into a row that is its own and isn't linked: the marks, the link or the value. All others stay.
use Rattle.std.proofs.Common.{◌≡◌, ◌≢◌, ◌⊎◌, inl, inr, ℕ, suc, ◌+◌, ◌<◌, ◌≤◌, Bool, true, List, [], sym, refl, ap, ◌∙◌, subst, arith, le_refl, Some}
use Rattle.bq_model.specs.Queue.{unshut}
use Rattle.std.proofs.lemmas.List.{append-nil}
use Rattle.word_rows.specs.declared.marks.Marks.{Marks}
use Rattle.word_rows.specs.declared.link_word.LinkWord.{LinkWord}
use Rattle.lane_steps.specs.declared.point.Point.{Point}
use Rattle.lane_steps.specs.LaneSizes.{LaneSizes}
use Rattle.lane_steps.specs.Batches.{owner_of}
use Rattle.lane_steps.specs.Stopper.{chain_rows}
use Rattle.lane_steps.specs.State.{Memory, Caller, State, both_marks}
use Rattle.lane_steps.specs.Take.{taken_marks}
use Rattle.lane_steps.specs.Fact.{linearized_is}
use Rattle.core_model.specs.Ghost.{Ghost, World, positions, Unlinked}
use Rattle.core_model.specs.Rows.{Takes, Debts, Loose}
use Rattle.core_model.specs.Facts.{Holds, AtPoint, Knows}
use Rattle.core_model.specs.Lawful.{LinksIn, Listed, Marked, Guards, GuardsRow, OwnGroups, Allowed, Lawful}
use Rattle.core_model.proofs.Puts.{run_same}
use Rattle.core_model.proofs.Rely.{world, true_false, some_none, anns_same, rows_same, Rely}
use Rattle.core_model.proofs.RowsStable.{debts_stable, retires_stable}
use Rattle.core_model.proofs.Preserves.{Plain, preserves, changed, drafts_same, debts_same, told_plain, waits_plain, waits_there, kept_lists}
use Rattle.core_model.proofs.Announces.{told_same, pending_same, rows_within}

-- a free row has other marks than a retired one, and so has one that was taken
pub free_apart : (m : Marks) → m.free ≡ true → m ≢ both_marks
free_apart m free e = true_false (sym free ∙ ap (λ (y : Marks). y.free) e)

pub taken_apart : (b : Bool) (m : Marks) → m ≡ taken_marks b → m ≢ both_marks
taken_apart b m taken e = true_false (ap (λ (y : Marks). y.passed) (sym e ∙ taken))

module _ (z : LaneSizes) (s : State) (L : Lawful z s) (c : ℕ) where
  abbrev G : Ghost
  G = L.ghost

  abbrev me : Caller
  me = s.callers c

  -- a store into the row r leaves all others
  module _ (r : ℕ) (home : z.home r ≡ c) (off : Unlinked (world s L.ghost) r) (link' : ℕ → LinkWord) (value' : ℕ → ℕ) (mark' : ℕ → Marks)
      (links : (q : ℕ) → q ≢ r → link' q ≡ s.memory.link q) (values : (q : ℕ) → q ≢ r → value' q ≡ s.memory.value q) (marks : (q : ℕ) → q ≢ r → mark' q ≡ s.memory.mark q)
      (ranges : (q : ℕ) → LinksIn z.rows (link' q)) where
    abbrev memory' : Memory
    memory' = record s.memory { link = link'; value = value'; mark = mark' }

    abbrev W : World
    W = record { memory = memory'; history = s.history; ghost = G }

    -- the row is not one with a position
    placed : (q i : ℕ) → G.spot q ≡ Some i → q ≢ r
    placed q i at e = some_none (sym at ∙ (ap G.spot e ∙ off))

    on_path : (i : ℕ) → G.head ≤ i → i < positions G → G.path i ≢ r
    on_path i from below = placed (G.path i) i (L.list.rows.spots i from below)

    rely : Rely z (λ q. q ≡ r) (world s G) W
    rely = record {
      longer = le_refl _;
      heads = le_refl _;
      tails = le_refl _;
      path_same = λ _ _. refl;
      chained_same = λ _ _. refl;
      spot_own = λ _ u _. u;
      rows = rows_same (world s G) W (λ _ _ at. at) refl;
      on_same = λ i q on _. let e = links q (placed q i on.spot) in (((λ l. e ∙ on.link.0 l), λ l. e ∙ on.link.1 l), values q (placed q i on.spot));
      link_own = λ q _ touch. links q touch;
      value_own = λ q _ touch. values q touch;
      mark_own = λ q _ touch. marks q touch;
      value_path = λ i from below. values (G.path i) (on_path i from below);
      anns = anns_same z (world s G) W refl refl refl refl refl refl refl;
      holds = λ _ _ e. inl e;
      more = ([], sym (append-nil s.history));
    }

    listed' : Listed z.rows link' G.path G.chained G.spot G.head G.rest
    listed' = record {
      joined = λ i from below. links (G.path i) (on_path i from (omega arith)) ∙ L.list.rows.joined i from below;
      last = links (G.path (G.head + G.rest)) (on_path (G.head + G.rest) (omega arith) (omega arith)) ∙ L.list.rows.last;
      spots = L.list.rows.spots;
      inside = L.list.rows.inside;
      placed = L.list.rows.placed;
    }

    marked' : Marked mark' G.spot G.reader G.passer G.head G.shown
    marked' = record {
      kept = λ q i at. ap (λ (m : Marks). m.free) (marks q (placed q i at)) ∙ L.marks.kept q i at;
      read = λ q i at. ap (λ (m : Marks). m.read) (marks q (placed q i at)) ∙ L.marks.read q i at;
      passed = λ q i at. ap (λ (m : Marks). m.passed) (marks q (placed q i at)) ∙ L.marks.passed q i at;
      unread = L.marks.unread;
      unpassed = L.marks.unpassed;
      was_read = L.marks.was_read;
      was_passed = L.marks.was_passed;
      behind = L.marks.behind;
    }

    -- the caller goes on as k, which knows this
    pub rows_stored : Plain z L.ghost c → (k : Caller) → k.hold ≡ (s.callers c).hold → k.row_hold ≡ (s.callers c).row_hold → OwnGroups c s.history k (L.ghost.linearized c) → Allowed z k.mine k.ops
        → Knows z (record { memory = record s.memory { link = link'; value = value'; mark = mark' }; history = s.history; ghost = L.ghost }) c k → Lawful z (changed s c (record s.memory { link = link'; value = value'; mark = mark' }) s.history k)
    rows_stored plain k hold row_hold groups allowed knows = preserves z s L c memory' s.history G k (λ q. q ≡ r) (λ q e. ap z.home e ∙ home) rely
        (λ d _. record { linearized = refl; made = refl; drafts = drafts_same z (world s G) W refl refl refl d; hazard = refl; held = refl; row_hazard = refl; row_held = refl; debts = debts_same (world s G) W refl refl refl refl refl d })
        marked' L.history
        (L.queue ∙ ap unshut (run_same (λ i. s.memory.value (G.path i)) (λ i. value' (G.path i)) (suc (G.head + G.shown)) G.queued (λ j from below. let fits = L.list.head.fits in sym (values (G.path j) (on_path j (omega arith) (omega arith))))))
        L.owners
        (record { rows = listed'; item_rows = L.list.item_rows; head = L.list.head; tail = L.list.tail; counts = L.list.counts; links = ranges })
        L.announced
        (told_plain z s L c memory' G k plain (λ a at_head. told_same z.home s.memory.value value' G.path G.path (G.stage a) (s.memory.notice a) (owner_of z a) (s.callers (owner_of z a))
        (λ i j d from below. let inside = rows_within (L.announced.bound a i d) in let head = (L.announced.standing a i at_head d).from in values (G.path j) (on_path j (omega arith) (omega arith))) (L.told a at_head)))
        (waits_plain z s L c memory' G k plain (waits_there z s L c) (λ a waits. let p = L.pending a waits in
        let other : (i : ℕ) → i < chain_rows (s.memory.notice a).counts → G.chain i ≢ r = λ i below e. plain a (waits_there z s L c a waits) (sym (p.homes i below) ∙ (ap z.home e ∙ home)) in
        pending_same z s.memory.link link' s.memory.value value' s.memory.mark mark' G.spot G.spot G.chain (G.linearized (owner_of z a)) (G.linearized (owner_of z a)) (s.memory.notice a) (owner_of z a) (s.callers (owner_of z a))
        (λ i below. links (G.chain i) (other i below)) (λ i below. values (G.chain i) (other i below)) (λ i below. marks (G.chain i) (other i below)) p.unlinked refl p))
        (record {
          guards = subst_guards;
          guards_row = subst_guards_row;
          own_groups = groups;
          allowed = allowed;
          knows = knows;
        }) where
          subst_guards : Guards z memory' G c k.hold
          subst_guards = subst (Guards z memory' G c) (sym hold) (L.callers c).guards

          subst_guards_row : GuardsRow z memory' G c k.row_hold
          subst_guards_row = subst (GuardsRow z memory' G c) (sym row_hold) (L.callers c).guards_row

    -- the marks that the caller has yet to set are the same
    pub debts_stored : (ps rs : List ℕ) → Debts z (world s L.ghost) c ps rs → Debts z (record { memory = record s.memory { link = link'; value = value'; mark = mark' }; history = s.history; ghost = L.ghost }) c ps rs
    debts_stored ps rs x = debts_stable z (λ q. q ≡ r) (world s G) W rely c (debts_same (world s G) W refl refl refl refl refl c) ps rs x

    -- so are the rows that it has taken, where the marks are left
    pub linearized_stored : mark' ≡ s.memory.mark → (b : Bool) (rows ps rs : List ℕ) → Holds z (world s L.ghost) c (linearized_is b rows ps rs)
        → Holds z (record { memory = record s.memory { link = link'; value = value'; mark = mark' }; history = s.history; ghost = L.ghost }) c (linearized_is b rows ps rs)
    linearized_stored same b rows ps rs x = (x.0, x.1, x.2, takes, debts_stored ps rs x.4) where
      takes : Takes z W c rows
      takes q at none taken fresh = let e = ap (λ (m : ℕ → Marks). m q) same in x.3 q at none (sym (ap (λ (m : Marks). m.free) e) ∙ taken) (λ y. fresh (e ∙ y))

    -- where the row was not retired, and isn't
    module _ (taken : s.memory.mark r ≢ both_marks) (goes : mark' r ≢ both_marks) where
      not_loose : (q : ℕ) → Loose z (world s G) c q ⊎ Loose z W c q → q ≢ r
      not_loose q (inl l) e = taken (ap s.memory.mark (sym e) ∙ l.marks)
      not_loose q (inr l) e = goes (ap mark' (sym e) ∙ l.marks)

      -- the caller goes on at the point t, with these rows taken and these found named
      pub row_stored : Plain z L.ghost c → (t : Point) (rows named : List ℕ) → AtPoint z (record { memory = record s.memory { link = link'; value = value'; mark = mark' }; history = s.history; ghost = L.ghost }) c (record (s.callers c) { point = t; rows = rows; named = named }) t
          → Lawful z (changed s c (record s.memory { link = link'; value = value'; mark = mark' }) s.history (record (s.callers c) { point = t; rows = rows; named = named }))
      row_stored plain t rows named knows = rows_stored plain (record me { point = t; rows = rows; named = named }) refl refl (L.callers c).own_groups (L.callers c).allowed (let f = (L.callers c).knows in record {
        retired = retires_stable z (λ q. q ≡ r) (world s G) W rely c (debts_same (world s G) W refl refl refl refl refl c).near not_loose me.retired f.retired;
        started = f.started;
        last = kept_lists s.history c me t rows me.values me.walked me.retired named me.hold me.row_hold f.last;
        at_point = knows;
      })
