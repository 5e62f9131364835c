-- A caller sets marks of a row at a position that it had to set. Who sets the second of them has the row in its retired list
-- from then on.
use Rattle.std.proofs.Common.{◌≡◌, ◌≢◌, ◌⊎◌, inl, inr, ⊎_elim, ℕ, ◌<◌, Bool, true, false, [], ◌∷◌, ◌++◌, sym, refl, ap, ◌∙◌, subst, le_refl, Some, None}
use Rattle.std.proofs.lemmas.List.{append-nil}
use mathlib.Core.Logic.{dite}
use native.Mathlib.Decide.{ℕ_discrete}
use Rattle.node_guard.specs.Pick.{among}
use Rattle.word_rows.specs.declared.marks.Marks.{Marks}
use Rattle.lane_steps.specs.Functions.{put}
use Rattle.lane_steps.specs.LaneSizes.{LaneSizes}
use Rattle.lane_steps.specs.Batches.{owner_of}
use Rattle.lane_steps.specs.State.{Memory, Caller, State}
use Rattle.lane_steps.specs.Step.{retires}
use Rattle.core_model.specs.Ghost.{Due, due, owes, paid, is_paid, Ghost, World, RetiredBy}
use Rattle.core_model.specs.Rows.{Loose, Retires, RetiresThese}
use Rattle.core_model.specs.Facts.{Knows}
use Rattle.core_model.specs.Lawful.{Marked, Guards, GuardsRow, OwnGroups, Allowed, Lawful}
use Rattle.core_model.proofs.Puts.{put_here, put_else, put_all}
use Rattle.core_model.proofs.Rely.{world, true_false, one_some, some_none, anns_same, rows_same, NoDebts, Rely}
use Rattle.core_model.proofs.Lists.{among_pushed, among_last, among_before, distinct_push, not_among}
use Rattle.core_model.proofs.Owing.{due_owes, owes_paid, one_owes}
use Rattle.core_model.proofs.Preserves.{Plain, preserves, changed, drafts_same, told_plain, waits_plain, waits_there}
use Rattle.core_model.proofs.Announces.{pending_same}

pub is_set : (d : Due) → is_paid d ≡ true → d ≡ paid
is_set due e = absurd (true_false (sym e))
is_set (owes c) e = absurd (true_false (sym e))
is_set paid e = refl

pub not_set : (d : Due) → is_paid d ≡ false → d ≢ paid
not_set d e is = true_false (sym (ap is_paid is) ∙ e)

paid_due : {d : Due} → d ≡ paid → d ≡ due → ⊥
paid_due e f = never (sym e ∙ f) where
  never : paid ≡ due → ⊥
  never e = cc e

-- A mark of a position: it stays, or the caller c sets it.
abbrev pub Pays : ℕ → Due → Due → Type 0
Pays c old new = (new ≡ old) ⊎ ((old ≡ owes c) × (new ≡ paid))

module _ (z : LaneSizes) (s : State) (L : Lawful z s) (c : ℕ) where
  abbrev G : Ghost
  G = L.ghost

  abbrev me : Caller
  me = s.callers c

  -- the caller c sets marks of the row r at the position i, so that they are m
  module _ (r i : ℕ) (at : L.ghost.spot r ≡ Some i) (m : Marks) (reader' passer' : ℕ → Due)
      (reads_else : (j : ℕ) → j ≢ i → reader' j ≡ L.ghost.reader j) (passes_else : (j : ℕ) → j ≢ i → passer' j ≡ L.ghost.passer j)
      (reads : Pays c (L.ghost.reader i) (reader' i)) (passes : Pays c (L.ghost.passer i) (passer' i)) (one : L.ghost.reader i ≡ paid → L.ghost.passer i ≡ paid → ⊥)
      (read_is : m.read ≡ is_paid (reader' i)) (passed_is : m.passed ≡ is_paid (passer' i)) (kept_is : m.free ≡ false) (before : passer' i ≡ paid → i < L.ghost.head) where
    abbrev memory' : Memory
    memory' = record s.memory { mark = put s.memory.mark r m }

    abbrev G' : Ghost
    G' = record L.ghost { reader = reader'; passer = passer'; keeper = put L.ghost.keeper i c }

    abbrev W : World
    W = record { memory = memory'; history = s.history; ghost = G' }

    -- the position of another row is another one
    apart : (q j : ℕ) → G.spot q ≡ Some j → q ≢ r → j ≢ i
    apart q j there ne e = ne (sym (L.list.rows.placed q j there).1 ∙ (ap G.path e ∙ (L.list.rows.placed r i at).1))

    same_row : (q : ℕ) → G.spot q ≡ Some i → r ≡ q
    same_row q there = sym (L.list.rows.placed r i at).1 ∙ (L.list.rows.placed q i there).1

    unlinked_else : (q : ℕ) → G.spot q ≡ None → q ≢ r
    unlinked_else q none e = some_none (sym at ∙ (ap G.spot (sym e) ∙ none))

    mark_else : (q : ℕ) → q ≢ r → put s.memory.mark r m q ≡ s.memory.mark q
    mark_else q ne = put_else s.memory.mark r m q ne

    pub marking : Rely z (λ _. ⊥) (world s L.ghost) record { memory = record s.memory { mark = put s.memory.mark r m }; history = s.history; ghost = record L.ghost { reader = reader'; passer = passer'; keeper = put L.ghost.keeper i c } }
    marking = record {
      longer = le_refl _;
      heads = le_refl _;
      tails = le_refl _;
      path_same = λ _ _. refl;
      chained_same = λ _ _. refl;
      spot_own = λ _ u _. u;
      rows = rows_same (world s G) W (λ _ _ there. there) refl;
      on_same = λ j q on _. (on.link, refl);
      link_own = λ _ _ _. refl;
      value_own = λ _ _ _. refl;
      mark_own = λ q none _. mark_else q (unlinked_else q none);
      value_path = λ _ _ _. refl;
      anns = anns_same z (world s G) W refl refl refl refl refl refl refl;
      holds = λ _ _ e. inl e;
      more = ([], sym (append-nil s.history));
    }

    -- what is true of the marks at this position and at all others
    marked_by : (P : Marks → ℕ → Type 0) → P m i → ((q j : ℕ) → G.spot q ≡ Some j → j ≢ i → P (s.memory.mark q) j) → (q j : ℕ) → G.spot q ≡ Some j → P (memory'.mark q) j
    marked_by P here else q j there = put_all s.memory.mark r m (λ q y. G.spot q ≡ Some j → P y j) (λ there. subst (P m) (one_some (sym at ∙ there)) here) (λ q ne there. else q j there (apart q j there ne)) q there

    -- a mark that stays or is set was due to nobody else
    kept_due : (old new : ℕ → Due) → Pays c (old i) (new i) → ((j : ℕ) → j ≢ i → new j ≡ old j) → (j : ℕ) → old j ≡ due → new j ≡ due
    kept_due old new pays else j e = dite (ℕ_discrete j i)
        (λ is. let here = ap old (sym is) ∙ e in ap new is ∙ ⊎_elim (λ (x : new i ≡ old i). x ∙ here) (λ (x : (old i ≡ owes c) × (new i ≡ paid)). absurd (due_owes here x.0)) pays)
        (λ ne. else j ne ∙ e)

    no_due : (old new : ℕ → Due) → Pays c (old i) (new i) → ((j : ℕ) → j ≢ i → new j ≡ old j) → (j : ℕ) → new j ≡ due → old j ≡ due
    no_due old new pays else j e = dite (ℕ_discrete j i)
        (λ is. let here = ap new (sym is) ∙ e in ap old is ∙ ⊎_elim (λ (x : new i ≡ old i). sym x ∙ here) (λ (x : (old i ≡ owes c) × (new i ≡ paid)). absurd (paid_due x.1 here)) pays)
        (λ ne. sym (else j ne) ∙ e)

    marked' : Marked memory'.mark G.spot reader' passer' G.head G.shown
    marked' = record {
      kept = λ q j there. marked_by (λ y j. y.free ≡ false) kept_is (λ q j there _. L.marks.kept q j there) q j there;
      read = λ q j there. marked_by (λ y j. y.read ≡ is_paid (reader' j)) read_is (λ q j there ne. L.marks.read q j there ∙ ap is_paid (sym (reads_else j ne))) q j there;
      passed = λ q j there. marked_by (λ y j. y.passed ≡ is_paid (passer' j)) passed_is (λ q j there ne. L.marks.passed q j there ∙ ap is_paid (sym (passes_else j ne))) q j there;
      unread = λ j above. kept_due G.reader reader' reads reads_else j (L.marks.unread j above);
      unpassed = λ j from. kept_due G.passer passer' passes passes_else j (L.marks.unpassed j from);
      was_read = λ j below none. L.marks.was_read j below (no_due G.reader reader' reads reads_else j none);
      was_passed = λ j below none. L.marks.was_passed j below (no_due G.passer passer' passes passes_else j none);
      behind = λ j is. dite (ℕ_discrete j i) (λ e. subst (λ (x : ℕ). x < G.head) (sym e) (before (ap passer' (sym e) ∙ is))) (λ ne. L.marks.behind j (sym (passes_else j ne) ∙ is));
    }

    -- the retired rows of all callers are the same, but for this one
    still : (d q j : ℕ) → RetiredBy (world s G) d q j → RetiredBy W d q j
    still d q j x = let ne : j ≢ i = λ e. one (ap G.reader (sym e) ∙ x.was_read) (ap G.passer (sym e) ∙ x.was_passed) in
        record { spot = x.spot; before = x.before; was_read = reads_else j ne ∙ x.was_read; was_passed = passes_else j ne ∙ x.was_passed; kept = put_else G.keeper i c j ne ∙ x.kept }

    back : (d q j : ℕ) → j ≢ i → RetiredBy W d q j → RetiredBy (world s G) d q j
    back d q j ne x = record { spot = x.spot; before = x.before; was_read = sym (reads_else j ne) ∙ x.was_read; was_passed = sym (passes_else j ne) ∙ x.was_passed; kept = sym (put_else G.keeper i c j ne) ∙ x.kept }

    -- what another caller has to set stays so
    owed_still : (old new : ℕ → Due) → Pays c (old i) (new i) → ((j : ℕ) → j ≢ i → new j ≡ old j) → (d j : ℕ) → d ≢ c → old j ≡ owes d → new j ≡ owes d
    owed_still old new pays else d j other e = dite (ℕ_discrete j i)
        (λ is. let here = ap old (sym is) ∙ e in ap new is ∙ ⊎_elim (λ (x : new i ≡ old i). x ∙ here) (λ (x : (old i ≡ owes c) × (new i ≡ paid)). absurd (other (one_owes (sym here ∙ x.0)))) pays)
        (λ ne. else j ne ∙ e)

    owed_before : (old new : ℕ → Due) → Pays c (old i) (new i) → ((j : ℕ) → j ≢ i → new j ≡ old j) → (d j : ℕ) → new j ≡ owes d → old j ≡ owes d
    owed_before old new pays else d j e = dite (ℕ_discrete j i)
        (λ is. let here = ap new (sym is) ∙ e in ap old is ∙ ⊎_elim (λ (x : new i ≡ old i). sym x ∙ here) (λ (x : (old i ≡ owes c) × (new i ≡ paid)). absurd (owes_paid here x.1)) pays)
        (λ ne. sym (else j ne) ∙ e)

    others : (d : ℕ) → d ≢ c → NoDebts (world s G) W d
    others d ne = record {
      near = record {
        reads = λ j e. owed_still G.reader reader' reads reads_else d j ne e;
        passes = λ j e. owed_still G.passer passer' passes passes_else d j ne e;
        retired = still d;
        no_retired = λ q j x. back d q j (λ e. ne (sym x.kept ∙ (ap (put G.keeper i c) e ∙ put_here G.keeper i c))) x;
      };
      no_reads = λ j e. owed_before G.reader reader' reads reads_else d j e;
      no_passes = λ j e. owed_before G.passer passer' passes passes_else d j e;
    }

    -- the caller itself has no new mark to set
    pub none_new : (j d : ℕ) → (reader' j ≡ owes d → L.ghost.reader j ≡ owes d) × (passer' j ≡ owes d → L.ghost.passer j ≡ owes d)
    none_new j d = ((λ e. owed_before G.reader reader' reads reads_else d j e), λ e. owed_before G.passer passer' passes passes_else d j e)

    -- the caller goes on as k, which knows this
    pub marks_set : Plain z L.ghost c → (k : Caller) → k.hold ≡ (s.callers c).hold → k.row_hold ≡ (s.callers c).row_hold → OwnGroups c s.history k (L.ghost.linearized c) → Allowed z k.mine k.ops
        → Knows z record { memory = record s.memory { mark = put s.memory.mark r m }; history = s.history; ghost = record L.ghost { reader = reader'; passer = passer'; keeper = put L.ghost.keeper i c } } c k → Lawful z (changed s c (record s.memory { mark = put s.memory.mark r m }) s.history k)
    marks_set plain k hold row_hold groups allowed knows = preserves z s L c memory' s.history G' k (λ _. ⊥) (λ _ x. absurd x) marking
        (λ d ne. record { linearized = refl; made = refl; drafts = drafts_same z (world s G) W refl refl refl d; hazard = refl; held = refl; row_hazard = refl; row_held = refl; debts = others d ne })
        marked' L.history L.queue L.owners L.list L.announced
        (told_plain z s L c memory' G' k plain L.told)
        (waits_plain z s L c memory' G' k plain (waits_there z s L c) (λ a waits. let p = L.pending a waits in
        pending_same z s.memory.link s.memory.link s.memory.value s.memory.value s.memory.mark memory'.mark G.spot G.spot G.chain (G.linearized (owner_of z a)) (G.linearized (owner_of z a)) (s.memory.notice a) (owner_of z a) (s.callers (owner_of z a))
        (λ _ _. refl) (λ _ _. refl) (λ j below. mark_else (G.chain j) (unlinked_else (G.chain j) (p.unlinked j below))) p.unlinked refl p))
        (record { guards = subst (Guards z memory' G' c) (sym hold) (L.callers c).guards; guards_row = subst (GuardsRow z memory' G' c) (sym row_hold) (L.callers c).guards_row; own_groups = groups; allowed = allowed; knows = knows })

    -- rows that were never linked are as they were
    loose_there : (q : ℕ) → Loose z (world s G) c q → Loose z W c q
    loose_there q l = record { at_home = l.at_home; inside = l.inside; unlinked = l.unlinked; marks = mark_else q (unlinked_else q l.unlinked) ∙ l.marks }

    loose_was : (q : ℕ) → Loose z W c q → Loose z (world s G) c q
    loose_was q l = record { at_home = l.at_home; inside = l.inside; unlinked = l.unlinked; marks = sym (mark_else q (unlinked_else q l.unlinked)) ∙ l.marks }

    still_retired : (q : ℕ) → Retires z (world s G) c q → Retires z W c q
    still_retired q (inl (j, x)) = inl (j, still c q j x)
    still_retired q (inr l) = inr (loose_there q l)

    -- the row isn't in the list yet
    not_yet : Retires z (world s G) c r → ⊥
    not_yet (inl (j, x)) = let same = one_some (sym x.spot ∙ at) in one (ap G.reader (sym same) ∙ x.was_read) (ap G.passer (sym same) ∙ x.was_passed)
    not_yet (inr l) = some_none (sym at ∙ l.unlinked)

    abbrev list : RetiresThese z (world s L.ghost) c (s.callers c).retired
    list = (L.callers c).knows.retired

    -- it joins the list where both marks are set
    joins : reader' i ≡ paid → passer' i ≡ paid → RetiresThese z W c (me.retired ++ r ∷ [])
    joins read passed = record {
      distinct = distinct_push me.retired r list.distinct (not_among me.retired r (λ is. not_yet (list.each r is)));
      each = λ q is. ⊎_elim (λ (e : r ≡ q). inl (i, subst (λ (x : ℕ). RetiredBy W c x i) e (record { spot = at; before = before passed; was_read = read; was_passed = passed; kept = put_here G.keeper i c })))
          (λ (old : among me.retired q ≡ true). still_retired q (list.each q old)) (among_pushed me.retired r q is);
      all = λ q x. all q x;
    } where
      all : (q : ℕ) → Retires z W c q → among (me.retired ++ r ∷ []) q ≡ true
      all q (inl (j, x)) = dite (ℕ_discrete j i) (λ e. among_last me.retired r q (same_row q (x.spot ∙ ap Some e))) (λ ne. among_before me.retired r q (list.all q (inl (j, back c q j ne x))))
      all q (inr l) = among_before me.retired r q (list.all q (inr (loose_was q l)))

    stays_out : (reader' i ≡ paid → passer' i ≡ paid → ⊥) → RetiresThese z W c me.retired
    stays_out not_both = record { distinct = list.distinct; each = λ q is. still_retired q (list.each q is); all = λ q x. all q x } where
      all : (q : ℕ) → Retires z W c q → among me.retired q ≡ true
      all q (inl (j, x)) = list.all q (inl (j, back c q j (λ e. not_both (ap reader' (sym e) ∙ x.was_read) (ap passer' (sym e) ∙ x.was_passed)) x))
      all q (inr l) = list.all q (inr (loose_was q l))

    pub retired_now : (b : Bool) → (b ≡ true → (reader' i ≡ paid) × (passer' i ≡ paid)) → (b ≡ false → reader' i ≡ paid → passer' i ≡ paid → ⊥)
        → RetiresThese z record { memory = record s.memory { mark = put s.memory.mark r m }; history = s.history; ghost = record L.ghost { reader = reader'; passer = passer'; keeper = put L.ghost.keeper i c } } c (retires (s.callers c) r b).retired
    retired_now true now not_now = let both = now refl in joins both.0 both.1
    retired_now false now not_now = stays_out (not_now refl)
