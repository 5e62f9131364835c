-- An announcement is decided, by a link or without one: the command of its owner takes effect, whoever makes the step.
use Rattle.std.proofs.Common.{List, ◌≡◌, ◌≢◌, ◌⊎◌, inl, inr, ⊎_elim, ℕ, suc, ◌+◌, ◌-◌, ◌<◌, ◌≤◌, Bool, true, false, cond, [], ◌∷◌, ◌++◌, sym, refl, ap, ◌∙◌, subst, arith, le_refl, Option, Some, None, length}
use Rattle.bq_model.specs.Queue.{unshut}
use mathlib.Core.Logic.{dite}
use native.Mathlib.Decide.{ℕ_discrete}
use Rattle.bq_model.specs.History.{last_queue}
use Rattle.bq_model.specs.Values.{enqueued}
use Rattle.word_rows.specs.declared.place.Place.{Place}
use Rattle.word_rows.specs.declared.link_word.LinkWord.{LinkWord}
use Rattle.lane_steps.specs.declared.point.Back.{Back}
use Rattle.lane_steps.specs.declared.point.Back.TheVariants as back
use Rattle.lane_steps.specs.declared.point.Point.{Point}
use Rattle.lane_steps.specs.declared.point.Point.TheVariants as point
use Rattle.lane_steps.specs.Functions.{put, run, Distinct}
use Rattle.lane_steps.specs.LaneSizes.{LaneSizes}
use Rattle.lane_steps.specs.Batches.{owner_of}
use Rattle.lane_steps.specs.State.{command, State, own_group, Memory, Caller, both_marks}
use Rattle.lane_steps.specs.Fact.{Fact, reads, takes_effect, since, kept, helps, hazard_is, row_hazard_is}
use Rattle.lane_steps.specs.Help.{back_facts, loaded}
use Rattle.lane_steps.specs.Stopper.{passes}
use Rattle.lane_steps.specs.declared.point.Guarding.TheVariants as guard
use Rattle.lane_steps.specs.declared.point.GuardPoint.TheVariants.{StoreHazard, LoadAgain}
use Rattle.core_model.specs.Facts.{Effect, Holds, Each, AtPoint, Knows, IsOwn}
use Rattle.core_model.specs.Rows.{Takes, Debts, Loose}
use Rattle.core_model.specs.Ghost.{unused, decided, positions, Stage, waiting, Ghost, World, at, is_paid}
use Rattle.core_model.specs.Lawful.{HelpsOwn, Told, OwnGroups, Lawful, shown_queue, queue_owners, shown_owners, InOrder, Bound, Standing, Announced, Pending}
use Rattle.core_model.proofs.Puts.{put_here, put_else, put_all}
use Rattle.core_model.proofs.Groups.{mine-push_other}
use Rattle.lane_steps.specs.Help as helping
use Rattle.core_model.proofs.Stable.{shared_stable, all_shared_stable}
use Rattle.core_model.proofs.OwnStable.{knows_stable}
use Rattle.core_model.proofs.RowsStable.{retires_stable}
use Rattle.core_model.proofs.Owing.{owed_reader, owed_passer, marked_owed, near_owed, no_debts_owed}
use Rattle.core_model.proofs.SharedFacts.{Shared, helping_shared}
use Rattle.core_model.proofs.Rely.{world, unused_waits, unused_decides, one_position, Rely, waits_decides, one_some, some_none, AnnRely, Near, NoDebts}
use Rattle.core_model.proofs.Joins.{joins_proper, joins_mine}
use Rattle.bq_model.specs.declared.group.Group.{Group}
use Rattle.core_model.proofs.Callers.{guards_stable, guards_row_stable}

module _ (z : LaneSizes) (s : State) (L : Lawful z s) (a e : ℕ) where
  abbrev o : ℕ
  o = owner_of z a

  abbrev ko : Caller
  ko = s.callers (owner_of z a)

  abbrev own : Group
  own = own_group (owner_of z a) (s.callers (owner_of z a))

  module _ (not_yet : L.ghost.linearized (owner_of z a) ≡ false) where
    pub all_groups : (d : ℕ) → OwnGroups d (s.history ++ own_group (owner_of z a) (s.callers (owner_of z a)) ∷ []) (s.callers d) (put L.ghost.linearized (owner_of z a) true d)
    all_groups d = dite (ℕ_discrete d o)
        (λ same. subst (λ (y : ℕ). OwnGroups y (s.history ++ own ∷ []) (s.callers y) (put L.ghost.linearized o true y)) (sym same)
        (joins_mine z s L o not_yet ∙ ap (λ (b : Bool). ko.mine ++ cond b (own ∷ []) []) (sym (put_here L.ghost.linearized o true))))
        (λ apart. mine-push_other s.history own d apart ∙ ((L.callers d).own_groups ∙ ap (λ (b : Bool). (s.callers d).mine ++ cond b (own_group d (s.callers d) ∷ []) []) (sym (put_else L.ghost.linearized o true d apart))))

  -- In the new world W the announcement is decided behind the place e, and its batch stands in the history.
  module _ (Touch : ℕ → Type 0) (W : World) (rely : Rely z Touch (world s L.ghost) W) (at_head : L.ghost.ann ≡ Some a) (waits : L.ghost.stage a ≡ waiting)
      (touches : (r : ℕ) → Touch r → (z.home r ≡ owner_of z a) × (s.memory.mark r ≢ both_marks))
      (linearized : (d : ℕ) → W.ghost.linearized d ≡ put L.ghost.linearized (owner_of z a) true d) (alone : (x : ℕ) → W.ghost.ann ≡ Some x → x ≡ a) (decided_here : W.ghost.stage a ≡ decided e)
      (hazard : (d : ℕ) → W.memory.ann_hazard d ≡ s.memory.ann_hazard d) (held : (d : ℕ) → W.ghost.held d ≡ L.ghost.held d)
      (row_hazard : (d : ℕ) → W.memory.node_hazard d ≡ s.memory.node_hazard d) (row_held : (d : ℕ) → W.ghost.row_held d ≡ L.ghost.row_held d)
      (others : (x : ℕ) → x ≢ a → (W.ghost.stage x ≡ L.ghost.stage x) × (W.memory.notice x ≡ s.memory.notice x) × (W.memory.old_tail x ≡ s.memory.old_tail x))
      (marks : (r : ℕ) → W.memory.mark r ≡ s.memory.mark r) (near : Near (world s L.ghost) W (owner_of z a)) (no_debts : (d : ℕ) → d ≢ owner_of z a → NoDebts (world s L.ghost) W d)
      (effect : Takes z (world s L.ghost) (owner_of z a) (s.callers (owner_of z a)).rows × Debts z (world s L.ghost) (owner_of z a) [] [] × Distinct (s.callers (owner_of z a)).rows
      → Effect z W (owner_of z a) a e (s.callers (owner_of z a)).started_at (own_group (owner_of z a) (s.callers (owner_of z a))) (s.callers (owner_of z a)).rows) where
    abbrev G : Ghost
    G = L.ghost

    -- What a helper of the own announcement knows stays; and where that is this one, its group stands in the history.
    sh : (f : Fact) → Shared (world s L.ghost) W (owner_of z a) f → Holds z (world s G) o f → Holds z W o f
    sh f shared x = shared_stable z Touch (world s G) W rely o f shared x

    own_takes_effect : (x : ℕ) → Holds z (world s G) o (takes_effect x ko.rows ko.started_at own) → Holds z W o (takes_effect x ko.rows ko.started_at own)
    own_takes_effect x f = let same = f.only a at_head refl in subst (λ (y : ℕ). Holds z W o (takes_effect y ko.rows ko.started_at own)) same
        (record {
          installed = λ u. unused_decides u decided_here;
          owner = refl;
          stands = λ i d. subst (λ (y : ℕ). Effect z W o a y ko.started_at own ko.rows) (one_position decided_here d) (effect (f.takes (sym (ap G.stage same) ∙ waits)));
          takes = λ w. absurd (waits_decides w decided_here);
          only = λ y at_y _. alone y at_y;
        })

    back_own : (x : ℕ) (b : Back) → IsOwn b → Each z (world s G) o (back_facts o (command ko) x b) → Each z W o (back_facts o (command ko) x b)
    back_own x back.Own _ f = (own_takes_effect x f.0, tt)
    back_own x (back.Enqueue i) bad f = absurd bad
    back_own x back.Dequeue bad f = absurd bad
    back_own x (back.Batch d) bad f = absurd bad
    back_own x (back.Many d) bad f = absurd bad

    helps_stable : (t : Point) → HelpsOwn t → AtPoint z (world s G) o ko t → AtPoint z W o ko t
    helps_stable (point.Help x p) own' f = record {
      call = (sh (reads (loaded p) x) (held o) f.call.0, back_own x.ann x.back own' f.call.1);
      here = all_shared_stable z Touch (world s G) W rely o (helping.knows x p) (helping_shared (world s G) W o (row_held o) x p) f.here;
    }
    helps_stable (point.Guard (guard.Help x) StoreHazard) own' f = record { call = (sh (helps x) tt f.call.0, back_own x.ann x.back own' f.call.1); here = tt }
    helps_stable (point.Guard (guard.Help x) LoadAgain) own' f = record { call = (sh (helps x) tt f.call.0, back_own x.ann x.back own' f.call.1); here = (sh (hazard_is x.ann) (hazard o) f.here.0, tt) }
    helps_stable (point.Guard (guard.HelpTail x q) StoreHazard) own' f = record { call = (sh (reads 4 x) (held o) f.call.0, back_own x.ann x.back own' f.call.1); here = tt }
    helps_stable (point.Guard (guard.HelpTail x q) LoadAgain) own' f = record { call = (sh (reads 4 x) (held o) f.call.0, back_own x.ann x.back own' f.call.1); here = (sh (row_hazard_is q.row) (row_hazard o) f.here.0, tt) }
    helps_stable _ bad f = absurd bad

    -- no row that was touched is retired
    not_loose : (r : ℕ) → Loose z (world s G) o r ⊎ Loose z W o r → ¬ (Touch r)
    not_loose r (inl y) t = (touches r t).1 y.marks
    not_loose r (inr y) t = (touches r t).1 (sym (marks r) ∙ y.marks)

    owner_knows : HelpsOwn ko.point → Knows z W o ko
    owner_knows helping_own = let f = (L.callers o).knows in record {
      retired = retires_stable z Touch (world s G) W rely o near not_loose ko.retired f.retired;
      started = sh (since ko.started_at) tt f.started;
      last = sh (kept ko) tt f.last;
      at_point = helps_stable ko.point helping_own f.at_point;
    }

    pub all_know : HelpsOwn (s.callers (owner_of z a)).point → (d : ℕ) → Knows z W d (s.callers d)
    all_know helping_own d = dite (ℕ_discrete d o) (λ same. subst (λ (y : ℕ). Knows z W y (s.callers y)) (sym same) (owner_knows helping_own))
        (λ apart. knows_stable z Touch (world s G) W rely d (λ r home t. apart (sym home ∙ (touches r t).0)) (linearized d ∙ put_else G.linearized o true d apart)
        (λ x _ u. let w = others x (λ same. unused_waits u (ap G.stage same ∙ waits)) in (w.0 ∙ u, w.1, w.2)) (no_debts d apart) (hazard d) (held d) (row_hazard d) (row_held d) (s.callers d) (L.callers d).knows)

-- The announcement in HEAD waits, and is decided behind the place i, with n rows linked.
module _ (z : LaneSizes) (s : State) (L : Lawful z s) (a i n : ℕ) (waits : L.ghost.stage a ≡ waiting) where
  abbrev g : Ghost
  g = L.ghost

  abbrev owner : ℕ
  owner = owner_of z a

  abbrev kept_by : Caller
  kept_by = s.callers (owner_of z a)

  abbrev group : Group
  group = own_group (owner_of z a) (s.callers (owner_of z a))

  pub at_head : L.ghost.ann ≡ Some a
  at_head = (L.announced.waits a waits).0

  pub bare : L.ghost.shown ≡ 0
  bare = (L.announced.waits a waits).1

  pub waiting_rows : Pending z s.memory.link s.memory.value s.memory.mark L.ghost.spot L.ghost.chain (L.ghost.linearized (owner_of z a)) (s.memory.notice a) (owner_of z a) (s.callers (owner_of z a))
  waiting_rows = L.pending a waits

  pub told_now : Told z.home s.memory.value L.ghost.path (L.ghost.stage a) (s.memory.notice a) (owner_of z a) (s.callers (owner_of z a))
  told_now = L.told a at_head

  alone : (x : ℕ) → g.ann ≡ Some x → x ≡ a
  alone x at_x = one_some (sym at_x ∙ at_head)

  not_a : (x j : ℕ) → g.stage x ≡ decided j → x ≢ a
  not_a x j d same = waits_decides waits (ap g.stage (sym same) ∙ d)

  -- all rows behind the dummy lie behind the shown head, and are the queue
  all_shown : (f : ℕ → ℕ) → run f (suc (L.ghost.head + L.ghost.shown)) L.ghost.queued ≡ run f (suc L.ghost.head) L.ghost.rest
  all_shown f = let none = bare in let fits = L.list.head.fits in λ k. run f (suc ((let e : g.head + g.shown ≡ g.head = omega arith in e) k)) ((let e : g.queued ≡ g.rest = omega arith in e) k)

  pub waiting_queue : last_queue s.history ≡ unshut (run (λ j. s.memory.value (L.ghost.path j)) (suc L.ghost.head) L.ghost.rest)
  waiting_queue = L.queue ∙ ap unshut (all_shown (λ j. s.memory.value (L.ghost.path j)))

  pub waiting_owners : queue_owners s.history ≡ run (λ j. z.home (L.ghost.path j)) (suc L.ghost.head) L.ghost.rest
  waiting_owners = L.owners ∙ all_shown (λ j. z.home (L.ghost.path j))

  some_ops : kept_by.ops ≢ []
  some_ops none = let more = told_now.several in let k = ap length none in absurd (omega arith)

  abbrev stage' : ℕ → Stage
  stage' = put L.ghost.stage a (decided i)

  abbrev span' : ℕ → ℕ
  span' = put L.ghost.span a n

  here_decided : stage' a ≡ decided i
  here_decided = put_here g.stage a (decided i)

  stage_else : (x : ℕ) → x ≢ a → stage' x ≡ g.stage x
  stage_else x apart = put_else g.stage a (decided i) x apart

  span_here : span' a ≡ n
  span_here = put_here g.span a n

  span_else : (x : ℕ) → x ≢ a → span' x ≡ g.span x
  span_else x apart = put_else g.span a n x apart

  none_waits : (x : ℕ) → stage' x ≡ waiting → ⊥
  none_waits x w = dite (ℕ_discrete x a) (λ same. waits_decides w (ap stage' same ∙ here_decided)) (λ apart. apart (alone x (L.announced.waits x (sym (stage_else x apart) ∙ w)).0))

  -- a decided one is this, or it was decided before
  abbrev Decides : ℕ → ℕ → Type 0
  Decides x j = ((x ≡ a) × (j ≡ i)) ⊎ ((x ≢ a) × (g.stage x ≡ decided j))

  which : (x j : ℕ) → stage' x ≡ decided j → Decides x j
  which x j d = dite (ℕ_discrete x a) (λ same. inl (same, one_position d (ap stage' same ∙ here_decided))) (λ apart. inr (apart, sym (stage_else x apart) ∙ d))

  -- the new list, the new links and what OldTail has then
  module _ (path' : ℕ → ℕ) (chained' : ℕ → Bool) (spot' : ℕ → Option ℕ) (rest' shown' got stops queued' : ℕ) (cause' : ℕ → ℕ) (link' : ℕ → LinkWord) (old' : ℕ → Option Place) where
    abbrev pub decided_ghost : Ghost
    decided_ghost = record L.ghost { path = path'; chained = chained'; spot = spot'; rest = rest'; shown = shown'; queued = queued'; linearized = put L.ghost.linearized (owner_of z a) true; stage = put L.ghost.stage a (decided i); span = put L.ghost.span a n; cause = cause'; reader = owed_reader L.ghost.reader L.ghost.head (owner_of z a) got stops; passer = owed_passer L.ghost.passer L.ghost.head (owner_of z a) got stops }

    abbrev pub decided_memory : Memory
    decided_memory = record s.memory { link = link'; old_tail = old' }

    abbrev pub decided_world : World
    decided_world = record { memory = decided_memory; history = s.history ++ own_group (owner_of z a) (s.callers (owner_of z a)) ∷ []; ghost = decided_ghost }

    module _ (old_else : (x : ℕ) → x ≢ a → old' x ≡ s.memory.old_tail x) where
      -- how the announcements go on
      pub anns_decide : (positions L.ghost < suc (L.ghost.head + rest')) ⊎ (n ≡ 0) → AnnRely z (world s L.ghost) decided_world
      anns_decide more = record {
        installed = put_all g.stage a (decided i) (λ x y. g.stage x ≢ unused → y ≢ unused) (λ _ u. unused_decides u refl) (λ x _ there. there);
        waited = λ x w _. absurd (none_waits x w);
        done = λ x j d. stage_else x (not_a x j d) ∙ d;
        decides = λ x j _ d. new_or_old x j (which x j d);
        span_same = λ x j d. span_else x (not_a x j d);
        notice_same = λ _ _. refl;
        old_same = λ x q _ is. old_else x (λ same. some_none (sym is ∙ (ap s.memory.old_tail same ∙ L.announced.unknown a waits))) ∙ is;
        stood = λ x at_x. inl (at_x, refl, λ j d. absurd (not_a x j d (alone x at_x)));
      } where
        linked_or_none : (x : ℕ) → x ≡ a → (positions L.ghost < suc (L.ghost.head + rest')) ⊎ (n ≡ 0) → (positions L.ghost < suc (L.ghost.head + rest')) ⊎ (span' x ≡ 0)
        linked_or_none x same (inl longer) = inl longer
        linked_or_none x same (inr none) = inr (ap span' same ∙ (span_here ∙ none))

        new_or_old : (x j : ℕ) → Decides x j → (g.stage x ≡ decided j) ⊎ (((positions L.ghost < suc (L.ghost.head + rest')) ⊎ (span' x ≡ 0)) × (g.linearized (owner_of z x) ≡ false) × (put g.linearized owner true (owner_of z x) ≡ true))
        new_or_old x j (inl (same, _)) = inr (linked_or_none x same more, ap (λ (y : ℕ). g.linearized (owner_of z y)) same ∙ waiting_rows.not_yet, ap (λ (y : ℕ). put g.linearized owner true (owner_of z y)) same ∙ put_here g.linearized owner true)
        new_or_old x j (inr (_, d)) = inl d

      -- the announcements, where this is bound and stands behind i, and the others are bound as they were
      pub stages_decide : ((j : ℕ) → j ≤ L.ghost.head + L.ghost.rest → path' j ≡ L.ghost.path j)
          → Bound z.first path' chained' cause' (L.ghost.head + rest') L.ghost.tail (s.memory.notice a) a i n
          → ((x j : ℕ) → L.ghost.stage x ≡ decided j → Bound z.first path' chained' cause' (L.ghost.head + rest') L.ghost.tail (s.memory.notice x) x j (L.ghost.span x))
          → Standing L.ghost.head shown' L.ghost.tail (s.memory.notice a) i n
          → ((q : Place) → old' a ≡ Some q → q ≡ at z.first path' i) → (old' a ≡ None → (L.ghost.tail ≤ i) × (0 < n))
          → (L.ghost.tail < L.ghost.head + rest' → chained' L.ghost.tail ≡ true → (L.ghost.tail ≡ i) × (L.ghost.head + rest' ≤ L.ghost.tail + n))
          → Announced z decided_memory decided_ghost
      stages_decide old_path bound_here bound_old standing_here recorded_here open_here lags = let A = L.announced in record {
        inside = A.inside;
        installed = λ x at_x u. unused_decides u (ap stage' (alone x at_x) ∙ here_decided);
        old_head = λ x at_x. A.old_head x at_x ∙ ap (λ (r : ℕ). record { row = r; count = z.first + g.head }) (sym (old_path g.head (omega arith)));
        waits = λ x w. absurd (none_waits x w);
        bound = λ x j d. bound_by x j (which x j d);
        standing = λ x j at_x d. subst (λ (y : ℕ × ℕ). Standing g.head shown' g.tail (s.memory.notice y.0) y.1 (span' y.0)) (λ k. (sym (alone x at_x) k, one_position here_decided (ap stage' (sym (alone x at_x)) ∙ d) k))
            (subst (Standing g.head shown' g.tail (s.memory.notice a) i) (sym span_here) standing_here);
        unknown = λ x w. absurd (none_waits x w);
        recorded = λ x j q d is. recorded_by x j q (which x j d) is;
        unrecorded = λ x j d none. unrecorded_by x j (which x j d) none;
        left = λ x j h d off old. left_by x j h (which x j d) off old;
        lags = λ below by. let l = lags below by in (a, here_decided ∙ ap decided (sym l.0), at_head, subst (λ (y : ℕ). g.head + rest' ≤ g.tail + y) (sym span_here) l.1);
      } where
        bound_by : (x j : ℕ) → Decides x j → Bound z.first path' chained' cause' (g.head + rest') g.tail (s.memory.notice x) x j (span' x)
        bound_by x j (inl (same, here)) = subst (λ (y : ℕ × ℕ). Bound z.first path' chained' cause' (g.head + rest') g.tail (s.memory.notice y.0) y.0 y.1 (span' y.0)) (λ k. (sym same k, sym here k))
            (subst (Bound z.first path' chained' cause' (g.head + rest') g.tail (s.memory.notice a) a i) (sym span_here) bound_here)
        bound_by x j (inr (apart, d)) = subst (Bound z.first path' chained' cause' (g.head + rest') g.tail (s.memory.notice x) x j) (sym (span_else x apart)) (bound_old x j d)

        left_by : (x j h : ℕ) → Decides x j → g.ann ≢ Some x → (s.memory.notice x).old_head ≡ at z.first path' h → h + passes (s.memory.notice x).counts (j - h) ≤ g.head
        left_by x j h (inl (same, _)) off old = absurd (off (at_head ∙ ap Some (sym same)))
        left_by x j h (inr (apart, d)) off old = let dm = (L.announced.bound x j d).old_dummy in let within = (L.announced.bound x j d).within in let before = dm.2 in let count = ap (λ (q : Place). q.count) (sym dm.1 ∙ old) in
            L.announced.left x j h d off (old ∙ ap (λ (r : ℕ). record { row = r; count = z.first + h }) (old_path h (omega arith)))

        recorded_by : (x j : ℕ) (q : Place) → Decides x j → old' x ≡ Some q → q ≡ at z.first path' j
        recorded_by x j q (inl (same, here)) is = recorded_here q (ap old' (sym same) ∙ is) ∙ ap (at z.first path') (sym here)
        recorded_by x j q (inr (apart, d)) is = let within = (L.announced.bound x j d).within in L.announced.recorded x j q d (sym (old_else x apart) ∙ is) ∙ ap (λ (r : ℕ). record { row = r; count = z.first + j }) (sym (old_path j (omega arith)))

        unrecorded_by : (x j : ℕ) → Decides x j → old' x ≡ None → (g.ann ≡ Some x) × (g.tail ≤ j) × (0 < span' x)
        unrecorded_by x j (inl (same, here)) none = let o' = open_here (ap old' (sym same) ∙ none) in (at_head ∙ ap Some (sym same), subst (λ (y : ℕ). g.tail ≤ y) (sym here) o'.0, subst (λ (y : ℕ). 0 < span' y) (sym same) (subst (λ (y : ℕ). 0 < y) (sym span_here) o'.1))
        unrecorded_by x j (inr (apart, d)) none = let u = L.announced.unrecorded x j d (sym (old_else x apart) ∙ none) in (u.0, u.1, subst (λ (y : ℕ). 0 < y) (sym (span_else x apart)) u.2)

      -- THE decision: the owner's command takes effect, and all callers are as they were
      pub decision : (Touch : ℕ → Type 0) → Rely z Touch (world s L.ghost) decided_world
          → ((r : ℕ) → Touch r → (z.home r ≡ owner_of z a) × (s.memory.mark r ≢ both_marks))
          → shown' ≡ got + stops → (0 < stops → got ≡ L.ghost.rest) → ((r j : ℕ) → L.ghost.spot r ≡ Some j → spot' r ≡ Some j)
          → ((r j : ℕ) → spot' r ≡ Some j → (L.ghost.spot r ≡ Some j)
          ⊎ ((L.ghost.head ≤ j) × ((s.memory.mark r).free ≡ false) × ((s.memory.mark r).passed ≡ false) × ((s.memory.mark r).read ≡ is_paid (owed_reader L.ghost.reader L.ghost.head (owner_of z a) got stops j))))
          → (Takes z (world s L.ghost) (owner_of z a) (s.callers (owner_of z a)).rows × Debts z (world s L.ghost) (owner_of z a) [] [] × Distinct (s.callers (owner_of z a)).rows
          → Effect z decided_world (owner_of z a) a i (s.callers (owner_of z a)).started_at (own_group (owner_of z a) (s.callers (owner_of z a))) (s.callers (owner_of z a)).rows)
          → last_queue (s.history ++ own_group (owner_of z a) (s.callers (owner_of z a)) ∷ []) ≡ unshut (shown_queue s.memory.value decided_ghost)
          → queue_owners (s.history ++ own_group (owner_of z a) (s.callers (owner_of z a)) ∷ []) ≡ shown_owners z.home decided_ghost
          → InOrder z decided_memory (s.history ++ own_group (owner_of z a) (s.callers (owner_of z a)) ∷ []) decided_ghost
          → Announced z decided_memory decided_ghost
          → enqueued (s.callers (owner_of z a)).ops ≡ run (λ j. s.memory.value (path' j)) (suc i) (s.memory.notice a).counts.enqs
          → Lawful z record { memory = decided_memory; history = s.history ++ own_group (owner_of z a) (s.callers (owner_of z a)) ∷ []; callers = s.callers }
      decision Touch rely touches shows last there new_rows effect queue owners list announced values = record {
        ghost = decided_ghost;
        sizes = L.sizes;
        marks = marked_owed z s L bare owner got stops decided_memory (s.history ++ group ∷ []) decided_ghost (le_refl _) (ap (λ (y : ℕ). g.head + y) shows) last new_rows;
        history = joins_proper z s L owner waiting_rows.not_yet waiting_rows.known some_ops told_now.plain;
        queue = queue;
        owners = owners;
        list = list;
        announced = announced;
        told = λ x at_x. subst (λ (y : ℕ). Told z.home s.memory.value path' (stage' y) (s.memory.notice y) (owner_of z y) (s.callers (owner_of z y))) (sym (alone x at_x)) told_after;
        pending = λ x w. absurd (none_waits x w);
        callers = λ d. record {
          guards = guards_stable z (world s L.ghost) decided_world d (s.callers d).hold refl refl rely.anns.installed (L.callers d).guards;
          guards_row = guards_row_stable z (world s L.ghost) decided_world d (s.callers d).row_hold rely.rows refl refl (L.callers d).guards_row;
          own_groups = all_groups z s L a i waiting_rows.not_yet d;
          allowed = (L.callers d).allowed;
          knows = all_know z s L a i Touch decided_world rely at_head waits touches (λ _. refl) alone here_decided (λ _. refl) (λ _. refl) (λ _. refl) (λ _. refl) (λ x apart. (stage_else x apart, refl, old_else x apart)) (λ _. refl)
              (near_owed z s L bare owner got stops decided_memory (s.history ++ group ∷ []) decided_ghost (le_refl _) there back owner)
              (no_debts_owed z s L bare owner got stops decided_memory (s.history ++ group ∷ []) decided_ghost (le_refl _) there back) effect told_now.helps d;
        };
      } where
        back : (r j : ℕ) → spot' r ≡ Some j → j < g.head → g.spot r ≡ Some j
        back r j at early = ⊎_elim (λ (old : g.spot r ≡ Some j). old)
            (λ (new : (g.head ≤ j) × ((s.memory.mark r).free ≡ false) × ((s.memory.mark r).passed ≡ false) × ((s.memory.mark r).read ≡ is_paid (owed_reader g.reader g.head owner got stops j))). let late = new.0 in absurd (omega arith)) (new_rows r j at)

        told_after : Told z.home s.memory.value path' (stage' a) (s.memory.notice a) owner kept_by
        told_after = record {
          describes = told_now.describes;
          several = told_now.several;
          plain = told_now.plain;
          first = told_now.first;
          last = told_now.last;
          helps = told_now.helps;
          values = λ j d. subst (λ (y : ℕ). enqueued kept_by.ops ≡ run (λ j. s.memory.value (path' j)) (suc y) (s.memory.notice a).counts.enqs) (one_position here_decided d) values;
        }
