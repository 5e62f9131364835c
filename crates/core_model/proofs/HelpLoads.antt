-- A helper reads the announcement and TAIL, moves TAIL by one row, and records the old tail.
use Rattle.std.proofs.Common.{◌≡◌, ◌≢◌, ℕ, suc, ◌+◌, ◌<◌, ◌≤◌, eqb, Bool, true, false, cond, [], sym, refl, ap, ◌∙◌, arith, le_refl, Option, Some, None, leb, ◌&&◌, eqb-true, inl}
use Rattle.std.proofs.lemmas.List.{append-nil}
use Rattle.std.proofs.lemmas.Bool.{eqb-true, leb-true, leb-false, eqb-false}
use Rattle.word_rows.specs.declared.place.Place.{Place}
use Rattle.word_rows.specs.declared.head_word.HeadWord.TheVariants.{Node}
use Rattle.word_rows.specs.declared.link_word.LinkWord.{LinkWord}
use Rattle.word_rows.specs.declared.link_word.LinkWord.TheVariants.{Nil, Single, Chain, Shut}
use Rattle.word_rows.specs.declared.location.AnnField.TheVariants as field
use Rattle.word_rows.specs.declared.location.Location.TheVariants.{Tail, Link, AnnWord}
use Rattle.word_rows.specs.declared.content.Content.TheVariants.{OfHead, OfTail, OfLink, OfOldTail, OfChainEnd, OfCounts}
use Rattle.lane_steps.specs.declared.point.Help.{Help}
use Rattle.lane_steps.specs.declared.point.Point.TheVariants as point
use Rattle.lane_steps.specs.declared.point.Guarding.TheVariants as guard
use Rattle.lane_steps.specs.declared.point.GuardPoint.TheVariants.{StoreHazard}
use Rattle.lane_steps.specs.declared.point.HelpPoint.TheVariants as help
use Rattle.lane_steps.specs.Functions.{put}
use Rattle.lane_steps.specs.LaneSizes.{LaneSizes}
use Rattle.lane_steps.specs.State.{Memory, State, write}
use Rattle.lane_steps.specs.Act.{same_place}
use Rattle.lane_steps.specs.Fact.{reads, linked, stands_at, is_old_tail, before_end}
use Rattle.lane_steps.specs.Step.{stepped, step_with, step_at}
use Rattle.core_model.specs.Facts.{IsDecidedBehind, Holds, AtPoint}
use Rattle.core_model.specs.Ghost.{Stage, unused, waiting, decided, Ghost, World, positions, at}
use Rattle.core_model.specs.Lawful.{Lawful}
use Rattle.core_model.proofs.Puts.{put_here, put_else, put_all}
use Rattle.core_model.proofs.Rely.{third, world, unused_decides, waits_decides, one_position, one_some, some_none, anns_moved, rows_same, Rely}
use Rattle.core_model.proofs.Callers.{caller_stable}
use Rattle.core_model.proofs.Preserves.{known, stutters, point_changes, changed, debts_same}
use Rattle.core_model.proofs.Tails.{exchanges, with_memory}
use Rattle.core_model.proofs.Lookups.{next_found}
use Rattle.core_model.proofs.Counting.{chain_pos}
use Rattle.core_model.proofs.HelpWalk.{known_old}
use Rattle.lane_steps.specs.Help.{at_old_tail, has_enough, before_it}

-- an installed announcement whose OldTail is known is decided
pub decided_known : (z : LaneSizes) (s : State) (L : Lawful z s) (a : ℕ) (q : Place) → L.ghost.stage a ≢ unused → s.memory.old_tail a ≡ Some q → (i : ℕ) × (L.ghost.stage a ≡ decided i)
decided_known z s L a q there is = by (L.ghost.stage a) refl where
  by : (x : Stage) → L.ghost.stage a ≡ x → (i : ℕ) × (L.ghost.stage a ≡ decided i)
  by unused e = absurd (there e)
  by waiting e = absurd (some_none (sym is ∙ L.announced.unknown a e))
  by (decided i) e = (i, e)

module _ (z : LaneSizes) (s : State) (L : Lawful z s) (c : ℕ) where
  abbrev G : Ghost
  G = L.ghost

  pub preserves_help_old_head : (h : Help) → (s.callers c).point ≡ point.Help h help.LoadOldHead → Lawful z (step_at z s c (point.Help h help.LoadOldHead))
  preserves_help_old_head h is = let f = known z s L c (point.Help h help.LoadOldHead) is in let r = f.call.0 in
      stutters z s L c (point.Help (record h { old_head = (s.memory.notice h.ann).old_head }) help.LoadFirst) (AnnWord h.ann field.OldHead) (OfHead (Node (s.memory.notice h.ann).old_head)) refl
      (record { call = (record { installed = r.installed; kept = r.kept; inside = r.inside; old_head = λ _. refl; first = λ l. absurd (omega arith); last = λ l. absurd (omega arith); counts = λ l. absurd (omega arith) }, f.call.1); here = tt })

  pub preserves_help_first : (h : Help) → (s.callers c).point ≡ point.Help h help.LoadFirst → Lawful z (step_at z s c (point.Help h help.LoadFirst))
  preserves_help_first h is = let f = known z s L c (point.Help h help.LoadFirst) is in let r = f.call.0 in
      stutters z s L c (point.Help (record h { first = (s.memory.notice h.ann).first }) help.LoadLast) (AnnWord h.ann field.First) (OfChainEnd (s.memory.notice h.ann).first) refl
      (record { call = (record { installed = r.installed; kept = r.kept; inside = r.inside; old_head = λ _. r.old_head (omega arith); first = λ _. refl; last = λ l. absurd (omega arith); counts = λ l. absurd (omega arith) }, f.call.1); here = tt })

  pub preserves_help_last : (h : Help) → (s.callers c).point ≡ point.Help h help.LoadLast → Lawful z (step_at z s c (point.Help h help.LoadLast))
  preserves_help_last h is = let f = known z s L c (point.Help h help.LoadLast) is in let r = f.call.0 in
      stutters z s L c (point.Help (record h { last = (s.memory.notice h.ann).last }) help.LoadCounts) (AnnWord h.ann field.Last) (OfChainEnd (s.memory.notice h.ann).last) refl
      (record { call = (record { installed = r.installed; kept = r.kept; inside = r.inside; old_head = λ _. r.old_head (omega arith); first = λ _. r.first (omega arith); last = λ _. refl; counts = λ l. absurd (omega arith) }, f.call.1); here = tt })

  pub preserves_help_counts : (h : Help) → (s.callers c).point ≡ point.Help h help.LoadCounts → Lawful z (step_at z s c (point.Help h help.LoadCounts))
  preserves_help_counts h is = let f = known z s L c (point.Help h help.LoadCounts) is in let r = f.call.0 in
      stutters z s L c (point.Help (record h { counts = (s.memory.notice h.ann).counts }) help.LoadTail) (AnnWord h.ann field.Counts) (OfCounts (s.memory.notice h.ann).counts) refl
      (record { call = (record { installed = r.installed; kept = r.kept; inside = r.inside; old_head = λ _. r.old_head (omega arith); first = λ _. r.first (omega arith); last = λ _. r.last (omega arith); counts = λ _. refl }, f.call.1); here = tt })

  pub preserves_help_tail : (h : Help) → (s.callers c).point ≡ point.Help h help.LoadTail → Lawful z (step_at z s c (point.Help h help.LoadTail))
  preserves_help_tail h is = let f = known z s L c (point.Help h help.LoadTail) is in stutters z s L c (point.Guard (guard.HelpTail h s.memory.tail) StoreHazard) Tail (OfTail s.memory.tail) refl (record { call = f.call; here = tt })

  -- where OldTail isn't known, the tail that was read before is no later than the old tail
  module _ (h : Help) (p : Place) (none : s.memory.old_tail h.ann ≡ None) (f : AtPoint z (world s L.ghost) c (s.callers c) (point.Help h (help.LoadOldTail p))) where
    linked_end : Holds z (world s L.ghost) c (before_end h.ann p)
    linked_end = (
      f.call.0.installed,
      λ i e. let on = f.here.0 in let below = on.on.inside in let count = on.count in let late = f.here.1.0 in (
        omega arith,
        λ j d _. let open_end = L.announced.unrecorded h.ann j d none in let late_tail = open_end.1 in let some = open_end.2 in let within = (L.announced.bound h.ann j d).within in omega arith,
      ),
    )

    -- whether dequeues alone find enough before that tail
    by_length : (a b : Bool) → eqb h.counts.enqs 0 ≡ a → leb h.counts.deqs (before_it h p) ≡ b
        → AtPoint z (world s L.ghost) c (stepped (s.callers c) (point.Help h (cond (a && b) (help.Decide p) (help.LoadLink p)))) (point.Help h (cond (a && b) (help.Decide p) (help.LoadLink p)))
    by_length true true ea eb = record { call = f.call; here = (f.here.0, (f.here.1.0, (third f.here, ((eqb-true h.counts.enqs 0 ea, leb-true h.counts.deqs (before_it h p) eb), tt)))) }
    by_length true false ea eb = let few = leb-false h.counts.deqs (before_it h p) eb in record { call = f.call; here = (f.here.0, (f.here.1.0, (third f.here, (linked_end, ((λ _. few), tt))))) }
    by_length false b ea eb = let some = eqb-false h.counts.enqs 0 ea in record { call = f.call; here = (f.here.0, (f.here.1.0, (third f.here, (linked_end, ((λ e. absurd (some e)), tt))))) }

  old_tail_loaded : (h : Help) (p : Place) (x : Option Place) → s.memory.old_tail h.ann ≡ x → AtPoint z (world s L.ghost) c (s.callers c) (point.Help h (help.LoadOldTail p)) → Lawful z (step_with z s c (point.Help h (help.LoadOldTail p)) (OfOldTail x))
  old_tail_loaded h p None is f = stutters z s L c (point.Help h (cond (has_enough h p) (help.Decide p) (help.LoadLink p))) (AnnWord h.ann field.OldTail) (OfOldTail None) (ap OfOldTail is)
      (by_length h p is f (eqb h.counts.enqs 0) (leb h.counts.deqs (before_it h p)) refl refl)
  old_tail_loaded h p (Some q) is f = let d = decided_known z s L h.ann q f.call.0.installed is in
      stutters z s L c (point.Help h (at_old_tail h q)) (AnnWord h.ann field.OldTail) (OfOldTail (Some q)) (ap OfOldTail is) (known_old z s L c h q f.call.0 (record { position = d.0; is_decided = d.1; old_tail = is }) f.call.1)

  pub preserves_help_old_tail : (h : Help) (p : Place) → (s.callers c).point ≡ point.Help h (help.LoadOldTail p) → Lawful z (step_at z s c (point.Help h (help.LoadOldTail p)))
  preserves_help_old_tail h p is = old_tail_loaded h p (s.memory.old_tail h.ann) refl (known z s L c (point.Help h (help.LoadOldTail p)) is)

  -- the link of the row is Chain of First: where the announcement stands, its rows are linked there
  chain_seen : (h : Help) (p : Place) → Holds z (world s L.ghost) c (reads 4 h) → Holds z (world s L.ghost) c (linked p) → Holds z (world s L.ghost) c (stands_at h.ann p) → s.memory.link p.row ≡ Chain h.first
      → Holds z (world s L.ghost) c (is_old_tail h.ann p)
  chain_seen h p r on stood is = (r.installed, λ at_head. by at_head (G.stage h.ann) refl) where
    next : (suc on.position < positions G) × (G.chained on.position ≡ true)
    next = (next_found z s L c p h.first true on is).1 on.position on.count

    first_is : G.path (suc on.position) ≡ (s.memory.notice h.ann).first
    first_is = ((next_found z s L c p h.first true on is).0.there on.position on.count).1 ∙ sym (r.first (omega arith))

    by : G.ann ≡ Some h.ann → (x : Stage) → G.stage h.ann ≡ x → IsDecidedBehind z (world s L.ghost) h.ann p
    by at_head unused e = absurd (r.installed e)
    by at_head waiting e = let P = L.pending h.ann e in let from = stood.1 at_head in let count = on.count in let below = next.0 in
        absurd (some_none (sym (L.list.rows.spots (suc on.position) (omega arith) (omega arith)) ∙ (ap G.spot (first_is ∙ sym P.starts) ∙ P.unlinked 0 (chain_pos (s.memory.notice h.ann).counts))))
    by at_head (decided i) e = let b = L.announced.bound h.ann i e in let within = b.within in record {
      position = i;
      is_decided = e;
      inside = omega arith;
      place = λ some. let from = stood.1 at_head in let count = on.count in let below = next.0 in let after = (L.announced.standing h.ann i at_head e).from in let more = some in
          let same = one_some (sym (L.list.rows.spots (suc i) (omega arith) (omega arith)) ∙ (ap G.spot (b.starts some ∙ sym first_is) ∙ L.list.rows.spots (suc on.position) (omega arith) (omega arith))) in let here : on.position ≡ i = omega arith in
          λ y. record { row = (sym on.on.row ∙ ap G.path here) y; count = (on.count ∙ ap (λ (x : ℕ). z.first + x) here) y };
    }

  help_linked : (h : Help) (p : Place) (x : LinkWord) → s.memory.link p.row ≡ x → AtPoint z (world s L.ghost) c (s.callers c) (point.Help h (help.LoadLink p)) → Lawful z (step_with z s c (point.Help h (help.LoadLink p)) (OfLink x))
  help_linked h p Nil is f = stutters z s L c (point.Help h (help.LinkChain p)) (Link p.row) (OfLink Nil) (ap OfLink is) f
  help_linked h p (Single n) is f = let next = next_found z s L c p n false f.here.0 is in
      stutters z s L c (point.Help h (help.PassTail p n)) (Link p.row) (OfLink (Single n)) (ap OfLink is) (record { call = f.call; here = (next.0, (next.1, tt)) })
  help_linked h p (Chain n) is f = by (eqb n h.first) refl where
    by : (b : Bool) → eqb n h.first ≡ b → Lawful z (changed s c (write s.memory (Link p.row) (OfLink (Chain n))) s.history (stepped (s.callers c) (point.Help h (cond b (help.RecordTail p) help.LoadTail))))
    by true e = stutters z s L c (point.Help h (help.RecordTail p)) (Link p.row) (OfLink (Chain n)) (ap OfLink is) (record { call = f.call; here = (chain_seen h p f.call.0 f.here.0 (third f.here) (is ∙ ap Chain (eqb-true n h.first e)), tt) })
    by false e = stutters z s L c (point.Help h help.LoadTail) (Link p.row) (OfLink (Chain n)) (ap OfLink is) (record { call = f.call; here = tt })
  help_linked h p Shut is f = stutters z s L c (point.Help h help.LoadTail) (Link p.row) (OfLink Shut) (ap OfLink is) (record { call = f.call; here = tt })

  pub preserves_help_link : (h : Help) (p : Place) → (s.callers c).point ≡ point.Help h (help.LoadLink p) → Lawful z (step_at z s c (point.Help h (help.LoadLink p)))
  preserves_help_link h p is = help_linked h p (s.memory.link p.row) refl (known z s L c (point.Help h (help.LoadLink p)) is)

  pub preserves_help_pass : (h : Help) (p : Place) (n : ℕ) → (s.callers c).point ≡ point.Help h (help.PassTail p n) → Lawful z (step_at z s c (point.Help h (help.PassTail p n)))
  preserves_help_pass h p n is = let f = known z s L c (point.Help h (help.PassTail p n)) is in exchanges z s L c p n (stepped (s.callers c) (point.Help h help.LoadTail)) f.here.0 f.here.1.0
      (λ memory l. let k = known z (with_memory z s L c memory) l c (point.Help h (help.PassTail p n)) is in point_changes z (with_memory z s L c memory) l c (point.Help h help.LoadTail) (record { call = k.call; here = tt })) (same_place s.memory.tail p) refl

  -- OldTail is recorded
  module _ (a : ℕ) (p : Place) (old : Holds z (world s L.ghost) c (is_old_tail a p)) (none : s.memory.old_tail a ≡ None) where
    placed : (i : ℕ) × (G.stage a ≡ decided i) × (p ≡ at z.first G.path i)
    placed = by (G.stage a) refl where
      stood : G.ann ≡ Some a → (i : ℕ) × (G.stage a ≡ decided i) × (p ≡ at z.first G.path i)
      stood at_head = let x = old.1 at_head in (x.position, x.is_decided, x.place (L.announced.unrecorded a x.position x.is_decided none).2)

      by : (x : Stage) → G.stage a ≡ x → (i : ℕ) × (G.stage a ≡ decided i) × (p ≡ at z.first G.path i)
      by unused e = absurd (old.0 e)
      by waiting e = stood (L.announced.waits a e).0
      by (decided i) e = stood (L.announced.unrecorded a i e none).0

    abbrev old' : ℕ → Option Place
    old' = put s.memory.old_tail a (Some p)

    abbrev memory' : Memory
    memory' = record s.memory { old_tail = old' }

    abbrev R : World
    R = record { memory = memory'; history = s.history; ghost = G }

    apart : (x : ℕ) → G.stage x ≡ unused → x ≢ a
    apart x u e = unused_decides (sym (ap G.stage e) ∙ u) placed.1

    recording : Rely z (λ _. ⊥) (world s G) R
    recording = record {
      longer = le_refl _;
      heads = le_refl _;
      tails = le_refl _;
      path_same = λ _ _. refl;
      chained_same = λ _ _. refl;
      spot_own = λ _ u _. u;
      rows = rows_same (world s G) R (λ _ _ at. at) refl;
      on_same = λ i r on _. (on.link, refl);
      link_own = λ _ _ _. refl;
      value_own = λ _ _ _. refl;
      mark_own = λ _ _ _. refl;
      value_path = λ _ _ _. refl;
      anns = anns_moved z (world s G) R refl refl (λ _ _. refl) (λ x q _ is. put_else s.memory.old_tail a (Some p) x (λ e. some_none (sym is ∙ (ap s.memory.old_tail e ∙ none))) ∙ is) (λ x at_head. (at_head, refl, refl));
      holds = λ _ _ e. inl e;
      more = ([], sym (append-nil s.history));
    }

    pub recorded : Lawful z record { memory = record s.memory { old_tail = put s.memory.old_tail a (Some p) }; history = s.history; callers = s.callers }
    recorded = record {
      ghost = G;
      sizes = L.sizes;
      marks = L.marks;
      history = L.history;
      queue = L.queue;
      owners = L.owners;
      list = L.list;
      announced = let A = L.announced in record {
        inside = A.inside;
        installed = A.installed;
        old_head = A.old_head;
        waits = A.waits;
        bound = A.bound;
        standing = A.standing;
        unknown = λ x e. put_else s.memory.old_tail a (Some p) x (λ same. waits_decides e (ap G.stage same ∙ placed.1)) ∙ A.unknown x e;
        recorded = λ x i q e. put_all s.memory.old_tail a (Some p) (λ x y. (i : ℕ) → G.stage x ≡ decided i → y ≡ Some q → q ≡ at z.first G.path i)
            (λ i e is. sym (one_some is) ∙ (placed.2 ∙ ap (at z.first G.path) (one_position placed.1 e))) (λ x _ i e is. A.recorded x i q e is) x i e;
        unrecorded = λ x i e. put_all s.memory.old_tail a (Some p) (λ x y. (i : ℕ) → G.stage x ≡ decided i → y ≡ None → (G.ann ≡ Some x) × (G.tail ≤ i) × (0 < G.span x))
            (λ i _ is. absurd (some_none is)) (λ x _ i e is. A.unrecorded x i e is) x i e;
        left = A.left;
        lags = A.lags;
      };
      told = L.told;
      pending = L.pending;
      callers = λ d. caller_stable z (λ _. ⊥) (world s G) R recording d (s.callers d) (λ _ _ x. x) (record { linearized = refl; made = refl; drafts = λ x _ u. (u, refl, put_else s.memory.old_tail a (Some p) x (apart x u)); hazard = refl; held = refl; row_hazard = refl; row_held = refl; debts = debts_same (world s G) R refl refl refl refl refl d }) (L.callers d);
    }

  tail_recorded : (h : Help) (p : Place) (x : Option Place) → s.memory.old_tail h.ann ≡ x → (s.callers c).point ≡ point.Help h (help.RecordTail p) → Lawful z (step_with z s c (point.Help h (help.RecordTail p)) (OfOldTail x))
  tail_recorded h p None at_none is = let f = known z s L c (point.Help h (help.RecordTail p)) is in let m : Memory = record s.memory { old_tail = put s.memory.old_tail h.ann (Some p) } in let s' : State = record { memory = m; history = s.history; callers = s.callers } in
      let L' : Lawful z s' = recorded h.ann p f.here.0 at_none in let k = known z s' L' c (point.Help h (help.RecordTail p)) is in let known_tail = put_here s.memory.old_tail h.ann (Some p) in let d = decided_known z s' L' h.ann p k.call.0.installed known_tail in
      point_changes z s' L' c (point.Help h (at_old_tail h p)) (known_old z s' L' c h p k.call.0 (record { position = d.0; is_decided = d.1; old_tail = known_tail }) k.call.1)
  tail_recorded h p (Some q) at_some is = let f = known z s L c (point.Help h (help.RecordTail p)) is in let d = decided_known z s L h.ann q f.call.0.installed at_some in
      stutters z s L c (point.Help h (at_old_tail h q)) (AnnWord h.ann field.OldTail) (OfOldTail (Some q)) (ap OfOldTail at_some) (known_old z s L c h q f.call.0 (record { position = d.0; is_decided = d.1; old_tail = at_some }) f.call.1)

  pub preserves_record_tail : (h : Help) (p : Place) → (s.callers c).point ≡ point.Help h (help.RecordTail p) → Lawful z (step_at z s c (point.Help h (help.RecordTail p)))
  preserves_record_tail h p is = tail_recorded h p (s.memory.old_tail h.ann) refl is
