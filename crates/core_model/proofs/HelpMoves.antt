-- A helper moves TAIL over the rows that were linked, walks on, and moves HEAD to the new dummy.
use Rattle.bq_model.specs.Queue.{unshut}
use Rattle.std.proofs.Common.{◌≡◌, inr, ℕ, suc, ◌+◌, ◌-◌, ◌*◌, ◌<◌, ◌≤◌, eqb, Bool, true, false, cond, [], sym, refl, ap, ◌∙◌, subst, arith, le_refl, Some, None, inl}
use Rattle.std.proofs.lemmas.List.{append-nil}
use Rattle.std.proofs.lemmas.Bool.{eqb-true, and_parts}
use mathlib.Core.Logic.{dite}
use native.Mathlib.Decide.{ℕ_discrete}
use Rattle.word_rows.specs.declared.place.Place.{Place}
use Rattle.word_rows.specs.declared.head_word.HeadWord.{HeadWord}
use Rattle.word_rows.specs.declared.head_word.HeadWord.TheVariants.{Node, Ann}
use Rattle.word_rows.specs.declared.link_word.LinkWord.{LinkWord}
use Rattle.word_rows.specs.declared.link_word.LinkWord.TheVariants.{Nil, Single, Chain, Shut}
use Rattle.word_rows.specs.declared.location.Location.TheVariants.{Head, Tail, Link}
use Rattle.word_rows.specs.declared.content.Content.TheVariants.{OfHead, OfTail, OfLink}
use Rattle.lane_steps.specs.declared.point.Help.{Help}
use Rattle.lane_steps.specs.declared.point.Point.TheVariants as point
use Rattle.lane_steps.specs.declared.point.HelpPoint.TheVariants as help
use Rattle.lane_steps.specs.Functions.{run}
use Rattle.lane_steps.specs.LaneSizes.{LaneSizes}
use Rattle.lane_steps.specs.State.{Memory, State, write}
use Rattle.lane_steps.specs.Act.{same_place, is_ann, far_behind}
use Rattle.lane_steps.specs.Fact.{reads, old_tail_is, tail_over, gets_so_many, walks, has_links}
use Rattle.lane_steps.specs.Help.{before_it, walk_on, walk, back_point}
use Rattle.lane_steps.specs.Step.{stepped, step_with, step_at}
use Rattle.core_model.specs.Facts.{Holds, AtPoint}
use Rattle.core_model.specs.Ghost.{waiting, decided, Ghost, World, joint, at}
use Rattle.core_model.specs.Lawful.{head_word, LinksIn, Bound, Marked, Announced, Lawful}
use Rattle.core_model.proofs.Rely.{third, world, waits_decides, one_position, one_some, some_none, anns_same, anns_moved, rows_same, NoDebts, Rely}
use Rattle.core_model.proofs.Callers.{caller_stable}
use Rattle.core_model.proofs.Preserves.{known, stutters, point_changes, changed, drafts_same, debts_same}
use Rattle.core_model.proofs.StoredAgain.{same_places}
use Rattle.core_model.proofs.Announces.{stages_moved}
use Rattle.core_model.proofs.Lookups.{ann_stands, not_ann, not_there}
use Rattle.lane_steps.specs.Stopper.{linked_rows, passes}
use Rattle.core_model.proofs.HelpWalk.{differ, same_place_refl, past_old, on_walk, goes_back, span_is, walk_begins}

module _ (z : LaneSizes) (s : State) (L : Lawful z s) (c : ℕ) where
  abbrev G0 : Ghost
  G0 = L.ghost

  over_loaded : (h : Help) (q : Place) (b : Bool) → same_place s.memory.tail q ≡ b → AtPoint z (world s L.ghost) c (s.callers c) (point.Help h (help.LoadTailOver q))
      → Lawful z (changed s c (write s.memory Tail (OfTail s.memory.tail)) s.history (stepped (s.callers c) (point.Help h (cond b (help.MoveTailOver q) (walk h q)))))
  over_loaded h q true is f = stutters z s L c (point.Help h (help.MoveTailOver q)) Tail (OfTail s.memory.tail) refl (record { call = f.call; here = f.here })
  over_loaded h q false is f = stutters z s L c (point.Help h (walk h q)) Tail (OfTail s.memory.tail) refl
      (walk_begins z s L c h q f.call.0 f.here.0 (past_old z s L h.ann f.here.0.position q f.here.0.is_decided f.here.0.old_tail (λ e. differ (sym (same_place_refl s.memory.tail q e) ∙ is))) f.call.1)

  pub preserves_help_over : (h : Help) (q : Place) → (s.callers c).point ≡ point.Help h (help.LoadTailOver q) → Lawful z (step_at z s c (point.Help h (help.LoadTailOver q)))
  preserves_help_over h q is = over_loaded h q (same_place s.memory.tail q) refl (known z s L c (point.Help h (help.LoadTailOver q)) is)

  -- TAIL moves over the chain
  module _ (h : Help) (q : Place) (reading : Holds z (world s L.ghost) c (reads 4 h)) (old : Holds z (world s L.ghost) c (old_tail_is h.ann q)) (links : Holds z (world s L.ghost) c (has_links h q)) (is : s.memory.tail ≡ q) where
    abbrev a : ℕ
    a = h.ann

    -- how many rows are linked
    abbrev span : ℕ
    span = L.ghost.span h.ann

    spans : L.ghost.span h.ann ≡ linked_rows h.counts (before_it h q)
    spans = span_is z s L c h q reading old

    pub some : 0 < L.ghost.span h.ann
    some = subst (λ (n : ℕ). 0 < n) (sym spans) links

    BO : Bound z.first L.ghost.path L.ghost.chained L.ghost.cause (L.ghost.head + L.ghost.rest) L.ghost.tail (s.memory.notice h.ann) h.ann old.position (L.ghost.span h.ann)
    BO = L.announced.bound h.ann old.position old.is_decided

    pub tail_is : L.ghost.tail ≡ old.position
    tail_is = let e = ap (λ (p : Place). p.count) (sym L.list.tail.named ∙ (is ∙ L.announced.recorded h.ann old.position q old.is_decided old.old_tail)) in omega arith

    lag : (x : ℕ) × (L.ghost.stage x ≡ decided L.ghost.tail) × (L.ghost.ann ≡ Some x) × (L.ghost.head + L.ghost.rest ≤ L.ghost.tail + L.ghost.span x)
    lag = let t = tail_is in let more = some in let within = BO.within in L.announced.lags (omega arith) (ap L.ghost.chained t ∙ BO.by_chain some)

    -- it is the announcement that stands, and its rows are the last ones
    lag_is : lag.0 ≡ h.ann
    lag_is = let t = tail_is in let more = some in let within = BO.within in let l = lag.3 in sym ((L.announced.bound lag.0 L.ghost.tail lag.1).causes (omega arith)) ∙ (ap L.ghost.cause tail_is ∙ BO.causes some)

    pub stands : L.ghost.ann ≡ Some h.ann
    stands = lag.2 ∙ ap Some lag_is

    alone : (x : ℕ) → L.ghost.ann ≡ Some x → x ≡ h.ann
    alone x at_head = one_some (sym at_head ∙ stands)

    pub end : L.ghost.tail + span ≡ L.ghost.head + L.ghost.rest
    end = let t = tail_is in let within = BO.within in let l = subst (λ (y : ℕ). L.ghost.head + L.ghost.rest ≤ L.ghost.tail + L.ghost.span y) lag_is lag.3 in omega arith

    abbrev GT : Ghost
    GT = record L.ghost { tail = L.ghost.tail + span }

    abbrev memory_over : Memory
    memory_over = record s.memory { tail = far_behind q h.last (linked_rows h.counts (before_it h q)) }

    abbrev W : World
    W = record { memory = memory_over; history = s.history; ghost = GT }

    rely : Rely z (λ _. ⊥) (world s L.ghost) W
    rely = record {
      longer = le_refl _;
      heads = le_refl _;
      tails = omega arith;
      path_same = λ _ _. refl;
      chained_same = λ _ _. refl;
      spot_own = λ _ u _. u;
      rows = rows_same (world s L.ghost) W (λ _ _ at. at) refl;
      on_same = λ i r on _. (on.link, refl);
      link_own = λ _ _ _. refl;
      value_own = λ _ _ _. refl;
      mark_own = λ _ _ _. refl;
      value_path = λ _ _ _. refl;
      anns = anns_same z (world s L.ghost) W refl refl refl refl refl refl refl;
      holds = λ _ _ e. inl e;
      more = ([], sym (append-nil s.history));
    }

    went_over : Lawful z record { memory = record s.memory { tail = far_behind q h.last (linked_rows h.counts (before_it h q)) }; history = s.history; callers = s.callers }
    went_over = let e = end in let t = tail_is in let from = L.list.tail.after_head in record {
      ghost = GT;
      sizes = L.sizes;
      marks = L.marks;
      history = L.history;
      queue = L.queue;
      owners = L.owners;
      list = record {
        rows = L.list.rows;
        item_rows = L.list.item_rows;
        head = L.list.head;
        tail = record {
          named = let count = ap (λ (p : Place). p.count) (sym is ∙ L.list.tail.named) in let same = spans in
              λ i. record { row = (sym (reading.last (omega arith)) ∙ (sym (BO.ends some) ∙ ap (λ (y : ℕ). L.ghost.path (y + span)) (sym t))) i; count = (let f : q.count + linked_rows h.counts (before_it h q) ≡ z.first + (L.ghost.tail + span) = omega arith in f) i };
          after_head = omega arith;
          within = omega arith;
          lags = λ below _. absurd (omega arith);
        };
        counts = L.list.counts;
        links = L.list.links;
      };
      announced = stages_moved z.first (z.callers * z.callers) G0.stage G0.ann s.memory.notice s.memory.old_tail G0.span G0.path G0.path G0.chained G0.chained G0.cause G0.head G0.head (G0.head + G0.rest) (G0.head + G0.rest) G0.shown G0.shown G0.tail (G0.tail + span)
          (le_refl _) (le_refl _) (omega arith) (λ _ _. refl) (λ _ _. refl) (omega arith) (λ _ _. (refl, refl))
          (λ x i at_head d. inr (subst (λ (y : ℕ). i + G0.span y ≤ G0.tail + span) (sym (alone x at_head)) (let same = one_position (ap G0.stage (sym (alone x at_head)) ∙ d) old.is_decided in omega arith)))
          (λ x i d none. absurd (some_none (sym old.old_tail ∙ (ap s.memory.old_tail (sym (alone x (L.announced.unrecorded x i d none).0)) ∙ none))))
          (λ below _. absurd (omega arith)) L.announced;
      told = L.told;
      pending = L.pending;
      callers = λ d. caller_stable z (λ _. ⊥) (world s L.ghost) W rely d (s.callers d) (λ _ _ x. x) (record { linearized = refl; made = refl; drafts = drafts_same z (world s L.ghost) W refl refl refl d; hazard = refl; held = refl; row_hazard = refl; row_held = refl; debts = debts_same (world s L.ghost) W refl refl refl refl refl d }) (L.callers d);
    }

  over_moved : (h : Help) (q : Place) (b : Bool) → same_place s.memory.tail q ≡ b → (s.callers c).point ≡ point.Help h (help.MoveTailOver q)
      → Lawful z (changed s c (write s.memory Tail (cond b (OfTail (far_behind q h.last (linked_rows h.counts (before_it h q)))) (OfTail s.memory.tail))) s.history (stepped (s.callers c) (point.Help h (walk h q))))
  over_moved h q true same is = let f = known z s L c (point.Help h (help.MoveTailOver q)) is in let there = same_places s.memory.tail q same in
      let s' : State = record { memory = record s.memory { tail = far_behind q h.last (linked_rows h.counts (before_it h q)) }; history = s.history; callers = s.callers } in
      let V : Lawful z s' = went_over h q f.call.0 f.here.0 f.here.1.0 there in let g = known z s' V c (point.Help h (help.MoveTailOver q)) is in
      (point_changes z s' V c (point.Help h (walk h q)) (walk_begins z s' V c h q g.call.0 g.here.0
      (past_old z s' V h.ann g.here.0.position q g.here.0.is_decided g.here.0.old_tail (λ e. let some = g.here.1.0 in let count : q.count + linked_rows h.counts (before_it h q) ≡ q.count = ap (λ (p : Place). p.count) e in absurd (omega arith))) g.call.1))
  over_moved h q false same is = let f = known z s L c (point.Help h (help.MoveTailOver q)) is in stutters z s L c (point.Help h (walk h q)) Tail (OfTail s.memory.tail) refl
      (walk_begins z s L c h q f.call.0 f.here.0 (past_old z s L h.ann f.here.0.position q f.here.0.is_decided f.here.0.old_tail (λ e. differ (sym (same_place_refl s.memory.tail q e) ∙ same))) f.call.1)

  pub preserves_move_tail_over : (h : Help) (q : Place) → (s.callers c).point ≡ point.Help h (help.MoveTailOver q) → Lawful z (step_at z s c (point.Help h (help.MoveTailOver q)))
  preserves_move_tail_over h q is = over_moved h q (same_place s.memory.tail q) refl is

  -- one link of the walk, to the row n
  walk_next : (a r l n : ℕ) → n < z.rows → ((b : Bool) (x : ℕ) → joint b x ≡ s.memory.link r → x ≡ n) → Holds z (world s L.ghost) c (walks a r (suc l)) → Holds z (world s L.ghost) c (walks a n l)
  walk_next a r l n inside same w = record {
    position = w.position;
    is_decided = w.is_decided;
    inside = inside;
    lies = λ at_head. let x = w.lies at_head in let sum = x.sum in let fits = L.list.head.fits in record {
      behind = suc x.behind;
      sum = omega arith;
      inside = omega arith;
      row = ap G0.path (let e : G0.head + suc x.behind ≡ suc (G0.head + x.behind) = omega arith in e)
          ∙ same (G0.chained (G0.head + x.behind)) (G0.path (suc (G0.head + x.behind))) (sym (L.list.rows.joined (G0.head + x.behind) (omega arith) (omega arith)) ∙ ap s.memory.link x.row);
    };
  }

  -- where the row of a walk has no link, the announcement has left HEAD
  pub walk_over : (h : Help) (r l : ℕ) → ((b : Bool) (x : ℕ) → joint b x ≡ s.memory.link r → ⊥) → Holds z (world s L.ghost) c (walks h.ann r (suc l)) → L.ghost.ann ≡ Some h.ann → ⊥
  walk_over h r l never w at_head = let x = w.lies at_head in let sum = x.sum in let fits = L.list.head.fits in
      never (G0.chained (G0.head + x.behind)) (G0.path (suc (G0.head + x.behind))) (sym (L.list.rows.joined (G0.head + x.behind) (omega arith) (omega arith)) ∙ ap s.memory.link x.row)

  pub joint_nil : (b : Bool) (x : ℕ) → joint b x ≡ Nil → ⊥
  joint_nil true x e = cc e
  joint_nil false x e = cc e

  pub joint_shut : (b : Bool) (x : ℕ) → joint b x ≡ Shut → ⊥
  joint_shut true x e = cc e
  joint_shut false x e = cc e

  link_walked : (h : Help) (m r l : ℕ) (x : LinkWord) → s.memory.link r ≡ x → AtPoint z (world s L.ghost) c (s.callers c) (point.Help h (help.LoadWalk m r l)) → Lawful z (step_with z s c (point.Help h (help.LoadWalk m r l)) (OfLink x))
  link_walked h m r l Nil is f = stutters z s L c (back_point h h.back) (Link r) (OfLink Nil) (ap OfLink is) (goes_back z s L c h h.back (walk_over h r l (λ b x e. joint_nil b x (e ∙ is)) f.here.0) f.call.0 (third f.here) f.call.1)
  link_walked h m r l Shut is f = stutters z s L c (back_point h h.back) (Link r) (OfLink Shut) (ap OfLink is) (goes_back z s L c h h.back (walk_over h r l (λ b x e. joint_shut b x (e ∙ is)) f.here.0) f.call.0 (third f.here) f.call.1)
  link_walked h m r l (Single n) is f = stutters z s L c (point.Help h (walk_on m n l)) (Link r) (OfLink (Single n)) (ap OfLink is)
      (on_walk z s L c h m n l f.call.0 (walk_next h.ann r l n (subst (LinksIn z.rows) is (L.list.links r)) (λ b x e. names b x (e ∙ is)) f.here.0) f.here.1.0 (third f.here) f.call.1) where
        names : (b : Bool) (x : ℕ) → joint b x ≡ Single n → x ≡ n
        names true x e = absurd (cc e)
        names false x e = cc e
  link_walked h m r l (Chain n) is f = stutters z s L c (point.Help h (walk_on m n l)) (Link r) (OfLink (Chain n)) (ap OfLink is)
      (on_walk z s L c h m n l f.call.0 (walk_next h.ann r l n (subst (LinksIn z.rows) is (L.list.links r)) (λ b x e. names b x (e ∙ is)) f.here.0) f.here.1.0 (third f.here) f.call.1) where
        names : (b : Bool) (x : ℕ) → joint b x ≡ Chain n → x ≡ n
        names true x e = cc e
        names false x e = absurd (cc e)

  pub preserves_help_walk : (h : Help) (m r l : ℕ) → (s.callers c).point ≡ point.Help h (help.LoadWalk m r l) → Lawful z (step_at z s c (point.Help h (help.LoadWalk m r l)))
  preserves_help_walk h m r l is = link_walked h m r l (s.memory.link r) refl (known z s L c (point.Help h (help.LoadWalk m r l)) is)

  -- HEAD moves from the announcement to the new dummy
  module _ (h : Help) (m r n : ℕ) (reading : Holds z (world s L.ghost) c (reads 4 h)) (w : Holds z (world s L.ghost) c (walks h.ann r 0)) (g : Holds z (world s L.ghost) c (gets_so_many h m)) (t : Holds z (world s L.ghost) c (tail_over h.ann))
      (head : s.memory.head ≡ Ann h.ann n) where
    at_head : L.ghost.ann ≡ Some h.ann
    at_head = ann_stands z s L c h.ann n head

    one_there : (x : ℕ) → L.ghost.ann ≡ Some x → x ≡ h.ann
    one_there x e = one_some (sym e ∙ at_head)

    none_waits : (x : ℕ) → L.ghost.stage x ≡ waiting → ⊥
    none_waits x e = waits_decides e (ap L.ghost.stage (one_there x (L.announced.waits x e).0) ∙ t.is_decided)

    abbrev H : Ghost
    H = record L.ghost { head = L.ghost.head + L.ghost.shown; rest = L.ghost.queued; shown = 0; ann = None }

    abbrev memory_head : Memory
    memory_head = record s.memory { head = Node (far_behind h.old_head r m) }

    abbrev V : World
    V = record { memory = memory_head; history = s.history; ghost = H }

    same_end : L.ghost.head + L.ghost.shown + L.ghost.queued ≡ L.ghost.head + L.ghost.rest
    same_end = let fits = L.list.head.fits in omega arith

    moving : Rely z (λ _. ⊥) (world s L.ghost) V
    moving = let e = same_end in record {
      longer = omega arith;
      heads = omega arith;
      tails = le_refl _;
      path_same = λ _ _. refl;
      chained_same = λ _ _. refl;
      spot_own = λ _ u _. u;
      rows = rows_same (world s L.ghost) V (λ _ _ at. at) refl;
      on_same = λ i r on _. (((λ x. on.link.0 (omega arith)), λ x. on.link.1 (omega arith)), refl);
      link_own = λ _ _ _. refl;
      value_own = λ _ _ _. refl;
      mark_own = λ _ _ _. refl;
      value_path = λ _ _ _. refl;
      anns = anns_moved z (world s L.ghost) V refl refl (λ _ _. refl) (λ _ _ _ e. e) (λ x none. absurd (some_none (sym none)));
      holds = λ _ _ e. inl e;
      more = ([], sym (append-nil s.history));
    }

    row_is : r ≡ L.ghost.path (L.ghost.head + L.ghost.shown)
    row_is = let x = w.lies at_head in let sum = x.sum in sym x.row ∙ ap (λ (y : ℕ). L.ghost.path (L.ghost.head + y)) (let e : x.behind ≡ L.ghost.shown = omega arith in e)

    head_named : Node (far_behind h.old_head r m) ≡ Node (at z.first L.ghost.path (L.ghost.head + L.ghost.shown))
    head_named = let count = ap (λ (p : Place). p.count) (sym (reading.old_head (omega arith)) ∙ L.announced.old_head h.ann at_head) in let shown = g.shown at_head in
        λ i. Node (record { row = row_is i; count = (let e : h.old_head.count + m ≡ z.first + (L.ghost.head + L.ghost.shown) = omega arith in e) i })

    -- its owner marks the rows that it passed, no sooner
    marked' : Marked s.memory.mark H.spot H.reader H.passer H.head H.shown
    marked' = let M = L.marks in record {
      kept = M.kept;
      read = M.read;
      passed = M.passed;
      unread = λ i late. M.unread i (omega arith);
      unpassed = λ i late. M.unpassed i (omega arith);
      was_read = λ i early. M.was_read i (omega arith);
      was_passed = λ i early. M.was_passed i (omega arith);
      behind = λ i is. let before = M.behind i is in omega arith;
    }

    debts_kept : (d : ℕ) → NoDebts (world s L.ghost) V d
    debts_kept d = record {
      near = record {
        reads = λ _ is. is;
        passes = λ _ is. is;
        retired = λ q i y. let before = y.before in record { spot = y.spot; before = omega arith; was_read = y.was_read; was_passed = y.was_passed; kept = y.kept };
        no_retired = λ q i y. record { spot = y.spot; before = L.marks.behind i y.was_passed; was_read = y.was_read; was_passed = y.was_passed; kept = y.kept };
      };
      no_reads = λ _ is. is;
      no_passes = λ _ is. is;
    }

    -- an announcement that has left HEAD was passed by all its rows, this one too
    left_so : (x i d : ℕ) → L.ghost.stage x ≡ decided i → (s.memory.notice x).old_head ≡ at z.first L.ghost.path d → d + passes (s.memory.notice x).counts (i - d) ≤ L.ghost.head + L.ghost.shown
    left_so x i d is old = dite (ℕ_discrete x h.ann)
        (λ same. let there = at_head ∙ ap Some (sym same) in let count = ap (λ (p : Place). p.count) (sym old ∙ L.announced.old_head x there) in
        subst (λ (y : ℕ). y + passes (s.memory.notice x).counts (i - y) ≤ L.ghost.head + L.ghost.shown) (let e : L.ghost.head ≡ d = omega arith in e) (let shows = (L.announced.standing x i there is).shows in omega arith))
        (λ other. let early = L.announced.left x i d is (λ there. other (one_there x there)) old in omega arith)

    announced' : Announced z memory_head H
    announced' = let A = L.announced in let e = same_end in record {
      inside = λ x none. absurd (some_none (sym none));
      installed = λ x none. absurd (some_none (sym none));
      old_head = λ x none. absurd (some_none (sym none));
      waits = λ x waits. absurd (none_waits x waits);
      bound = λ x i d. let b = A.bound x i d in let within = b.within in record { causes = b.causes; by_chain = b.by_chain; within = omega arith; starts = b.starts; ends = b.ends; joined = b.joined; reached = b.reached; old_dummy = b.old_dummy; covered = b.covered; all_excess = b.all_excess };
      standing = λ x i none. absurd (some_none (sym none));
      unknown = A.unknown;
      recorded = A.recorded;
      unrecorded = λ x i d none. absurd (some_none (sym t.known.1 ∙ (ap s.memory.old_tail (sym (one_there x (A.unrecorded x i d none).0)) ∙ none)));
      left = λ x i d d_is off old. left_so x i d d_is old;
      lags = λ below by. let x = A.lags (omega arith) by in let same = one_position (ap L.ghost.stage (sym (one_there x.0 x.2)) ∙ x.1) t.is_decided in let over = t.past at_head in let some = ap L.ghost.span (one_there x.0 x.2) in let all = x.3 in absurd (omega arith);
    }

    head_moved : Lawful z record { memory = record s.memory { head = Node (far_behind h.old_head r m) }; history = s.history; callers = s.callers }
    head_moved = let e = same_end in let within = L.list.tail.within in let over = t.past at_head in let inside = (L.announced.standing h.ann t.position at_head t.is_decided).inside in record {
      ghost = H;
      sizes = L.sizes;
      marks = marked';
      history = L.history;
      queue = L.queue ∙ ap (λ (y : ℕ). unshut (run (λ i. s.memory.value (L.ghost.path i)) (suc y) L.ghost.queued)) (let f : L.ghost.head + L.ghost.shown ≡ L.ghost.head + L.ghost.shown + 0 = omega arith in f);
      owners = L.owners ∙ ap (λ (y : ℕ). run (λ i. z.home (L.ghost.path i)) (suc y) L.ghost.queued) (let f : L.ghost.head + L.ghost.shown ≡ L.ghost.head + L.ghost.shown + 0 = omega arith in f);
      list = record {
        rows = record {
          joined = λ i from below. L.list.rows.joined i (omega arith) (omega arith);
          last = ap (λ (i : ℕ). s.memory.link (L.ghost.path i)) e ∙ L.list.rows.last;
          spots = λ i from below. L.list.rows.spots i (omega arith) (omega arith);
          inside = λ i below. L.list.rows.inside i (omega arith);
          placed = λ q i at_i. let there = L.list.rows.placed q i at_i in let below = there.0 in (omega arith, there.1);
        };
        item_rows = λ i above below. L.list.item_rows i (omega arith) (omega arith);
        head = record { named = head_named; none = λ _. refl; fits = omega arith };
        tail = record { named = L.list.tail.named; after_head = omega arith; within = omega arith; lags = λ below single. let l = L.list.tail.lags (omega arith) single in omega arith };
        counts = let made = L.list.counts in omega arith;
        links = L.list.links;
      };
      announced = announced';
      told = λ x none. absurd (some_none (sym none));
      pending = λ x waits. absurd (none_waits x waits);
      callers = λ d. caller_stable z (λ _. ⊥) (world s L.ghost) V moving d (s.callers d) (λ _ _ x. x) (record { linearized = refl; made = refl; drafts = drafts_same z (world s L.ghost) V refl refl refl d; hazard = refl; held = refl; row_hazard = refl; row_held = refl; debts = debts_kept d }) (L.callers d);
    }

  no_ann : (s' : State) (V : Lawful z s') (a : ℕ) (p : Place) → s'.memory.head ≡ Node p → V.ghost.ann ≡ Some a → ⊥
  no_ann s' V a p node at_head = not_ann p a (z.first + V.ghost.head) (sym node ∙ (V.list.head.named ∙ ap (head_word z.first V.ghost.path V.ghost.head) at_head))

  ann_found : (h : Help) (m r : ℕ) (x : HeadWord) → s.memory.head ≡ x → (b : Bool) → is_ann x h.ann h.old_head.count ≡ b → (s.callers c).point ≡ point.Help h (help.MoveHead m r)
      → Lawful z (changed s c (write s.memory Head (cond b (OfHead (Node (far_behind h.old_head r m))) (OfHead x))) s.history (stepped (s.callers c) (back_point h h.back)))
  ann_found h m r x at_x false apart is = let f = known z s L c (point.Help h (help.MoveHead m r)) is in stutters z s L c (back_point h h.back) Head (OfHead x) (ap OfHead at_x) (goes_back z s L c h h.back (λ at_head. not_there z s L c h x at_x apart (f.call.0.old_head (omega arith)) at_head) f.call.0 (third f.here) f.call.1)
  ann_found h m r (Node p) at_x true e is = absurd (cc e)
  ann_found h m r (Ann y n) at_x true e is = let f = known z s L c (point.Help h (help.MoveHead m r)) is in let both = and_parts (eqb y h.ann) (eqb n h.old_head.count) e in
      let s' : State = record { memory = record s.memory { head = Node (far_behind h.old_head r m) }; history = s.history; callers = s.callers } in
      let V : Lawful z s' = head_moved h m r n f.call.0 f.here.0 f.here.1.0 (third f.here) (at_x ∙ ap (λ (b : ℕ). Ann b n) (eqb-true y h.ann both.0)) in let g = known z s' V c (point.Help h (help.MoveHead m r)) is in
      (point_changes z s' V c (back_point h h.back) (goes_back z s' V c h h.back (no_ann s' V h.ann (far_behind h.old_head r m) refl) g.call.0 (third g.here) g.call.1))

  pub preserves_move_head_ann : (h : Help) (m r : ℕ) → (s.callers c).point ≡ point.Help h (help.MoveHead m r) → Lawful z (step_at z s c (point.Help h (help.MoveHead m r)))
  preserves_move_head_ann h m r is = ann_found h m r s.memory.head refl (is_ann s.memory.head h.ann h.old_head.count) refl is
