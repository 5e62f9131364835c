-- HEAD moves over rows as a command of dequeues ends, or the command finds the queue empty.
use Rattle.std.proofs.Common.{◌≡◌, ℕ, suc, ◌+◌, ◌*◌, ◌<◌, ◌≤◌, Bool, false, List, [], ◌∷◌, ◌++◌, length, sym, refl, ap, ◌∙◌, subst, arith, le_refl, Some, None, ◌≢◌, ◌-◌, inl, inr, true}
use Rattle.bq_model.specs.NoShut.{NoShut}
use Rattle.bq_model.specs.Queue.{Queue, unshut}
use Rattle.bq_model.specs.Values.{enqueued, entered}
use Rattle.bq_model.specs.declared.group.Group.{Group}
use Rattle.bq_model.specs.Replay.{answers_from, queue_from}
use Rattle.bq_model.specs.History.{last_queue}
use Rattle.bq_model.proofs.Histories.{last_queue-push}
use Rattle.word_rows.specs.declared.place.Place.{Place}
use Rattle.word_rows.specs.declared.head_word.HeadWord.TheVariants.{Node}
use Rattle.word_rows.specs.declared.link_word.LinkWord.TheVariants.{Nil}
use Rattle.lane_steps.specs.Functions.{run, put, upto, rising}
use Rattle.lane_steps.specs.LaneSizes.{LaneSizes}
use Rattle.lane_steps.specs.State.{Memory, Caller, State, own_group}
use Rattle.lane_steps.specs.Act.{far_behind}
use Rattle.lane_steps.specs.Fact.{linearized_is, linked, head_seen, own_rows}
use Rattle.lane_steps.specs.Answers.{closing_answers}
use Rattle.lane_steps.specs.Close.{is_done, to_pass}
use Rattle.lane_steps.specs.Step.{closes}
use Rattle.core_model.specs.Rows.{Debts, OwesRows}
use Rattle.core_model.specs.Facts.{Holds, AtPoint}
use Rattle.core_model.specs.Ghost.{at, owes, Ghost, World}
use Rattle.core_model.specs.Lawful.{shown_queue, queue_owners, shown_owners, head_word, Listed, ItemRows, Headed, Tailed, Announced, Lawful}
use Rattle.core_model.proofs.Owners.{owners_leave, none_enter}
use Rattle.core_model.proofs.Groups.{mine-push_other, length-operations-push}
use Rattle.core_model.proofs.Rely.{world, some_none, true_false, anns_moved, rows_same, NoDebts, Rely}
use Rattle.core_model.proofs.Callers.{guards_row_stable}
use Rattle.core_model.proofs.Preserves.{preserves, changed, rely_history, drafts_same, debts_same, told_plain, waits_plain, waits_there}
use Rattle.core_model.proofs.Joins.{joins_proper, joins_groups, joins_knows, joins_answered}
use Rattle.core_model.proofs.RowsStable.{takes_stable, debts_stable, own_rows_stable}
use Rattle.core_model.proofs.Owing.{owed_passer, owed_reader, pass_owed, read_owed, marked_owed, near_owed, no_debts_owed, debts_owed}
use Rattle.core_model.proofs.Closes.{answers_so}
use Rattle.core_model.proofs.Losses.{losing, losing_point, rows_behind, losing_knows, closing_knows, closed}
use Rattle.core_model.proofs.Lists.{among_none}
use Rattle.core_model.proofs.RowLists.{among_rising, distinct_rising}
use Rattle.std.proofs.lemmas.Bool.{lt-ltb}
use Rattle.std.specs.Prelude.{nat_lt}
use Rattle.lane_steps.specs.declared.point.ClosePoint.TheVariants as close
use Rattle.lane_steps.specs.declared.point.Point.{Point}
use mathlib.Core.Logic.{dite}
use native.Mathlib.Decide.{dec_le}
use Rattle.core_model.proofs.Announces.{stages_moved, pending_same}
use Rattle.core_model.proofs.Lookups.{is_last, node_found}
use Rattle.lane_steps.specs.declared.point.Closing.{Closing}
use Rattle.lane_steps.specs.declared.point.Point.TheVariants as point
use Rattle.core_model.proofs.Puts.{put_here, put_else}
use Rattle.lane_steps.specs.Batches.{owner_of}

module _ (z : LaneSizes) (s : State) (L : Lawful z s) (c : ℕ) where
  abbrev G : Ghost
  G = L.ghost

  abbrev own : Group
  own = own_group c (s.callers c)

  abbrev value_at : ℕ → ℕ
  value_at j = s.memory.value (L.ghost.path j)

  abbrev home_at : ℕ → ℕ
  home_at j = z.home (L.ghost.path j)

  -- where no announcement stands, all rows behind the dummy lie behind the shown head, and are the queue
  all_shown : L.ghost.ann ≡ None → (f : ℕ → ℕ) → run f (suc (L.ghost.head + L.ghost.shown)) L.ghost.queued ≡ run f (suc L.ghost.head) L.ghost.rest
  all_shown no_ann f = let b = L.list.head.none no_ann in let fits = L.list.head.fits in λ i. run f (suc ((let e : G.head + G.shown ≡ G.head = omega arith in e) i)) ((let e : G.queued ≡ G.rest = omega arith in e) i)

  pub bare_queue : L.ghost.ann ≡ None → last_queue s.history ≡ unshut (run value_at (suc L.ghost.head) L.ghost.rest)
  bare_queue no_ann = L.queue ∙ ap unshut (all_shown no_ann value_at)

  -- HEAD moves from the dummy p over m rows, which are these, to the row r, and the command is done, with these answers
  module _ (p : Place) (r m : ℕ) (ws : List ℕ) (x : Closing) (done : is_done x ≡ true) (off : Holds z (world s L.ghost) c (linearized_is false (s.callers c).rows [] [])) (loose : Holds z (world s L.ghost) c (own_rows (s.callers c).rows)) (known_caller : c < z.callers) (some : (s.callers c).ops ≢ []) (plain : NoShut (s.callers c).ops) (adds_none : enqueued (s.callers c).ops ≡ [])
      (head : s.memory.head ≡ Node p) (many : 0 < m) (all : length ws ≡ m) (walked : ws ≡ run L.ghost.path (suc L.ghost.head) m) (enough : m ≤ L.ghost.rest) (row_is : r ≡ L.ghost.path (L.ghost.head + m)) (past : L.ghost.head + m ≤ L.ghost.tail) (right : closing_answers (s.callers c).ops (s.callers c).values x ≡ answers_from (last_queue s.history) (s.callers c).ops)
      (leaves : queue_from (last_queue s.history) (s.callers c).ops ≡ unshut (run (λ j. s.memory.value (L.ghost.path j)) (suc L.ghost.head + m) (L.ghost.rest - m))) where
    count_is : p.count ≡ z.first + G.head
    count_is = ap (λ (q : Place). q.count) (node_found z s L c p head).1

    no_ann : G.ann ≡ None
    no_ann = (node_found z s L c p head).0

    none_stands : (a : ℕ) → G.ann ≡ Some a → ⊥
    none_stands a at = some_none (sym at ∙ no_ann)

    -- nothing lies between the dummy and the shown head
    bare : G.shown ≡ 0
    bare = L.list.head.none no_ann

    -- the rows behind the new dummy
    abbrev left : ℕ
    left = L.ghost.rest - m

    abbrev G' : Ghost
    G' = record G { head = G.head + m; rest = left; queued = left; linearized = put G.linearized c true; passer = owed_passer G.passer G.head c m 0; reader = owed_reader G.reader G.head c m 0 }

    -- it marks the rows from the old dummy on
    abbrev t' : Point
    t' = point.Close x (close.MarkRow p false true false)

    abbrev memory' : Memory
    memory' = record s.memory { head = Node (far_behind p r m) }

    abbrev W : World
    W = record { memory = memory'; history = s.history ++ own ∷ []; ghost = G' }

    same_end : G.head + m + left ≡ G.head + G.rest
    same_end = let e = enough in omega arith

    rely : Rely z (λ _. ⊥) (world s G) W
    rely = let e = same_end in record {
      longer = omega arith;
      heads = omega arith;
      tails = le_refl _;
      path_same = λ _ _. refl;
      chained_same = λ _ _. refl;
      spot_own = λ _ u _. u;
      rows = rows_same (world s G) W (λ _ _ at. at) refl;
      on_same = λ i r on _. (((λ x. on.link.0 (omega arith)), λ x. on.link.1 (omega arith)), refl);
      link_own = λ _ _ _. refl;
      value_own = λ _ _ _. refl;
      mark_own = λ _ _ _. refl;
      value_path = λ _ _ _. refl;
      anns = anns_moved z (world s G) W refl refl (λ _ _. refl) (λ _ _ _ e. e) (λ a at. absurd (none_stands a at));
      holds = λ _ _ e. inl e;
      more = (own ∷ [], refl);
    }

    queue' : last_queue (s.history ++ own ∷ []) ≡ unshut (shown_queue s.memory.value G')
    queue' = last_queue-push s.history own ∙ (leaves ∙ ap (λ (j : ℕ). unshut (run value_at j left)) (let b = bare in let e : suc G.head + m ≡ suc (G.head + m + G.shown) = omega arith in e))

    owners' : queue_owners (s.history ++ own ∷ []) ≡ shown_owners z.home G'
    owners' = owners_leave value_at home_at s.history own (suc G.head) G.rest (suc (G.head + m + G.shown)) left (omega arith) (let b = bare in let e = same_end in omega arith) (last_queue s.history).shut refl (ap (λ (q : Queue). q.values) queue') (none_enter (last_queue s.history).shut (s.callers c).ops adds_none) (L.owners ∙ all_shown no_ann home_at)

    listed' : Listed z.rows s.memory.link G.path G.chained G.spot (G.head + m) left
    listed' = let e = same_end in record {
      joined = λ i from below. L.list.rows.joined i (omega arith) (omega arith);
      last = ap (λ (i : ℕ). s.memory.link (G.path i)) e ∙ L.list.rows.last;
      spots = λ i from below. L.list.rows.spots i (omega arith) (omega arith);
      inside = λ i below. L.list.rows.inside i (omega arith);
      placed = λ r i at. let was = L.list.rows.placed r i at in let below = was.0 in (omega arith, was.1);
    }

    heads : G.head ≤ G'.head
    heads = omega arith

    -- the marks that it is to set
    to_mark : OwesRows z W c p false false ws
    to_mark = let e = same_end in let n = all in record {
      position = G.head;
      count = count_is;
      row = sym (ap (λ (q : Place). q.row) (node_found z s L c p head).1);
      inside = omega arith;
      behind = walked ∙ ap (run G.path (suc G.head)) (sym all);
      owed = λ y le. dite (dec_le m y) (λ last. inl (read y (omega arith) (omega arith))) (λ less. inr (passed y (omega arith)));
      spots = λ y le. L.list.rows.spots (G.head + y) (omega arith) (omega arith);
      first_read = λ no. absurd (true_false (sym no));
      reads = λ y some le. read y some (omega arith);
      passes = λ y less. (passed y (omega arith), omega arith);
    } where
      read : (y : ℕ) → 0 < y → y ≤ m → G'.reader (G.head + y) ≡ owes c
      read y some le = read_owed z s L bare c m 0 (G.head + y) (omega arith) (omega arith)

      passed : (y : ℕ) → y < m → G'.passer (G.head + y) ≡ owes c
      passed y less = pass_owed z s L bare c m 0 (G.head + y) (omega arith) (omega arith)

    -- what it knows then
    knows' : AtPoint z W c (record (s.callers c) { point = t'; walked = ws }) t'
    knows' = record {
      call = (
        subst (λ (b : Bool). Holds z W c (linearized_is b (s.callers c).rows (upto p.count (to_pass (length ws) false)) (upto (suc p.count) (length ws)))) (sym done)
            (put_here G.linearized c true, off.1, (λ no. absurd (true_false no)), takes_stable z (λ _. ⊥) (world s G) W rely c (λ _ _ x. x) (s.callers c).rows off.3, subst (λ (y : List ℕ × List ℕ). Debts z W c y.0 y.1) same_places (debts_owed z s L bare c m 0 memory' (s.history ++ own ∷ []) G' heads off.4)),
        answers_so z W c (s.callers c) t' (s.callers c).rows ws (s.callers c).retired (s.callers c).named (s.callers c).hold (s.callers c).row_hold x (joins_answered z s L c W x done refl right),
      );
      here = (to_mark, (own_rows_stable z (λ _. ⊥) (world s G) W rely c (λ _ _ x. x) (s.callers c).rows loose, (first_passed, tt)));
    } where
      first_passed : true ≡ nat_lt 0 (to_pass (length ws) false)
      first_passed = let n = all in sym (lt-ltb 0 (to_pass (length ws) false) (omega arith))

      same_places : ◌≡◌ {A = List ℕ × List ℕ} (upto (z.first + G.head) (m + 0), upto (z.first + suc G.head) m) (upto p.count (to_pass (length ws) false), upto (suc p.count) (length ws))
      same_places = let cnt = count_is in λ i. (upto (sym count_is i) ((let e : m + 0 ≡ to_pass (length ws) false = ap (λ (n : ℕ). n + 0) (sym all) in e) i), upto ((let e : z.first + suc G.head ≡ suc p.count = omega arith in e) i) (sym all i))

    items' : ItemRows z G.path (G.head + m) left G.shown
    items' = let e = same_end in λ i above below. L.list.item_rows i (omega arith) (omega arith)

    headed' : Headed z.first (Node (far_behind p r m)) G.path (G.head + m) left G.ann G.shown left
    headed' = let b = bare in record {
      named = named ∙ ap (head_word z.first G.path (G.head + m)) (sym no_ann);
      none = λ _. bare;
      fits = omega arith;
    } where
      named : Node (far_behind p r m) ≡ Node (at z.first G.path (G.head + m))
      named = let cnt = count_is in λ i. Node (record { row = row_is i; count = (let y : p.count + m ≡ z.first + (G.head + m) = omega arith in y) i })

    tailed' : Tailed z.first s.memory.tail G.path G.chained (G.head + m) left G.tail
    tailed' = let e = same_end in let a = L.list.tail.within in record {
      named = L.list.tail.named;
      after_head = past;
      within = omega arith;
      lags = λ below single. let b = L.list.tail.lags (omega arith) single in omega arith;
    }

    announced' : Announced z memory' G'
    announced' = let e = same_end in stages_moved z.first (z.callers * z.callers) G.stage G.ann s.memory.notice s.memory.old_tail G.span G.path G.path G.chained G.chained G.cause G.head (G.head + m) (G.head + G.rest) (G.head + m + left) G.shown G.shown G.tail G.tail
        (omega arith) (omega arith) (omega arith) (λ _ _. refl) (λ _ _. refl) (le_refl _) (λ a at. absurd (none_stands a at)) (λ a i at _. absurd (none_stands a at))
        (λ a i f none. absurd (none_stands a (L.announced.unrecorded a i f none).0))
        (λ below is. let x = L.announced.lags (omega arith) is in absurd (none_stands x.0 x.2)) L.announced

    pub head_moved : Lawful z (changed s c (record s.memory { head = Node (far_behind p r m) }) (s.history ++ own_group c (s.callers c) ∷ []) (record (s.callers c) { point = point.Close x (close.MarkRow p false true false); walked = ws }))
    head_moved = preserves z s L c memory' (s.history ++ own ∷ []) G' (record (s.callers c) { point = t'; walked = ws }) (λ _. ⊥) (λ _ x. absurd x) rely
        (λ d apart. record { linearized = put_else G.linearized c true d apart; made = mine-push_other s.history own d apart; drafts = drafts_same z (world s G) W refl refl refl d; hazard = refl; held = refl; row_hazard = refl; row_held = refl; debts = no_debts_owed z s L bare c m 0 memory' (s.history ++ own ∷ []) G' heads (λ _ _ at. at) (λ _ _ at _. at) d apart })
        (marked_owed z s L bare c m 0 memory' (s.history ++ own ∷ []) G' heads (let b = bare in omega arith) (λ none. absurd (omega arith)) (λ _ _ at. inl at))
        (joins_proper z s L c off.0 known_caller some plain) queue' owners'
        (record {
          rows = listed';
          item_rows = items';
          head = headed';
          tail = tailed';
          counts = let e = same_end in let more = length-operations-push s.history own in let was = L.list.counts in omega arith;
          links = L.list.links;
        })
        announced' (λ a at. absurd (none_stands a at)) (λ a waits. absurd (none_stands a (L.announced.waits a waits).0))
        (record {
          guards = (L.callers c).guards;
          guards_row = guards_row_stable z (world s G) W c (s.callers c).row_hold rely.rows refl refl (L.callers c).guards_row;
          own_groups = joins_groups z s L c off.0 t' (s.callers c).rows ws;
          allowed = (L.callers c).allowed;
          knows = joins_knows z s L c off.0 t' (s.callers c).rows ws (λ _. ⊥) W rely (near_owed z s L bare c m 0 memory' (s.history ++ own ∷ []) G' heads (λ _ _ at. at) (λ _ _ at _. at) c) (λ _ _ x. x) refl knows';
        })

  -- nothing lies behind the dummy, and no announcement stands
  pub none_queued : (p : Place) → (on : Holds z (world s L.ghost) c (linked p)) → Holds z (world s L.ghost) c (head_seen p) → on.position ≡ L.ghost.head + L.ghost.rest → last_queue s.history ≡ unshut []
  none_queued p on seen end = let seen' = seen in let count = on.count in let fits = L.list.head.fits in L.queue ∙ ap (λ (n : ℕ). unshut (run value_at (suc (G.head + G.shown)) n)) (let e : G.queued ≡ 0 = omega arith in e)

  -- the command takes effect and comes to its end, where it has yet to mark these rows, and leaves the queue as it is
  module _ (x : Closing) (rows : List ℕ) (done : is_done x ≡ true) (off : Holds z (world s L.ghost) c (linearized_is false rows [] [])) (loose : Holds z (world s L.ghost) c (own_rows rows)) (known_caller : c < z.callers) (some : (s.callers c).ops ≢ []) (plain : NoShut (s.callers c).ops) (enters_none : entered (last_queue s.history).shut (s.callers c).ops ≡ [])
      (right : closing_answers (s.callers c).ops (s.callers c).values x ≡ answers_from (last_queue s.history) (s.callers c).ops) (leaves : queue_from (last_queue s.history) (s.callers c).ops ≡ last_queue s.history) where
    abbrev H : Ghost
    H = record L.ghost { linearized = put L.ghost.linearized c true }

    abbrev E : World
    E = record { memory = s.memory; history = s.history ++ own ∷ []; ghost = H }

    abbrev k' : Caller
    k' = losing (s.callers c) x rows

    on_empty : Rely z (λ _. ⊥) (world s L.ghost) E
    on_empty = rely_history z s G (put G.linearized c true) (s.history ++ own ∷ []) (own ∷ [], refl)

    queue_same : last_queue (s.history ++ own ∷ []) ≡ unshut (shown_queue s.memory.value H)
    queue_same = last_queue-push s.history own ∙ (leaves ∙ L.queue)

    owners_same : queue_owners (s.history ++ own ∷ []) ≡ shown_owners z.home H
    owners_same = owners_leave value_at home_at s.history own (suc (G.head + G.shown)) G.queued (suc (G.head + G.shown)) G.queued (le_refl _) refl (last_queue s.history).shut refl (ap (λ (q : Queue). q.values) queue_same) enters_none L.owners

    still_debts : (d : ℕ) → NoDebts (world s G) E d
    still_debts d = debts_same (world s G) E refl refl refl refl refl d

    knows_empty : AtPoint z E c k' (losing_point x rows)
    knows_empty = losing_knows z c E (s.callers c) x rows
        (subst (λ (b : Bool). Holds z E c (linearized_is b rows [] [])) (sym done)
        (put_here G.linearized c true, off.1, (λ no. absurd (true_false no)), takes_stable z (λ _. ⊥) (world s G) E on_empty c (λ _ _ x. x) rows off.3, debts_stable z (λ _. ⊥) (world s G) E on_empty c (still_debts c) [] [] off.4))
        (own_rows_stable z (λ _. ⊥) (world s G) E on_empty c (λ _ _ x. x) rows loose) (joins_answered z s L c E x done refl right)

    pub found_nothing : Lawful z (changed s c s.memory (s.history ++ own_group c (s.callers c) ∷ []) (losing (s.callers c) x rows))
    found_nothing = preserves z s L c s.memory (s.history ++ own ∷ []) H k' (λ _. ⊥) (λ _ x. absurd x) on_empty
        (λ d apart. record { linearized = put_else G.linearized c true d apart; made = mine-push_other s.history own d apart; drafts = drafts_same z (world s G) E refl refl refl d; hazard = refl; held = refl; row_hazard = refl; row_held = refl; debts = still_debts d })
        L.marks (joins_proper z s L c off.0 known_caller some plain) queue_same owners_same
        (record { rows = L.list.rows; item_rows = L.list.item_rows; head = L.list.head; tail = L.list.tail; counts = let more = length-operations-push s.history own in let was = L.list.counts in omega arith; links = L.list.links })
        L.announced (told_plain z s L c s.memory H k' off.1 L.told)
        (waits_plain z s L c s.memory H k' off.1 (waits_there z s L c) (λ a waits. let p = L.pending a waits in
        pending_same z s.memory.link s.memory.link s.memory.value s.memory.value s.memory.mark s.memory.mark G.spot G.spot G.chain (G.linearized (owner_of z a)) (put G.linearized c true (owner_of z a)) (s.memory.notice a) (owner_of z a) (s.callers (owner_of z a))
        (λ _ _. refl) (λ _ _. refl) (λ _ _. refl) p.unlinked (put_else G.linearized c true (owner_of z a) (off.1 a (waits_there z s L c a waits))) p))
        (record {
          guards = (L.callers c).guards;
          guards_row = (L.callers c).guards_row;
          own_groups = joins_groups z s L c off.0 (losing_point x rows) (rows_behind rows) (s.callers c).walked;
          allowed = (L.callers c).allowed;
          knows = joins_knows z s L c off.0 (losing_point x rows) (rows_behind rows) (s.callers c).walked (λ _. ⊥) E on_empty (still_debts c).near (λ _ _ x. x) refl knows_empty;
        })

  -- and so it does where it ends with the rows that it has taken
  module _ (x : Closing) (done : is_done x ≡ true) (off : Holds z (world s L.ghost) c (linearized_is false (s.callers c).rows [] [])) (loose : Holds z (world s L.ghost) c (own_rows (s.callers c).rows)) (known_caller : c < z.callers) (some : (s.callers c).ops ≢ []) (plain : NoShut (s.callers c).ops) (enters_none : entered (last_queue s.history).shut (s.callers c).ops ≡ [])
      (right : closing_answers (s.callers c).ops (s.callers c).values x ≡ answers_from (last_queue s.history) (s.callers c).ops) (leaves : queue_from (last_queue s.history) (s.callers c).ops ≡ last_queue s.history) where
    pub found_empty : Lawful z (changed s c s.memory (s.history ++ own_group c (s.callers c) ∷ []) (closes (length (s.history ++ own_group c (s.callers c) ∷ [])) c (s.callers c) x))
    found_empty = let rows = (s.callers c).rows in closed z c s s.memory (s.history ++ own ∷ []) (s.callers c) x
        (found_nothing x (rising rows) done (off.0, off.1, off.2, (λ r home none taken fresh. among_rising rows r ∙ off.3 r home none taken fresh), off.4)
        (record { each = λ r is. loose.each r (sym (among_rising rows r) ∙ is); distinct = distinct_rising rows loose.distinct }) known_caller some plain enters_none right leaves)
