-- A help of dequeues alone that finds enough values before the tail decides the batch: the group of its owner joins the
-- history, and no row is linked.
use Rattle.std.proofs.Common.{◌≡◌, ◌≢◌, inr, ℕ, suc, ◌+◌, ◌<◌, ◌≤◌, [], ◌∷◌, ◌++◌, take, sym, refl, ap, ◌∙◌, subst, arith, le_refl, ◌-◌, List, length, drop, Option, Some, None, inl, ltb, Bool, true, false}
use Rattle.bq_model.specs.Queue.{Queue, queue_of, unshut}
use Rattle.std.proofs.lemmas.List.{append-nil}
use Rattle.bq_model.specs.History.{last_queue}
use Rattle.excess_count.specs.Got.{values_from}
use Rattle.word_rows.specs.declared.place.Place.{Place}
use Rattle.word_rows.specs.declared.location.Location.TheVariants.{AnnWord}
use Rattle.word_rows.specs.declared.content.Content.TheVariants.{OfOldTail}
use Rattle.lane_steps.specs.declared.point.Help.{Help}
use Rattle.lane_steps.specs.declared.point.Point.TheVariants as point
use Rattle.lane_steps.specs.declared.point.HelpPoint.TheVariants as help
use Rattle.lane_steps.specs.Functions.{put, run, upto, Distinct}
use Rattle.lane_steps.specs.LaneSizes.{LaneSizes}
use Rattle.excess_count.specs.Counts.{successes_of}
use Rattle.lane_steps.specs.Batches.{owner_of}
use Rattle.lane_steps.specs.State.{State, own_group, Memory, Caller}
use Rattle.lane_steps.specs.Fact.{reads, linked, tail_seen, enough}
use Rattle.lane_steps.specs.Help.{at_old_tail}
use Rattle.lane_steps.specs.Step.{rows_left, step_with, step_at}
use Rattle.word_rows.specs.declared.marks.Marks.{Marks}
use Rattle.core_model.specs.Facts.{Linearized, Effect, Holds}
use Rattle.core_model.specs.Rows.{Takes, Debts, IsLoose, OwnRows}
use Rattle.core_model.specs.Ghost.{unused, decided, On, Stage, waiting, Ghost, World, at}
use Rattle.core_model.specs.Lawful.{queue_owners, Told, Lawful, InOrder, Bound, Standing, Announced, Headed, Pending}
use Rattle.core_model.proofs.Owners.{owners_leave, none_enter}
use Rattle.core_model.proofs.Puts.{put_here, put_else}
use Rattle.core_model.proofs.Groups.{length-operations-push}
use Rattle.core_model.proofs.Runs.{take-run, length-run, drop-run}
use Rattle.core_model.proofs.Rely.{fourth, world, Rely, rows_same, some_none, true_false, waits_decides, one_some}
use Rattle.core_model.proofs.Owing.{pass_owed, read_owed, debts_owed}
use Rattle.core_model.proofs.Preserves.{known, stutters, point_changes}
use Rattle.excess_count.specs.declared.counts.Counts.{Counts}
use Rattle.lane_steps.specs.Stopper.{chain_rows, linked_rows, passes}
use Rattle.core_model.proofs.Decisions as decision
use Rattle.bq_model.specs.declared.group.Group.{Group}
use Rattle.bq_model.proofs.Histories.{last_queue-push}
use Rattle.excess_count.specs.Excess.{enqueue_count, excess_of}
use Rattle.excess_count.proofs.ExcessLaws.{count-ops}
use Rattle.excess_count.proofs.ReplayLaws.{queue_from-counted, queue_from-plain}
use Rattle.word_rows.specs.declared.location.AnnField.TheVariants as field
use Rattle.core_model.proofs.Counting.{stopper_none, linked_few}
use Rattle.core_model.proofs.Excess.{all_excess, none_enqueued}
use Rattle.core_model.proofs.HelpWalk.{known_old}
use Rattle.core_model.proofs.HelpLoads.{decided_known}

module _ (z : LaneSizes) (s : State) (L : Lawful z s) (c : ℕ) (h : Help) (p : Place) (reading : Holds z (world s L.ghost) c (reads 4 h)) (on : Holds z (world s L.ghost) c (linked p)) (seen : Holds z (world s L.ghost) c (tail_seen p))
    (plenty : Holds z (world s L.ghost) c (enough h p)) (open_end : s.memory.old_tail h.ann ≡ None) where
  abbrev G : Ghost
  G = L.ghost

  abbrev a : ℕ
  a = h.ann

  -- the owner, what it preserves, and its group
  abbrev o : ℕ
  o = owner_of z h.ann

  abbrev ko : Caller
  ko = s.callers (owner_of z h.ann)

  abbrev own : Group
  own = own_group (owner_of z h.ann) (s.callers (owner_of z h.ann))

  -- the place of the tail, and the last one
  abbrev i : ℕ
  i = on.position

  abbrev e : ℕ
  e = L.ghost.head + L.ghost.rest

  abbrev many : ℕ
  many = (s.memory.notice h.ann).counts.deqs

  counts_read : (s.memory.notice h.ann).counts ≡ h.counts
  counts_read = reading.counts (omega arith)

  old_read : (s.memory.notice h.ann).old_head ≡ h.old_head
  old_read = reading.old_head (omega arith)

  no_enqs : (s.memory.notice h.ann).counts.enqs ≡ 0
  no_enqs = ap (λ (k : Counts). k.enqs) counts_read ∙ plenty.0

  -- the announcement isn't decided, for then a stopper would be linked behind that tail or before it
  pub waits : L.ghost.stage h.ann ≡ waiting
  waits = by (G.stage a) refl where
    by : (x : Stage) → G.stage a ≡ x → G.stage a ≡ waiting
    by unused u = absurd (reading.installed u)
    by waiting w = w
    by (decided j) d = let u = L.announced.unrecorded a j d open_end in let dm = (L.announced.bound a j d).old_dummy in let linked_so = subst (λ (n : ℕ). 0 < n) dm.3 u.2 in
        let few = linked_few (s.memory.notice a).counts (j - dm.0) no_enqs linked_so in let ds = ap (λ (k : Counts). k.deqs) counts_read in let le = plenty.1 in
        let hc = ap (λ (q : Place). q.count) (sym old_read ∙ dm.1) in let count = on.count in let late = seen in let early = u.1 in absurd (omega arith)

  at_head : G.ann ≡ Some a
  at_head = decision.at_head z s L h.ann on.position 0 waits

  bare : G.shown ≡ 0
  bare = decision.bare z s L h.ann on.position 0 waits

  P : Pending z s.memory.link s.memory.value s.memory.mark G.spot G.chain (G.linearized o) (s.memory.notice a) o ko
  P = decision.waiting_rows z s L h.ann on.position 0 waits

  T : Told z.home s.memory.value G.path (G.stage a) (s.memory.notice a) o ko
  T = decision.told_now z s L h.ann on.position 0 waits

  no_enqueue : enqueue_count ko.ops ≡ 0
  no_enqueue = sym (ap (λ (k : Counts). k.enqs) T.describes.counts) ∙ no_enqs

  excess_is : excess_of ko.ops ≡ many
  excess_is = all_excess ko.ops no_enqueue ∙ sym (ap (λ (k : Counts). k.deqs) T.describes.counts)

  some : 0 < many
  some = let all = count-ops ko.ops T.plain in let e = no_enqueue in let d = ap (λ (k : Counts). k.deqs) T.describes.counts in let ops = T.several in omega arith

  -- so many rows and more lie behind the dummy up to that tail
  far : G.head + many ≤ i
  far = let ds = ap (λ (k : Counts). k.deqs) counts_read in let le = plenty.1 in let hc = ap (λ (q : Place). q.count) (sym old_read ∙ L.announced.old_head a at_head) in let count = on.count in let more = some in omega arith

  inside : i ≤ e
  inside = let below = on.on.inside in omega arith

  reached : i ≤ G.tail
  reached = let late = seen in let count = on.count in omega arith

  all_got : successes_of (s.memory.notice h.ann).counts (i - G.head) ≡ many
  all_got = let x = ap (λ (k : Counts). k.excess) T.describes.counts in let ex = excess_is in let f = far in omega arith

  got_now : successes_of (s.memory.notice h.ann).counts G.rest ≡ many
  got_now = let x = ap (λ (k : Counts). k.excess) T.describes.counts in let ex = excess_is in let f = far in let b = inside in omega arith

  no_stopper : linked_rows (s.memory.notice h.ann).counts (i - G.head) ≡ 0
  no_stopper = let none = stopper_none (s.memory.notice h.ann).counts (i - G.head) (λ _. let f = far in let le : many ≤ i - G.head = omega arith in le) in let e0 = no_enqs in omega arith

  passes_all : many ≡ passes (s.memory.notice h.ann).counts (i - G.head)
  passes_all = let none = stopper_none (s.memory.notice h.ann).counts (i - G.head) (λ _. let f = far in let le : many ≤ i - G.head = omega arith in le) in let g = all_got in omega arith

  abbrev old' : ℕ → Option Place
  old' = put s.memory.old_tail h.ann (Some p)

  old_else : (x : ℕ) → x ≢ a → old' x ≡ s.memory.old_tail x
  old_else x apart = put_else s.memory.old_tail a (Some p) x apart

  -- the world after the step: no row is linked
  abbrev W : World
  W = decision.decided_world z s L h.ann on.position 0 waits L.ghost.path L.ghost.chained L.ghost.spot L.ghost.rest many many 0 (L.ghost.rest - many) L.ghost.cause s.memory.link old'

  place_is : p ≡ at z.first G.path i
  place_is = λ y. record { row = sym on.on.row y; count = on.count y }

  rely : Rely z (λ _. ⊥) (world s G) W
  rely = record {
    longer = le_refl _;
    heads = le_refl _;
    tails = le_refl _;
    path_same = λ _ _. refl;
    chained_same = λ _ _. refl;
    spot_own = λ _ u _. u;
    rows = rows_same (world s G) W (λ _ _ at. at) refl;
    on_same = λ i r on _. (on.link, refl);
    link_own = λ _ _ _. refl;
    value_own = λ _ _ _. refl;
    mark_own = λ _ _ _. refl;
    value_path = λ _ _ _. refl;
    anns = decision.anns_decide z s L h.ann on.position 0 waits L.ghost.path L.ghost.chained L.ghost.spot L.ghost.rest many many 0 (L.ghost.rest - many) L.ghost.cause s.memory.link old' old_else (inr refl);
    holds = λ _ _ e. inl e;
    more = (own ∷ [], refl);
  }

  abbrev value_at : ℕ → ℕ
  value_at j = s.memory.value (L.ghost.path j)

  queue_was : last_queue s.history ≡ unshut (run value_at (suc G.head) G.rest)
  queue_was = decision.waiting_queue z s L h.ann on.position 0 waits

  length_queue : length (last_queue s.history).values ≡ G.rest
  length_queue = ap (λ (q : Queue). length q.values) queue_was ∙ length-run value_at (suc G.head) G.rest

  all_values : values_from (last_queue s.history).values ko.ops ≡ run value_at (suc G.head) G.rest
  all_values = ap (λ (vs : List ℕ). (last_queue s.history).values ++ vs) (none_enqueued ko.ops no_enqueue) ∙ (append-nil (last_queue s.history).values ∙ ap (λ (q : Queue). q.values) queue_was)

  within : many ≤ G.rest
  within = let f = far in let b = inside in omega arith

  queue' : last_queue (s.history ++ own ∷ []) ≡ unshut (run value_at (suc (G.head + many)) (G.rest - many))
  queue' = last_queue-push s.history own ∙ (queue_from-plain (last_queue s.history) ko.ops T.plain (inr no_enqueue)
      ∙ ((λ k. queue_of (queue_from-counted (s.memory.notice a).counts ko.ops (last_queue s.history).values G.rest T.plain T.describes.counts length_queue k).values (queue_was k).shut)
      ∙ ap unshut ((λ k. drop (got_now k) (all_values k)) ∙ (drop-run value_at (suc G.head) G.rest many within ∙ ap (λ (j : ℕ). run value_at j (G.rest - many)) (let f : suc G.head + many ≡ suc (G.head + many) = omega arith in f)))))

  owners' : queue_owners (s.history ++ own ∷ []) ≡ run (λ j. z.home (G.path j)) (suc (G.head + many)) (G.rest - many)
  owners' = owners_leave value_at (λ j. z.home (G.path j)) s.history own (suc G.head) G.rest (suc (G.head + many)) (G.rest - many) (omega arith) (let w = within in omega arith) (last_queue s.history).shut refl (ap (λ (q : Queue). q.values) queue') (none_enter (last_queue s.history).shut ko.ops (none_enqueued ko.ops no_enqueue)) (decision.waiting_owners z s L h.ann on.position 0 waits)

  headed' : Headed z.first s.memory.head G.path G.head G.rest G.ann many (G.rest - many)
  headed' = record { named = L.list.head.named; none = λ no. absurd (some_none (sym at_head ∙ no)); fits = let w = within in omega arith }

  bound_here : Bound z.first G.path G.chained G.cause (G.head + G.rest) G.tail (s.memory.notice a) a i 0
  bound_here = let b = inside in let r = reached in let f = far in record {
    causes = λ no. absurd (omega arith);
    by_chain = λ no. absurd (omega arith);
    within = omega arith;
    starts = λ no. absurd (omega arith);
    ends = λ no. absurd (omega arith);
    joined = λ j above below. absurd (omega arith);
    reached = reached;
    old_dummy = (G.head, L.announced.old_head a at_head, (omega arith), sym no_stopper);
    covered = let x = ap (λ (k : Counts). k.excess) T.describes.counts in let ex = excess_is in omega arith;
    all_excess = λ _. ap (λ (k : Counts). k.excess) T.describes.counts ∙ excess_is;
  }

  standing_here : Standing G.head many G.tail (s.memory.notice a) i 0
  standing_here = let f = far in let r = reached in record { from = omega arith; shows = passes_all; inside = omega arith; tails = inr (omega arith) }

  abbrev memory' : Memory
  memory' = record s.memory { old_tail = old' }

  announced' : Announced z memory' W.ghost
  announced' = decision.stages_decide z s L h.ann on.position 0 waits L.ghost.path L.ghost.chained L.ghost.spot L.ghost.rest many many 0 (L.ghost.rest - many) L.ghost.cause s.memory.link old' old_else (λ _ _. refl) bound_here (λ x j d. L.announced.bound x j d) standing_here
      (λ q is. one_some (sym is ∙ put_here s.memory.old_tail a (Some p)) ∙ place_is) (λ none. absurd (some_none (sym (put_here s.memory.old_tail a (Some p)) ∙ none)))
      (λ below by. let x = L.announced.lags below by in absurd (waits_decides waits (ap G.stage (one_some (sym at_head ∙ x.2)) ∙ x.1)))

  -- the owner's batch stands in the history, on a queue that may be longer than its old tail says
  linearized_here : Linearized z W o a i ko.started_at own
  linearized_here = record {
    pre = s.history;
    post = [];
    stands = sym (append-nil (s.history ++ own ∷ []));
    since_start = (L.callers o).knows.started;
    counts = T.describes.counts;
    plain = T.plain;
    unhindered = inr no_enqueue;
    dummy = G.head;
    old_head = L.announced.old_head a at_head;
    before = let f = far in omega arith;
    no_shorter = let l = length_queue in let b = inside in omega arith;
    length_queue = inr (let ex = excess_is in let f = far in omega arith);
    values = subst (λ (n : ℕ). take n (values_from (last_queue s.history).values ko.ops) ≡ run value_at (suc G.head) n) (sym all_got) (ap (take many) all_values ∙ take-run value_at (suc G.head) G.rest many within);
    inside = let all = passes_all in let w = within in omega arith;
    rows = λ x le _. on_list x (let g = all_got in omega arith);
    to_pass = λ x below. pass_owed z s L bare o many 0 (G.head + x) (omega arith) (let all = passes_all in omega arith);
    to_read = λ x late le. read_owed z s L bare o many 0 (G.head + x) (omega arith) (let g = all_got in omega arith);
  } where
    on_list : (x : ℕ) → x ≤ many → On W (G.head + x) (G.path (G.head + x))
    on_list x le = let w = within in record {
      inside = omega arith;
      spot = L.list.rows.spots (G.head + x) (omega arith) (omega arith);
      row = refl;
      link = ((λ last. ap (λ (y : ℕ). s.memory.link (G.path y)) (let f : G.head + x ≡ G.head + G.rest = omega arith in f) ∙ L.list.rows.last), λ below. L.list.rows.joined (G.head + x) (omega arith) (omega arith));
    }

  list' : InOrder z memory' (s.history ++ own ∷ []) W.ghost
  list' = record {
    rows = L.list.rows;
    item_rows = λ i above below. let none = bare in L.list.item_rows i (omega arith) below;
    head = headed';
    tail = L.list.tail;
    counts = let made = L.list.counts in let all = length-operations-push s.history own in omega arith;
    links = L.list.links;
  }

  -- its stopper stays unlinked, and its owner has the marks of the rows that it passes and reads to set
  effect : Takes z (world s G) o ko.rows × Debts z (world s G) o [] [] × Distinct ko.rows → Effect z W o a i ko.started_at own ko.rows
  unfolding linearized_here
  effect f = record {
    stands = put_here G.linearized o true;
    batch = linearized_here;
    taken = subst (λ (b : Bool). Takes z W o (rows_left b ko.rows)) (sym none_linked) f.0;
    loose = subst (λ (b : Bool). OwnRows z W o (rows_left b ko.rows)) (sym none_linked) (record { each = λ r is. loose r (P.taken r is); distinct = f.2 });
    debts = subst (λ (y : ℕ × ℕ). Debts z W o (upto (z.first + G.head) y.0) (upto (z.first + suc G.head) y.1)) (λ k. (passed k, sym all_got k)) (debts_owed z s L bare o many 0 memory' (s.history ++ own ∷ []) W.ghost (le_refl _) f.1);
  } where
    none_linked : ltb 0 (linked_rows (s.memory.notice a).counts (i - G.head)) ≡ false
    none_linked = ap (ltb 0) no_stopper

    passed : many + 0 ≡ passes (s.memory.notice a).counts (i - G.head)
    passed = let all = passes_all in omega arith

    loose : (r : ℕ) → (j : ℕ) × (j < chain_rows (s.memory.notice a).counts) × (G.chain j ≡ r) → IsLoose z W o r
    loose r y = subst (IsLoose z W o) y.2 (record {
      at_home = P.homes y.0 y.1;
      inside = P.inside y.0 y.1;
      unlinked = P.unlinked y.0 y.1;
      kept = ap (λ (x : Marks). x.free) (P.marks y.0 y.1);
      unmarked = λ both. true_false (sym (ap (λ (x : Marks). x.passed) both) ∙ ap (λ (x : Marks). x.passed) (P.marks y.0 y.1));
    })

  pub decided_lawful : Lawful z record { memory = record s.memory { old_tail = put s.memory.old_tail h.ann (Some p) }; history = s.history ++ own_group (owner_of z h.ann) (s.callers (owner_of z h.ann)) ∷ []; callers = s.callers }
  decided_lawful = decision.decision z s L h.ann on.position 0 waits L.ghost.path L.ghost.chained L.ghost.spot L.ghost.rest many many 0 (L.ghost.rest - many) L.ghost.cause s.memory.link old' old_else (λ _. ⊥) rely (λ _ x. absurd x)
      (omega arith) (λ none. absurd (omega arith)) (λ _ _ at. at) (λ _ _ at. inl at) effect queue' owners' list' announced' (none_enqueued ko.ops no_enqueue ∙ ap (run value_at (suc i)) (sym no_enqs))

module _ (z : LaneSizes) (s : State) (L : Lawful z s) (c : ℕ) where
  tail_decided : (h : Help) (p : Place) (x : Option Place) → s.memory.old_tail h.ann ≡ x → (s.callers c).point ≡ point.Help h (help.Decide p) → Lawful z (step_with z s c (point.Help h (help.Decide p)) (OfOldTail x))
  tail_decided h p None at_none is = let f = known z s L c (point.Help h (help.Decide p)) is in let m : Memory = record s.memory { old_tail = put s.memory.old_tail h.ann (Some p) } in
      let s' : State = record { memory = m; history = s.history ++ own_group (owner_of z h.ann) (s.callers (owner_of z h.ann)) ∷ []; callers = s.callers } in
      let V : Lawful z s' = decided_lawful z s L c h p f.call.0 f.here.0 f.here.1.0 (fourth f.here) at_none in let k = known z s' V c (point.Help h (help.Decide p)) is in let known_tail = put_here s.memory.old_tail h.ann (Some p) in let d = decided_known z s' V h.ann p k.call.0.installed known_tail in
      point_changes z s' V c (point.Help h (at_old_tail h p)) (known_old z s' V c h p k.call.0 (record { position = d.0; is_decided = d.1; old_tail = known_tail }) k.call.1)
  tail_decided h p (Some q) at_some is = let f = known z s L c (point.Help h (help.Decide p)) is in let d = decided_known z s L h.ann q f.call.0.installed at_some in
      stutters z s L c (point.Help h (at_old_tail h q)) (AnnWord h.ann field.OldTail) (OfOldTail (Some q)) (ap OfOldTail at_some) (known_old z s L c h q f.call.0 (record { position = d.0; is_decided = d.1; old_tail = at_some }) f.call.1)

  pub preserves_decide : (h : Help) (p : Place) → (s.callers c).point ≡ point.Help h (help.Decide p) → Lawful z (step_at z s c (point.Help h (help.Decide p)))
  preserves_decide h p is = tail_decided h p (s.memory.old_tail h.ann) refl is
