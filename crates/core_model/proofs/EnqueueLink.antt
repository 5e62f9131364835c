-- The exchange that links a row at the end of the list: the enqueue takes effect.
use Rattle.std.proofs.Common.{◌≡◌, ◌≢◌, ◌⊎◌, inl, inr, ℕ, suc, ◌+◌, ◌*◌, ◌<◌, ◌≤◌, Bool, true, false, List, [], ◌∷◌, ◌++◌, sym, refl, ap, ◌∙◌, subst, arith, le_refl, Option, Some, None}
use mathlib.Core.Logic.{dite}
use native.Mathlib.Decide.{ℕ_discrete}
use Rattle.bq_model.specs.declared.op.Op.{Op}
use Rattle.bq_model.specs.declared.op.Op.TheVariants.{Enq}
use Rattle.bq_model.specs.declared.group.Group.{Group}
use Rattle.bq_model.specs.Queue.{Queue, unshut, queue_after, put_answer}
use Rattle.bq_model.specs.Replay.{answers_from, queue_from}
use Rattle.bq_model.specs.History.{last_queue}
use Rattle.bq_model.proofs.Histories.{last_queue-push}
use Rattle.word_rows.specs.declared.place.Place.{Place}
use Rattle.word_rows.specs.declared.link_word.LinkWord.{LinkWord}
use Rattle.word_rows.specs.declared.link_word.LinkWord.TheVariants.{Nil, Single, Chain, Shut}
use Rattle.word_rows.specs.declared.location.Location.TheVariants.{Link}
use Rattle.word_rows.specs.declared.content.Content.TheVariants.{OfLink}
use Rattle.bq_model.specs.declared.op.Answer.TheVariants.{Done}
use Rattle.lane_steps.specs.declared.point.Closing.TheVariants.{Plain}
use Rattle.lane_steps.specs.declared.point.Item.{Item}
use Rattle.lane_steps.specs.declared.point.Point.TheVariants as point
use Rattle.lane_steps.specs.declared.point.EnqueuePoint.TheVariants as enq
use Rattle.lane_steps.specs.Functions.{put, run}
use Rattle.lane_steps.specs.LaneSizes.{LaneSizes, IsItem}
use Rattle.lane_steps.specs.State.{Memory, Caller, State, own_group}
use Rattle.lane_steps.specs.Fact.{linked, owns, holds_item, is_op, linearized_is}
use Rattle.lane_steps.specs.Step.{stepped, step_with, step_at}
use Rattle.core_model.specs.Facts.{Holds, AtPoint, Knows}
use Rattle.core_model.specs.Rows.{Takes, Loose}
use Rattle.core_model.specs.Ghost.{paid, is_paid, RetiredBy, at, Ghost, World, positions, joint, Unlinked, LinkAt, On}
use Rattle.core_model.specs.Lawful.{Marked, shown_queue, queue_owners, shown_owners, head_word, Listed, ItemRows, Headed, Tailed, Announced, IsTold, Waits, Lawful}
use Rattle.core_model.proofs.Owners.{enqueuers, owners_follow}
use Rattle.core_model.proofs.Puts.{put_here, put_else, run_last, run_same}
use Rattle.core_model.proofs.Groups.{mine-push_other}
use Rattle.core_model.proofs.RowsStable.{debts_stable}
use Rattle.core_model.proofs.Lists.{among_one}
use Rattle.word_rows.specs.declared.marks.Marks.{Marks}
use Rattle.core_model.proofs.Rely.{third, fourth, world, anns_same, rows_same, NoDebts, Rely, true_false, one_some, some_none}
use Rattle.core_model.proofs.Callers.{guards_row_stable}
use Rattle.core_model.proofs.Preserves.{known, stutters, preserves, changed, drafts_same, told_on, waits_on, waits_there}
use Rattle.core_model.proofs.Joins.{linearizes_proper, linearizes_operations, joins_groups, joins_knows, joins_answered}
use Rattle.lane_steps.specs.Batches.{owner_of}
use Rattle.core_model.proofs.Announces.{stages_moved, told_same, pending_same, links_put, rows_within}
use Rattle.core_model.proofs.Lookups.{is_last}

module _ (z : LaneSizes) (s : State) (L : Lawful z s) (c : ℕ) where
  module _ (x : Item) (p : Place) (off : Holds z (world s L.ghost) c (linearized_is false (x.row ∷ []) [] [])) (op : Holds z (world s L.ghost) c (is_op (s.callers c).ops (s.callers c).rows (Enq x.value)))
      (o : Holds z (world s L.ghost) c (owns false x.row)) (full : Holds z (world s L.ghost) c (holds_item x))
      (f : Holds z (world s L.ghost) c (linked p)) (seen : p.count ≤ z.first + L.ghost.tail) (nil : s.memory.link p.row ≡ Nil) where
    abbrev G : Ghost
    G = L.ghost

    -- the last position, and the new one
    abbrev e : ℕ
    e = G.head + G.rest

    abbrev n : ℕ
    n = positions G

    abbrev path' : ℕ → ℕ
    path' = put G.path (suc (G.head + G.rest)) x.row

    abbrev chained' : ℕ → Bool
    chained' = put G.chained (G.head + G.rest) false

    abbrev spot' : ℕ → Option ℕ
    spot' = put G.spot x.row (Some n)

    abbrev link' : ℕ → LinkWord
    link' = put s.memory.link p.row (Single x.row)

    abbrev G' : Ghost
    G' = record G { path = path'; chained = chained'; rest = suc G.rest; queued = suc G.queued; linearized = put G.linearized c true; spot = spot' }

    abbrev k' : Caller
    k' = stepped (s.callers c) (point.Enqueue x (enq.MoveTail p x.row))

    abbrev own : Group
    own = own_group c (s.callers c)

    abbrev memory' : Memory
    memory' = record s.memory { link = link' }

    abbrev W : World
    W = record { memory = memory'; history = s.history ++ own ∷ []; ghost = G' }

    flag_is : (last_queue s.history).shut ≡ false
    flag_is = ap (λ (q : Queue). q.shut) L.queue

    end_is : f.position ≡ e
    end_is = is_last z s L c p f nil

    row_is : p.row ≡ G.path e
    row_is = sym f.on.row ∙ ap G.path end_is

    count_is : p.count ≡ z.first + e
    count_is = f.count ∙ ap (λ (i : ℕ). z.first + i) end_is

    spot_is : G.spot p.row ≡ Some e
    spot_is = f.on.spot ∙ ap Some end_is

    -- a row at another position, or at none
    not_end : (r i : ℕ) → G.spot r ≡ Some i → i ≢ e → r ≢ p.row
    not_end r i at apart is = apart (same (sym at ∙ (ap G.spot is ∙ spot_is))) where
      same : Some i ≡ Some e → i ≡ e
      same y = cc y

    off_end : (r : ℕ) → G.spot r ≡ None → r ≢ p.row
    off_end r at is = nothing (sym at ∙ (ap G.spot is ∙ spot_is)) where
      nothing : None ≡ Some e → ⊥
      nothing y = cc y

    placed : (r i : ℕ) → G.spot r ≡ Some i → r ≢ x.row
    placed r i at is = nothing (sym o.0.free.unlinked ∙ (ap G.spot (sym is) ∙ at)) where
      nothing : None ≡ Some i → ⊥
      nothing y = cc y

    old_path : (i : ℕ) → i < n → path' i ≡ G.path i
    old_path i below = put_else G.path n x.row i (λ is. omega arith)

    new_path : path' n ≡ x.row
    new_path = put_here G.path n x.row

    own_link : (r : ℕ) → Unlinked (world s G) r → link' r ≡ s.memory.link r
    own_link r u = put_else s.memory.link p.row (Single x.row) r (off_end r u)

    -- the row that was the last one is linked to the new one
    end_link : (i r : ℕ) → i ≡ e → r ≡ p.row → link' r ≡ joint (chained' i) (path' (suc i))
    end_link i r is at = (ap link' at ∙ put_here s.memory.link p.row (Single x.row))
        ∙ sym (ap (λ (j : ℕ). joint (chained' j) (path' (suc j))) is ∙ (ap (λ (b : Bool). joint b (path' n)) (put_here G.chained e false) ∙ ap Single new_path))

    -- and all others as they were
    old_link : (i r : ℕ) → suc i < n → i ≢ e → G.spot r ≡ Some i → s.memory.link r ≡ joint (G.chained i) (G.path (suc i)) → link' r ≡ joint (chained' i) (path' (suc i))
    old_link i r below apart at is = (put_else s.memory.link p.row (Single x.row) r (not_end r i at apart) ∙ is)
        ∙ sym (ap (λ (b : Bool). joint b (path' (suc i))) (put_else G.chained e false i apart) ∙ ap (joint (G.chained i)) (old_path (suc i) below))

    -- a fact of each position
    each_place : (P : ℕ → ℕ → Type 0) (from : ℕ) → ((i : ℕ) → from ≤ i → i < n → P i (G.path i)) → P n x.row → (i : ℕ) → from ≤ i → i < positions G' → P i (path' i)
    each_place P from old new i above below = dite (ℕ_discrete i n) (λ is. subst (λ (j : ℕ). P j (path' j)) (sym is) (subst (P n) (sym new_path) new))
        (λ apart. let below' : i < n = omega arith in subst (P i) (sym (old_path i below')) (old i above below'))

    -- a fact of each row that has a position
    each_row : (P : ℕ → ℕ → Type 0) → P x.row n → ((r i : ℕ) → G.spot r ≡ Some i → P r i) → (r i : ℕ) → spot' r ≡ Some i → P r i
    each_row P new old r i at = dite (ℕ_discrete r x.row)
        (λ is. let same : n ≡ i = one_some (sym (ap spot' is ∙ put_here G.spot x.row (Some n)) ∙ at) in subst (λ (q : ℕ). P q i) (sym is) (subst (P x.row) same new))
        (λ apart. old r i (sym (put_else G.spot x.row (Some n) r apart) ∙ at))

    listed' : Listed z.rows link' path' chained' spot' G.head (suc G.rest)
    listed' = record {
      joined = λ i from below. dite (ℕ_discrete i e)
          (λ is. end_link i (path' i) is (old_path i (omega arith) ∙ (ap G.path is ∙ sym row_is)))
          (λ apart. old_link i (path' i) (omega arith) apart (ap G.spot (old_path i (omega arith)) ∙ L.list.rows.spots i from (omega arith)) (ap s.memory.link (old_path i (omega arith)) ∙ L.list.rows.joined i from (omega arith)));
      last = let end : G.head + suc G.rest ≡ n = omega arith in ap (λ (i : ℕ). link' (path' i)) end ∙ (ap link' new_path ∙ (own_link x.row o.0.free.unlinked ∙ o.1));
      spots = λ i from below. each_place (λ i r. spot' r ≡ Some i) G.head (λ i from below. put_else G.spot x.row (Some n) (G.path i) (placed (G.path i) i (L.list.rows.spots i from below)) ∙ L.list.rows.spots i from below)
          (put_here G.spot x.row (Some n)) i from below;
      inside = λ i below. each_place (λ i r. r < z.rows) 0 (λ i _ below. L.list.rows.inside i below) o.0.free.inside i (omega arith) below;
      placed = λ r i at. each_row (λ r i. (i < suc (G.head + suc G.rest)) × (path' i ≡ r)) (omega arith, new_path) (λ r i at. let was = L.list.rows.placed r i at in let below = was.0 in (omega arith, old_path i was.0 ∙ was.1)) r i at;
    }

    -- the new row has no mark, as nobody has to set one
    marked' : Marked s.memory.mark spot' G.reader G.passer G.head G.shown
    marked' = let fits = L.list.head.fits in record {
      kept = each_row (λ r i. (s.memory.mark r).free ≡ false) (ap (λ (m : Marks). m.free) o.0.marks) L.marks.kept;
      read = each_row (λ r i. (s.memory.mark r).read ≡ is_paid (G.reader i)) (ap (λ (m : Marks). m.read) o.0.marks ∙ ap is_paid (sym (L.marks.unread n (omega arith)))) L.marks.read;
      passed = each_row (λ r i. (s.memory.mark r).passed ≡ is_paid (G.passer i)) (ap (λ (m : Marks). m.passed) o.0.marks ∙ ap is_paid (sym (L.marks.unpassed n (omega arith)))) L.marks.passed;
      unread = L.marks.unread;
      unpassed = L.marks.unpassed;
      was_read = L.marks.was_read;
      was_passed = L.marks.was_passed;
      behind = L.marks.behind;
    }

    items' : ItemRows z path' G.head (suc G.rest) G.shown
    items' = λ i above below. each_place (λ i r. IsItem z r) (suc (G.head + G.shown)) (λ i above below. L.list.item_rows i (omega arith) below) (o.0.free.of_kind refl) i (omega arith) (omega arith)

    headed' : Headed z.first s.memory.head path' G.head (suc G.rest) G.ann G.shown (suc G.queued)
    headed' = record {
      named = L.list.head.named ∙ named G.ann;
      none = L.list.head.none;
      fits = let fits = L.list.head.fits in omega arith;
    } where
      named : (a : Option ℕ) → head_word z.first G.path G.head a ≡ head_word z.first path' G.head a
      named None = ap (λ (r : ℕ). Rattle.word_rows.specs.declared.head_word.HeadWord.TheVariants.Node (record { row = r; count = z.first + G.head })) (sym (old_path G.head (omega arith)))
      named (Some a) = refl

    tailed' : Tailed z.first s.memory.tail path' chained' G.head (suc G.rest) G.tail
    tailed' = let a = L.list.tail.within in let b = L.list.tail.after_head in let late = seen in let here = count_is in record {
      named = L.list.tail.named ∙ ap (λ (r : ℕ). record { row = r; count = z.first + G.tail }) (sym (old_path G.tail (omega arith)));
      after_head = b;
      within = omega arith;
      lags = λ _ _. omega arith;
    }

    queue' : last_queue (s.history ++ own ∷ []) ≡ unshut (shown_queue s.memory.value G')
    queue' = last_queue-push s.history own ∙ (ap (queue_from (last_queue s.history)) op.0 ∙ (ap (λ (q : Queue). queue_after q (Enq x.value)) L.queue ∙ (ap (λ (q : List ℕ). unshut (q ++ x.value ∷ []))
        (run_same (λ i. s.memory.value (G.path i)) (λ i. s.memory.value (path' i)) (suc (G.head + G.shown)) G.queued (λ j from below. let fits = L.list.head.fits in ap s.memory.value (sym (old_path j (omega arith)))))
        ∙ (ap (λ (v : ℕ). unshut (run (λ i. s.memory.value (path' i)) (suc (G.head + G.shown)) G.queued ++ v ∷ []))
        (sym (ap (λ (i : ℕ). s.memory.value (path' i)) (let fits = L.list.head.fits in let new : suc (G.head + G.shown) + G.queued ≡ n = omega arith in new) ∙ (ap s.memory.value new_path ∙ full.1)))
        ∙ ap unshut (sym (run_last (λ i. s.memory.value (path' i)) (suc (G.head + G.shown)) G.queued))))))

    owners' : queue_owners (s.history ++ own ∷ []) ≡ shown_owners z.home G'
    owners' = owners_follow (λ i. s.memory.value (path' i)) (λ i. z.home (path' i)) s.history own (suc (G.head + G.shown)) (suc G.queued) (suc (G.head + G.shown)) (suc G.queued) (le_refl _) refl false flag_is (ap (λ (q : Queue). q.values) queue')
        (ap (λ (ops : List Op). queue_owners s.history ++ enqueuers c false ops) op.0 ∙ ((λ k. owners_before k ++ home_is k ∷ []) ∙ sym (run_last (λ i. z.home (path' i)) (suc (G.head + G.shown)) G.queued))) where
          owners_before : queue_owners s.history ≡ run (λ i. z.home (path' i)) (suc (G.head + G.shown)) G.queued
          owners_before = L.owners ∙ run_same (λ i. z.home (G.path i)) (λ i. z.home (path' i)) (suc (G.head + G.shown)) G.queued (λ j from below. let fits = L.list.head.fits in ap z.home (sym (old_path j (omega arith))))

          home_is : c ≡ z.home (path' (suc (G.head + G.shown) + G.queued))
          home_is = sym (ap (λ (i : ℕ). z.home (path' i)) (let fits = L.list.head.fits in let new : suc (G.head + G.shown) + G.queued ≡ n = omega arith in new) ∙ (ap z.home new_path ∙ o.0.free.at_home))

    linked_on : (i r : ℕ) → On (world s G) i r → LinkAt W i r
    linked_on i r on = (
      (λ is. let below = on.inside in absurd (omega arith)),
      λ below. dite (ℕ_discrete i e)
          (λ is. end_link i r is (sym on.row ∙ (ap G.path is ∙ sym row_is)))
          (λ apart. let inside = on.inside in old_link i r (omega arith) apart on.spot (on.link.1 (omega arith))),
    )

    rely : Rely z (λ r. r ≡ x.row) (world s G) W
    rely = record {
      longer = omega arith;
      heads = le_refl _;
      tails = le_refl _;
      path_same = old_path;
      chained_same = λ i below. put_else G.chained e false i (λ is. omega arith);
      spot_own = λ r u apart. put_else G.spot x.row (Some n) r apart ∙ u;
      rows = rows_same (world s G) W (λ r i at. put_else G.spot x.row (Some n) r (placed r i at) ∙ at) refl;
      on_same = λ i r on _. (linked_on i r on, refl);
      link_own = λ r u _. own_link r u;
      value_own = λ _ _ _. refl;
      mark_own = λ _ _ _. refl;
      value_path = λ _ _ _. refl;
      anns = anns_same z (world s G) W refl refl refl refl refl refl refl;
      holds = λ _ _ e. inl e;
      more = (own ∷ [], refl);
    }

    -- the marks to set and the retired rows are the same
    debts : (d : ℕ) → NoDebts (world s G) W d
    debts d = record {
      near = record {
        reads = λ _ e. e;
        passes = λ _ e. e;
        retired = λ r i t. record { spot = put_else G.spot x.row (Some n) r (placed r i t.spot) ∙ t.spot; before = t.before; was_read = t.was_read; was_passed = t.was_passed; kept = t.kept };
        no_retired = λ r i t. each_row (λ r i. i < G.head → G.reader i ≡ paid → G.passer i ≡ paid → G.keeper i ≡ d → RetiredBy (world s G) d r i)
            (λ early _ _ _. absurd (omega arith)) (λ r i at before was_read was_passed kept. record { spot = at; before = before; was_read = was_read; was_passed = was_passed; kept = kept }) r i t.spot t.before t.was_read t.was_passed t.kept;
      };
      no_reads = λ _ e. e;
      no_passes = λ _ e. e;
    }

    -- the row isn't retired, and is linked now
    not_loose : (r : ℕ) → Loose z (world s G) c r ⊎ Loose z W c r → r ≢ x.row
    not_loose r (inl l) is = true_false (ap (λ (m : Marks). m.read) (sym l.marks ∙ (ap s.memory.mark is ∙ o.0.marks)))
    not_loose r (inr l) is = true_false (ap (λ (m : Marks). m.read) (sym l.marks ∙ (ap s.memory.mark is ∙ o.0.marks)))

    none_taken : Takes z W c []
    none_taken r home at taken fresh = dite (ℕ_discrete r x.row) (λ is. absurd (some_none (sym (ap spot' is ∙ put_here G.spot x.row (Some n)) ∙ at)))
        (λ apart. absurd (apart (sym (among_one x.row r (off.3 r home (sym (put_else G.spot x.row (Some n) r apart) ∙ at) taken fresh)))))

    knows' : Knows z W c k'
    knows' = joins_knows z s L c off.0 (point.Enqueue x (enq.MoveTail p x.row)) (s.callers c).rows (s.callers c).walked (λ r. r ≡ x.row) W rely (debts c).near not_loose refl (record {
      call = (
        (put_here G.linearized c true, off.1, (λ no. absurd (true_false no)), none_taken, debts_stable z (λ r. r ≡ x.row) (world s G) W rely c (debts c) [] [] off.4),
        (op, joins_answered z s L c W (Plain Done) refl refl (ap (λ (b : Bool). put_answer b ∷ []) (sym flag_is) ∙ sym (ap (answers_from (last_queue s.history)) op.0))),
      );
      here = (
        record {
          from = (let here = count_is in omega arith);
          inside = o.0.free.inside;
          there = λ i is. let here = count_is in let same : i ≡ e = omega arith in (omega arith, ap (λ (y : ℕ). path' (suc y)) same ∙ new_path);
        },
        ((λ i is. let here = count_is in let same : i ≡ e = omega arith in (omega arith, ap chained' same ∙ put_here G.chained e false)), tt),
      );
    })

    tail_is : G.tail ≡ e
    tail_is = let within = L.list.tail.within in let late = seen in let here = count_is in omega arith

    announced' : Announced z memory' G'
    announced' = let at_end = tail_is in stages_moved z.first (z.callers * z.callers) G.stage G.ann s.memory.notice s.memory.old_tail G.span G.path path' G.chained chained' G.cause G.head G.head (G.head + G.rest) (G.head + suc G.rest) G.shown G.shown G.tail G.tail
        (le_refl _) (omega arith) (omega arith) (λ i below. old_path i (omega arith)) (λ i below. put_else G.chained e false i (λ is. omega arith)) (le_refl _) (λ _ _. (refl, refl))
        (λ a i at f. (L.announced.standing a i at f).tails) (λ a i f none. (L.announced.unrecorded a i f none).1)
        (λ _ is. absurd (differ (sym is ∙ (ap chained' tail_is ∙ put_here G.chained e false)))) L.announced where
          differ : true ≡ false → ⊥
          differ y = cc y

    told' : (a : ℕ) → IsTold z memory' G' (put s.callers c k') a
    told' = told_on z s L c memory' G' (point.Enqueue x (enq.MoveTail p x.row)) (inl off.1) (λ a at_head. told_same z.home s.memory.value s.memory.value G.path path' (G.stage a) (s.memory.notice a) (owner_of z a) (s.callers (owner_of z a))
        (λ i j d from below. let inside = rows_within (L.announced.bound a i d) in ap s.memory.value (old_path j (omega arith))) (L.told a at_head))

    pending' : (a : ℕ) → Waits z memory' G' (put s.callers c k') a
    pending' = waits_on z s L c memory' G' (point.Enqueue x (enq.MoveTail p x.row)) (λ a waits. let P = L.pending a waits in
        pending_same z s.memory.link link' s.memory.value s.memory.value s.memory.mark s.memory.mark G.spot spot' G.chain (G.linearized (owner_of z a)) (put G.linearized c true (owner_of z a)) (s.memory.notice a) (owner_of z a) (s.callers (owner_of z a))
        (λ i below. own_link (G.chain i) (P.unlinked i below)) (λ _ _. refl) (λ _ _. refl)
        (λ i below. put_else G.spot x.row (Some n) (G.chain i) (λ is. off.1 a (waits_there z s L c a waits) (sym (P.homes i below) ∙ (ap z.home is ∙ o.0.free.at_home))) ∙ P.unlinked i below)
        (put_else G.linearized c true (owner_of z a) (off.1 a (waits_there z s L c a waits))) P)

    pub appended : Lawful z (changed s c memory' (s.history ++ own_group c (s.callers c) ∷ []) k')
    appended = preserves z s L c memory' (s.history ++ own ∷ []) G' k' (λ r. r ≡ x.row) (λ r is. ap z.home is ∙ o.0.free.at_home) rely
        (λ d apart. record { linearized = put_else G.linearized c true d apart; made = mine-push_other s.history own d apart; drafts = drafts_same z (world s G) W refl refl refl d; hazard = refl; held = refl; row_hazard = refl; row_held = refl; debts = debts d })
        marked' (linearizes_proper z s L c (Enq x.value) off.0 op tt) queue' owners'
        (record {
          rows = listed';
          item_rows = items';
          head = headed';
          tail = tailed';
          counts = let more = linearizes_operations z s L c (Enq x.value) off.0 op in let was = L.list.counts in omega arith;
          links = links_put z.rows s.memory.link p.row (Single x.row) o.0.free.inside L.list.links;
        })
        announced' told' pending' (record { guards = (L.callers c).guards; guards_row = guards_row_stable z (world s G) W c (s.callers c).row_hold rely.rows refl refl (L.callers c).guards_row; own_groups = joins_groups z s L c off.0 (point.Enqueue x (enq.MoveTail p x.row)) (s.callers c).rows (s.callers c).walked; allowed = (L.callers c).allowed; knows = knows' })

  link_single : (x : Item) (p : Place) (l : LinkWord) → s.memory.link p.row ≡ l → AtPoint z (world s L.ghost) c (s.callers c) (point.Enqueue x (enq.LinkSingle p)) → Lawful z (step_with z s c (point.Enqueue x (enq.LinkSingle p)) (OfLink l))
  link_single x p Nil is f = appended x p f.call.0 f.call.1.0 (third f.call) (fourth f.call) f.here.0 f.here.1.0 is
  link_single x p (Single r) is f = stutters z s L c (point.Enqueue x enq.LoadTail) (Link p.row) (OfLink (Single r)) (ap OfLink is) (record { call = f.call; here = tt })
  link_single x p (Chain r) is f = stutters z s L c (point.Enqueue x enq.LoadTail) (Link p.row) (OfLink (Chain r)) (ap OfLink is) (record { call = f.call; here = tt })
  link_single x p Shut is f = stutters z s L c (point.Enqueue x enq.LoadTail) (Link p.row) (OfLink Shut) (ap OfLink is) (record { call = f.call; here = tt })

  pub preserves_link_single : (x : Item) (p : Place) → (s.callers c).point ≡ point.Enqueue x (enq.LinkSingle p) → Lawful z (step_at z s c (point.Enqueue x (enq.LinkSingle p)))
  preserves_link_single x p is = link_single x p (s.memory.link p.row) refl (known z s L c (point.Enqueue x (enq.LinkSingle p)) is)
