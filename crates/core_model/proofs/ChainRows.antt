-- The list of rows, the queue and the announcements, with the chain of an announcement linked.
use Rattle.std.proofs.Common.{◌≡◌, ◌≢◌, ℕ, suc, ◌+◌, ◌-◌, ◌<◌, ◌≤◌, Bool, true, false, [], ◌∷◌, ◌++◌, length, drop, sym, refl, ap, ◌∙◌, subst, arith, eq-eqb, ne_eqb, ◌⊎◌, ⊎_elim, inl, inr, Option, Some, None}
use Rattle.bq_model.specs.Replay.{queue_from}
use Rattle.bq_model.proofs.Values.{all_enter}
use Rattle.bq_model.specs.Queue.{Queue, queue_of, unshut}
use mathlib.Core.Logic.{dite}
use native.Mathlib.Decide.{ℕ_discrete, dec_le}
use Rattle.bq_model.specs.declared.group.Group.{Group}
use Rattle.bq_model.specs.History.{operations, last_queue}
use Rattle.bq_model.proofs.Histories.{last_queue-push}
use Rattle.excess_count.specs.Counts.{counts_of, successes_of}
use Rattle.excess_count.specs.Got.{values_from}
use Rattle.excess_count.proofs.ExcessLaws.{count-ops}
use Rattle.excess_count.proofs.ReplayLaws.{queue_from-counted}
use Rattle.word_rows.specs.declared.place.Place.{Place}
use Rattle.word_rows.specs.declared.marks.Marks.{Marks}
use Rattle.excess_count.specs.declared.counts.Counts.{Counts}
use Rattle.word_rows.specs.declared.head_word.HeadWord.TheVariants.{Node}
use Rattle.word_rows.specs.declared.link_word.LinkWord.{LinkWord}
use Rattle.word_rows.specs.declared.link_word.LinkWord.TheVariants.{Nil, Chain}
use Rattle.lane_steps.specs.declared.point.Help.{Help}
use Rattle.lane_steps.specs.Functions.{put, run}
use Rattle.lane_steps.specs.LaneSizes.{LaneSizes}
use Rattle.lane_steps.specs.Batches.{owner_of}
use Rattle.lane_steps.specs.State.{Memory, Caller, State, own_group}
use Rattle.lane_steps.specs.Fact.{reads, linked, tail_seen, before_end, too_few}
use Rattle.core_model.specs.Facts.{Holds}
use Rattle.core_model.specs.Ghost.{Stage, unused, waiting, decided, is_paid, Ghost, World, positions, joint, Unlinked}
use Rattle.core_model.specs.Lawful.{shown_queue, queue_owners, shown_owners, head_word, Listed, Headed, Tailed, Told, Pending, Lawful}
use Rattle.core_model.proofs.Owners.{enqueuers, owners_follow}
use Rattle.core_model.proofs.Puts.{put_here, put_else, run_same}
use Rattle.core_model.proofs.Groups.{length-operations-push}
use Rattle.core_model.proofs.Runs.{length-run, run_moved, run_parted, drop-run, then, then_old, then_new, placed, placed_else, placed_here, placed_which}
use Rattle.core_model.proofs.Rely.{world, one_some, some_none}
use Rattle.core_model.proofs.Lookups.{is_last}
use Rattle.lane_steps.specs.Stopper.{chain_rows, stoppers, linked_rows, passes}
use Rattle.core_model.proofs.Counting.{chain_pos, chain_some, chain_none, linked_all, linked_none, stopper_one, stopper_none}
use Rattle.core_model.proofs.Decisions as decision
use Rattle.core_model.proofs.Owing.{owed_reader, stop_paid, not_paid}
use Rattle.core_model.proofs.Excess.{covered, all_excess}

differ : true ≡ false → ⊥
differ e = cc e

-- A helper of the announcement h is about to link its chain or its stopper behind the place p, and finds no link there.
pub record Linking : Type 0 where
  pub z : LaneSizes
  pub s : State
  pub L : Lawful z s
  pub c : ℕ
  pub h : Help
  pub p : Place
  pub reading : Holds z (world s L.ghost) c (reads 4 h)
  pub on : Holds z (world s L.ghost) c (linked p)
  pub seen : Holds z (world s L.ghost) c (tail_seen p)
  pub ends : Holds z (world s L.ghost) c (before_end h.ann p)
  pub few : Holds z (world s L.ghost) c (too_few h p)
  pub nil : s.memory.link p.row ≡ Nil

module _ (K : Linking) where
  abbrev z : LaneSizes
  z = K.z

  abbrev s : State
  s = K.s

  abbrev L : Lawful K.z K.s
  L = K.L

  abbrev c : ℕ
  c = K.c

  abbrev h : Help
  h = K.h

  abbrev p : Place
  p = K.p

  abbrev reading : Holds K.z (world K.s K.L.ghost) K.c (reads 4 K.h)
  reading = K.reading

  abbrev on : Holds K.z (world K.s K.L.ghost) K.c (linked K.p)
  on = K.on

  abbrev pub G : Ghost
  G = L.ghost

  abbrev pub a : ℕ
  a = h.ann

  -- the owner, what it keeps, and its group
  abbrev pub o : ℕ
  o = owner_of z h.ann

  abbrev pub ko : Caller
  ko = s.callers (owner_of z h.ann)

  abbrev pub own : Group
  own = own_group (owner_of z h.ann) (s.callers (owner_of z h.ann))

  -- the last position, and the number of positions
  abbrev pub e : ℕ
  e = L.ghost.head + L.ghost.rest

  abbrev pub n : ℕ
  n = positions L.ghost

  abbrev pub enqs : ℕ
  enqs = (s.memory.notice h.ann).counts.enqs

  -- how many rows are linked: those of the enqueues, or the stopper
  abbrev pub len : ℕ
  len = chain_rows (s.memory.notice h.ann).counts

  pub some : 0 < len
  some = chain_pos (s.memory.notice h.ann).counts

  counts_read : (s.memory.notice h.ann).counts ≡ h.counts
  counts_read = reading.counts (omega arith)

  old_read : (s.memory.notice h.ann).old_head ≡ h.old_head
  old_read = reading.old_head (omega arith)

  pub end_is : on.position ≡ e
  end_is = is_last z s L c p on K.nil

  -- the announcement isn't decided, for then the row would have a link
  pub waits : G.stage a ≡ waiting
  waits = by (G.stage a) refl where
    by : (x : Stage) → G.stage a ≡ x → G.stage a ≡ waiting
    by unused u = absurd (reading.installed u)
    by waiting w = w
    by (decided j) d = let last = end_is in dite (dec_le (G.span a) 0)
        (λ none. let b = L.announced.bound a j d in let dm = b.old_dummy in let nothing = linked_none (s.memory.notice a).counts (j - dm.0) (sym dm.3 ∙ (let e : G.span a ≡ 0 = omega arith in e)) in let no = nothing.0 in let enough = nothing.1 in
        let ks = ap (λ (k : Counts). k.enqs) counts_read in let ds = ap (λ (k : Counts). k.deqs) counts_read in let less = K.few (omega arith) in let hc = ap (λ (q : Place). q.count) (sym old_read ∙ dm.1) in let count = on.count in
        let within = b.within in absurd (omega arith))
        (λ linked. let more = (K.ends.1 on.position on.count).1 j d (omega arith) in absurd (omega arith))

  pub at_head : G.ann ≡ Some a
  at_head = decision.at_head z s L h.ann (L.ghost.head + L.ghost.rest) len waits

  pub bare : G.shown ≡ 0
  bare = decision.bare z s L h.ann (L.ghost.head + L.ghost.rest) len waits

  pub P : Pending z s.memory.link s.memory.value s.memory.mark G.spot G.chain (G.linearized o) (s.memory.notice a) o ko
  P = decision.waiting_rows z s L h.ann (L.ghost.head + L.ghost.rest) len waits

  pub T : Told z.home s.memory.value G.path (G.stage a) (s.memory.notice a) o ko
  T = decision.told_now z s L h.ann (L.ghost.head + L.ghost.rest) len waits

  pub first_is : (s.memory.notice a).first ≡ h.first
  first_is = reading.first (omega arith)

  abbrev pub path' : ℕ → ℕ
  path' = then (positions L.ghost) L.ghost.path L.ghost.chain

  abbrev pub chained' : ℕ → Bool
  chained' = then (positions L.ghost) (put L.ghost.chained (L.ghost.head + L.ghost.rest) true) (λ _. false)

  abbrev pub spot' : ℕ → Option ℕ
  spot' = placed L.ghost.chain (positions L.ghost) len L.ghost.spot

  abbrev pub link' : ℕ → LinkWord
  link' = put s.memory.link p.row (Chain h.first)

  -- how many values the batch gets, whether it links its stopper, how many rows the head passes for it, and how many are left
  -- behind the shown head
  abbrev pub got : ℕ
  got = successes_of (s.memory.notice h.ann).counts L.ghost.rest

  abbrev pub stops : ℕ
  stops = stoppers (s.memory.notice h.ann).counts L.ghost.rest

  abbrev pub m : ℕ
  m = passes (s.memory.notice h.ann).counts L.ghost.rest

  abbrev pub left : ℕ
  left = L.ghost.rest + len - m

  abbrev pub cause' : ℕ → ℕ
  cause' = put L.ghost.cause (L.ghost.head + L.ghost.rest) h.ann

  abbrev pub W : World
  W = decision.decided_world z s L h.ann (L.ghost.head + L.ghost.rest) len waits path' chained' spot' (L.ghost.rest + len) m got stops left cause' link' s.memory.old_tail

  abbrev pub G' : Ghost
  G' = W.ghost

  abbrev pub memory' : Memory
  memory' = record s.memory { link = link' }

  pub counts_are : (s.memory.notice a).counts ≡ counts_of ko.ops
  counts_are = T.describes.counts

  pub row_is : p.row ≡ G.path e
  row_is = sym on.on.row ∙ ap G.path end_is

  pub count_is : p.count ≡ z.first + e
  count_is = on.count ∙ ap (λ (i : ℕ). z.first + i) end_is

  pub spot_is : G.spot p.row ≡ Some e
  spot_is = on.on.spot ∙ ap Some end_is

  pub excess_is : enqs ≡ 0 → (s.memory.notice h.ann).counts.excess ≡ (s.memory.notice h.ann).counts.deqs
  excess_is none = let k = T.describes.counts in ap (λ (y : Counts). y.excess) k ∙ (all_excess ko.ops (sym (ap (λ (y : Counts). y.enqs) k) ∙ none) ∙ sym (ap (λ (y : Counts). y.deqs) k))

  -- dequeues alone find too few values on the whole queue
  short : enqs ≡ 0 → G.rest < (s.memory.notice h.ann).counts.deqs
  short none = let ks = ap (λ (k : Counts). k.enqs) counts_read in let ds = ap (λ (k : Counts). k.deqs) counts_read in let less = K.few (omega arith) in
      let hc = ap (λ (q : Place). q.count) (sym old_read ∙ L.announced.old_head a at_head) in let count = count_is in omega arith

  pub links_are : linked_rows (s.memory.notice h.ann).counts G.rest ≡ len
  links_are = linked_all (s.memory.notice h.ann).counts G.rest short

  -- of a batch with an enqueue, and of dequeues alone
  pub passes_some : 0 < enqs → (m ≡ got) × (len ≡ enqs)
  passes_some more = let none = stopper_none (s.memory.notice h.ann).counts G.rest (λ e. absurd (omega arith)) in (omega arith, chain_some (s.memory.notice h.ann).counts more)

  pub passes_none : enqs ≡ 0 → (m ≡ suc G.rest) × (got ≡ G.rest) × (len ≡ 1)
  passes_none none = let one = stopper_one (s.memory.notice h.ann).counts G.rest none (short none) in let all = excess_is none in let less = short none in
      (omega arith, omega arith, chain_none (s.memory.notice h.ann).counts none)

  pub within_got : got ≤ G.rest + enqs
  within_got = let cover = covered ko.ops in let k = T.describes.counts in let es = ap (λ (y : Counts). y.enqs) k in let ds = ap (λ (y : Counts). y.deqs) k in let xs = ap (λ (y : Counts). y.excess) k in omega arith

  pub within_all : m ≤ G.rest + len
  within_all = dite (ℕ_discrete enqs 0) (λ none. let x = (passes_none none).0 in let y = (passes_none none).2 in omega arith) (λ more. let x = (passes_some (omega arith)).0 in let y = (passes_some (omega arith)).1 in let g = within_got in omega arith)

  pub tail_is : G.tail ≡ e
  tail_is = let within = L.list.tail.within in let late = K.seen in let here = count_is in omega arith

  -- a row at another position, or at none
  pub not_end : (r i : ℕ) → G.spot r ≡ Some i → i ≢ e → r ≢ p.row
  not_end r i at_i apart same = apart (one_some (sym at_i ∙ (ap G.spot same ∙ spot_is)))

  pub off_end : (r : ℕ) → G.spot r ≡ None → r ≢ p.row
  off_end r none same = some_none (sym spot_is ∙ (ap G.spot (sym same) ∙ none))

  -- no row of the list is of the chain
  pub not_chain : (r i : ℕ) → G.spot r ≡ Some i → (j : ℕ) → j < len → G.chain j ≢ r
  not_chain r i at_i j below same = some_none (sym at_i ∙ (ap G.spot (sym same) ∙ P.unlinked j below))

  pub old_path : (i : ℕ) → i < n → path' i ≡ G.path i
  old_path i below = then_old n G.path G.chain i below

  pub new_path : (j i : ℕ) → j ≡ n + i → path' j ≡ G.chain i
  new_path j i at_j = then_new n G.path G.chain j i at_j

  pub old_chained : (i : ℕ) → i < n → i ≢ e → chained' i ≡ G.chained i
  old_chained i below apart = then_old n (put G.chained e true) (λ _. false) i below ∙ put_else G.chained e true i apart

  pub end_chained : (i : ℕ) → i ≡ e → chained' i ≡ true
  end_chained i same = then_old n (put G.chained e true) (λ _. false) i (omega arith) ∙ (ap (put G.chained e true) same ∙ put_here G.chained e true)

  pub new_chained : (j i : ℕ) → j ≡ n + i → chained' j ≡ false
  new_chained j i at_j = then_new n (put G.chained e true) (λ _. false) j i at_j

  pub own_link : (r : ℕ) → Unlinked (world s G) r → link' r ≡ s.memory.link r
  own_link r u = put_else s.memory.link p.row (Chain h.first) r (off_end r u)

  pub old_spot : (r i : ℕ) → G.spot r ≡ Some i → spot' r ≡ Some i
  old_spot r i at_i = placed_else G.chain n len G.spot r (not_chain r i at_i) ∙ at_i

  -- the row that was the last one is linked to the first one of the chain, and all others are as they were
  pub end_link : (i r : ℕ) → i ≡ e → r ≡ p.row → link' r ≡ joint (chained' i) (path' (suc i))
  end_link i r same here = (ap link' here ∙ put_here s.memory.link p.row (Chain h.first))
      ∙ sym ((λ y. joint (end_chained i same y) (new_path (suc i) 0 (omega arith) y)) ∙ ap Chain (P.starts ∙ first_is))

  pub old_link : (i r : ℕ) → suc i < n → i ≢ e → G.spot r ≡ Some i → s.memory.link r ≡ joint (G.chained i) (G.path (suc i)) → link' r ≡ joint (chained' i) (path' (suc i))
  old_link i r below apart at_i was = (put_else s.memory.link p.row (Chain h.first) r (not_end r i at_i apart) ∙ was)
      ∙ sym (λ y. joint (old_chained i (omega arith) apart y) (old_path (suc i) below y))

  -- a fact of each position, old and new
  pub each_place : (Q : ℕ → ℕ → Type 0) (from : ℕ) → ((i : ℕ) → from ≤ i → i < n → Q i (G.path i)) → ((i : ℕ) → i < len → Q (n + i) (G.chain i)) → (i : ℕ) → from ≤ i → i < positions G' → Q i (path' i)
  each_place Q from old new i above below = dite (dec_le (suc i) n) (λ inside. subst (Q i) (sym (old_path i inside)) (old i above inside))
      (λ beyond. let at_i : i ≡ n + (i - n) = omega arith in subst (Q i) (sym (new_path i (i - n) at_i)) (subst (λ (j : ℕ). Q j (G.chain (i - n))) (sym at_i) (new (i - n) (omega arith))))

  pub joined' : (i : ℕ) → G.head ≤ i → i < G.head + (G.rest + len) → link' (path' i) ≡ joint (chained' i) (path' (suc i))
  joined' i from below = dite (dec_le (suc i) e)
      (λ inside. old_link i (path' i) (omega arith) (λ same. omega arith) (ap G.spot (old_path i (omega arith)) ∙ L.list.rows.spots i from (omega arith)) (ap s.memory.link (old_path i (omega arith)) ∙ L.list.rows.joined i from inside))
      (λ late. dite (ℕ_discrete i e)
      (λ same. end_link i (path' i) same (old_path i (omega arith) ∙ (ap G.path same ∙ sym row_is)))
      (λ apart. let at_i : i ≡ n + (i - n) = omega arith in
      (ap link' (new_path i (i - n) at_i) ∙ (own_link (G.chain (i - n)) (P.unlinked (i - n) (omega arith)) ∙ P.joined (i - n) (omega arith)))
      ∙ sym (λ y. joint (new_chained i (i - n) at_i y) (new_path (suc i) (suc (i - n)) (omega arith) y))))

  -- a fact of each row that has a position
  new_or_old : (Q : ℕ → ℕ → Type 0) → ((j : ℕ) → j < len → Q (G.chain j) (n + j)) → ((r i : ℕ) → G.spot r ≡ Some i → Q r i) → (r i : ℕ) → spot' r ≡ Some i → Q r i
  new_or_old Q new old r i at_i = ⊎_elim (λ (x : (j : ℕ) × (j < len) × (G.chain j ≡ r) × (i ≡ n + j)). subst (λ (y : ℕ). Q r y) (sym x.3) (subst (λ (y : ℕ). Q y (n + x.0)) x.2 (new x.0 x.1)))
      (λ (was : G.spot r ≡ Some i). old r i was) (placed_which G.chain n len G.spot r i at_i)

  -- a row of the chain has the marks of one that was taken
  chain_marks : (j : ℕ) → j < len → (s.memory.mark (G.chain j)).read ≡ is_paid (owed_reader G.reader G.head o got stops (n + j))
  chain_marks j below = ap (λ (x : Marks). x.read) (P.marks j below) ∙ dite (ℕ_discrete enqs 0)
      (λ none. let x = passes_none none in let all = x.0 in let read = x.1 in let one = x.2 in eq-eqb enqs 0 none ∙ sym (ap is_paid (stop_paid z s L bare o got stops (n + j) (omega arith) (omega arith))))
      (λ more. let x = (passes_some (omega arith)).0 in ne_eqb enqs 0 more ∙ sym (not_paid z s L bare o got stops (omega arith) (n + j) (omega arith)))

  pub rows_marked : (r i : ℕ) → spot' r ≡ Some i
      → (G.spot r ≡ Some i) ⊎ ((G.head ≤ i) × ((s.memory.mark r).free ≡ false) × ((s.memory.mark r).passed ≡ false) × ((s.memory.mark r).read ≡ is_paid (owed_reader G.reader G.head o got stops i)))
  rows_marked = new_or_old (λ r i. (G.spot r ≡ Some i) ⊎ ((G.head ≤ i) × ((s.memory.mark r).free ≡ false) × ((s.memory.mark r).passed ≡ false) × ((s.memory.mark r).read ≡ is_paid (owed_reader G.reader G.head o got stops i))))
      (λ j below. inr (omega arith, ap (λ (x : Marks). x.free) (P.marks j below), ap (λ (x : Marks). x.passed) (P.marks j below), chain_marks j below)) (λ r i at_i. inl at_i)

  pub listed' : Listed z.rows link' path' chained' spot' G.head (G.rest + len)
  listed' = record {
    joined = joined';
    last = let more = some in let last : suc (len - 1) ≡ len = omega arith in
        ap link' (new_path (G.head + (G.rest + len)) (len - 1) (omega arith)) ∙ (own_link (G.chain (len - 1)) (P.unlinked (len - 1) (omega arith)) ∙ P.last (len - 1) last);
    spots = each_place (λ i r. spot' r ≡ Some i) G.head (λ i from below. old_spot (G.path i) i (L.list.rows.spots i from below)) (placed_here G.chain n len G.spot P.apart);
    inside = λ i below. each_place (λ i r. r < z.rows) 0 (λ i _ below. L.list.rows.inside i below) P.inside i (omega arith) below;
    placed = new_or_old (λ r i. (i < positions G') × (path' i ≡ r)) (λ j below. (omega arith, new_path (n + j) j refl)) (λ r i at_i. let there = L.list.rows.placed r i at_i in let below = there.0 in (omega arith, old_path i below ∙ there.1));
  }

  pub headed' : Headed z.first s.memory.head path' G.head (G.rest + len) G.ann m left
  headed' = record {
    named = L.list.head.named ∙ named G.ann;
    none = λ no. absurd (some_none (sym at_head ∙ no));
    fits = let l = within_all in omega arith;
  } where
    named : (x : Option ℕ) → head_word z.first G.path G.head x ≡ head_word z.first path' G.head x
    named None = ap (λ (r : ℕ). Node (record { row = r; count = z.first + G.head })) (sym (old_path G.head (omega arith)))
    named (Some x) = refl

  pub tailed' : Tailed z.first s.memory.tail path' chained' G.head (G.rest + len) G.tail
  tailed' = let t = tail_is in let from = L.list.tail.after_head in record {
    named = L.list.tail.named ∙ ap (λ (r : ℕ). record { row = r; count = z.first + G.tail }) (sym (old_path G.tail (omega arith)));
    after_head = L.list.tail.after_head;
    within = omega arith;
    lags = λ _ single. absurd (differ (sym (end_chained G.tail tail_is) ∙ single));
  }

  -- the values from the dummy on, old and new
  abbrev pub v' : ℕ → ℕ
  v' i = s.memory.value (path' i)

  pub queue_was : last_queue s.history ≡ unshut (run (λ i. s.memory.value (G.path i)) (suc G.head) G.rest)
  queue_was = decision.waiting_queue z s L h.ann (L.ghost.head + L.ghost.rest) len waits

  pub flag_is : (last_queue s.history).shut ≡ false
  flag_is = ap (λ (q : Queue). q.shut) queue_was

  pub length_queue : length (last_queue s.history).values ≡ G.rest
  length_queue = ap (λ (q : Queue). length q.values) queue_was ∙ length-run (λ i. s.memory.value (G.path i)) (suc G.head) G.rest

  pub all_values : values_from (last_queue s.history).values ko.ops ≡ run v' (suc G.head) (G.rest + enqs)
  all_values = (λ i. (queue_was i).values ++ P.values i) ∙ sym (run_parted v' (suc G.head) G.rest enqs
      ∙ (λ i. run_same v' (λ j. s.memory.value (G.path j)) (suc G.head) G.rest (λ j above below. ap s.memory.value (old_path j (omega arith))) i
      ++ run_moved v' (λ j. s.memory.value (G.chain j)) (suc G.head + G.rest) 0 enqs (λ x below. ap s.memory.value (new_path (suc G.head + G.rest + x) x (omega arith)) ∙ ap (λ (y : ℕ). s.memory.value (G.chain y)) (let f : x ≡ 0 + x = omega arith in f)) i))

  -- what is left: behind a stopper nothing
  left_over : (f : ℕ → ℕ) → run f (suc G.head + got) (G.rest + enqs - got) ≡ run f (suc (G.head + m)) left
  left_over f = dite (ℕ_discrete enqs 0)
      (λ none. let x = passes_none none in let a = x.0 in let b = x.1 in let l = x.2 in ap (run f (suc G.head + got)) (let e : G.rest + enqs - got ≡ 0 = omega arith in e) ∙ sym (ap (run f (suc (G.head + m))) (let e : left ≡ 0 = omega arith in e)))
      (λ more. let x = passes_some (omega arith) in let a = x.0 in let l = x.1 in λ i. run f ((let e : suc G.head + got ≡ suc (G.head + m) = omega arith in e) i) ((let e : G.rest + enqs - got ≡ left = omega arith in e) i))

  values_left : last_queue (s.history ++ own ∷ []) ≡ unshut (run v' (suc G.head + got) (G.rest + enqs - got))
  values_left = last_queue-push s.history own ∙ (ap (λ (b : Bool). queue_from (queue_of (last_queue s.history).values b) ko.ops) flag_is
      ∙ (queue_from-counted (s.memory.notice a).counts ko.ops (last_queue s.history).values G.rest T.plain counts_are length_queue
      ∙ ap unshut (ap (drop got) all_values ∙ drop-run v' (suc G.head) (G.rest + enqs) got within_got)))

  pub queue' : last_queue (s.history ++ own ∷ []) ≡ unshut (shown_queue s.memory.value G')
  queue' = values_left ∙ ap unshut (left_over v')

  -- the homes of the rows from the dummy on: the owner has enqueued the values of its own ones
  abbrev h' : ℕ → ℕ
  h' i = z.home (path' i)

  all_owners : queue_owners s.history ++ enqueuers o false ko.ops ≡ run h' (suc G.head) (G.rest + enqs)
  all_owners = (λ i. was i ++ new i) ∙ sym (run_parted h' (suc G.head) G.rest enqs) where
    was : queue_owners s.history ≡ run h' (suc G.head) G.rest
    was = decision.waiting_owners z s L h.ann (L.ghost.head + L.ghost.rest) len waits ∙ run_same (λ i. z.home (G.path i)) h' (suc G.head) G.rest (λ j above below. ap z.home (sym (old_path j (omega arith))))

    in_chain : (x : ℕ) → x < enqs → x < len
    in_chain x below = let l = (passes_some (omega arith)).1 in omega arith

    new : enqueuers o false ko.ops ≡ run h' (suc G.head + G.rest) enqs
    new = ap (run (λ _. o) 0) (ap length (all_enter ko.ops T.plain ∙ P.values) ∙ length-run (λ i. s.memory.value (G.chain i)) 0 enqs)
        ∙ run_moved (λ _. o) h' 0 (suc G.head + G.rest) enqs (λ x below. sym (ap z.home (new_path (suc G.head + G.rest + x) x (omega arith)) ∙ P.homes x (in_chain x below)))

  pub owners' : queue_owners (s.history ++ own ∷ []) ≡ shown_owners z.home G'
  owners' = owners_follow v' h' s.history own (suc G.head) (G.rest + enqs) (suc G.head + got) (G.rest + enqs - got) (omega arith) (let g = within_got in omega arith) false flag_is (ap (λ (q : Queue). q.values) values_left) all_owners ∙ left_over h'

  pub counts' : G.head + (G.rest + len) ≤ length (operations (s.history ++ own ∷ []))
  counts' = let made = L.list.counts in let all = length-operations-push s.history own in let k = ap (λ (y : Counts). y.enqs) T.describes.counts in let parts = count-ops ko.ops T.plain in let ops = T.several in
      dite (ℕ_discrete enqs 0) (λ none. let one = (passes_none none).2 in omega arith) (λ more. let l = (passes_some (omega arith)).1 in omega arith)

  pub rest_is : e - G.head ≡ G.rest
  rest_is = omega arith
