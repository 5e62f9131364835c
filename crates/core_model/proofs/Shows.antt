-- The words of a lawful lane show the last queue of its history.
use Rattle.std.proofs.Common.{◌≡◌, ℕ, zero, suc, ◌+◌, ◌-◌, ◌<◌, ◌≤◌, Bool, true, false, not, cond, ◌||◌, sym, refl, ap, ◌∙◌, subst, arith, eq-eqb, ne_eqb, Option, Some, None, eqb, ltb}
use mathlib.Core.Logic.{dite}
use native.Mathlib.Decide.{dec_le}
use Rattle.bq_model.specs.History.{last_queue}
use Rattle.bq_model.specs.Queue.{Queue}
use Rattle.word_rows.specs.declared.place.Place.{Place}
use Rattle.word_rows.specs.declared.head_word.HeadWord.TheVariants.{Ann}
use Rattle.word_rows.specs.declared.link_word.LinkWord.{LinkWord}
use Rattle.word_rows.specs.declared.link_word.LinkWord.TheVariants.{Nil, Single, Chain, Shut}
use Rattle.lane_steps.specs.Functions.{run}
use Rattle.lane_steps.specs.LaneSizes.{LaneSizes}
use Rattle.excess_count.specs.Counts.{successes_of}
use Rattle.lane_steps.specs.State.{State}
use Rattle.lane_steps.specs.Act.{is_unknown}
use Rattle.core_model.specs.Ghost.{Stage, unused, waiting, decided, Ghost, joint, at}
use Rattle.core_model.specs.Lawful.{head_word, Lawful}
use Rattle.core_model.specs.Shown.{linked_row, Along, follow, row_behind, is_chain_of, is_decided, decided_behind, shown_head, Shows, new_dummy}
use Rattle.core_model.proofs.Rely.{some_none}
use Rattle.core_model.proofs.Counting.{chain_pos}
use Rattle.lane_steps.specs.Stopper.{is_stopped, stoppers, linked_rows}
use Rattle.std.proofs.lemmas.Bool.{and_parts, eqb-true, ltb-true}

module _ (z : LaneSizes) (s : State) (L : Lawful z s) where
  abbrev G : Ghost
  G = L.ghost

  abbrev total : ℕ
  total = L.ghost.head + L.ghost.rest

  abbrev value_at : ℕ → ℕ
  value_at i = s.memory.value (L.ghost.path i)

  -- along the list
  joint_row : (b : Bool) (r : ℕ) → linked_row (joint b r) ≡ Some r
  joint_row true r = refl
  joint_row false r = refl

  joint_follow : (b : Bool) (r q : ℕ) → follow (joint b r) q ≡ r
  joint_follow true r q = refl
  joint_follow false r q = refl

  along_list : (i n : ℕ) → G.head ≤ i → i + n ≡ total → Along s.memory false (G.path i) (run value_at (suc i) n)
  along_list i zero from all = ap (λ (j : ℕ). s.memory.link (G.path j)) (let e : i ≡ total = omega arith in e) ∙ L.list.rows.last
  along_list i (suc n) from all = (G.path (suc i), ap linked_row (L.list.rows.joined i from (omega arith)) ∙ joint_row (G.chained i) (G.path (suc i)), refl, along_list (suc i) n (omega arith) (omega arith))

  row_on_list : (i n : ℕ) → G.head ≤ i → i + n ≤ total → row_behind s.memory (G.path i) n ≡ G.path (i + n)
  row_on_list i zero from all = ap G.path (omega arith)
  row_on_list i (suc n) from all = ap (λ (r : ℕ). row_behind s.memory r n) (ap (λ (l : LinkWord). follow l (G.path i)) (L.list.rows.joined i from (omega arith)) ∙ joint_follow (G.chained i) (G.path (suc i)) (G.path i))
      ∙ (row_on_list (suc i) n (omega arith) (omega arith) ∙ ap G.path (let e : suc i + n ≡ i + suc n = omega arith in e))

  tail_row : s.memory.tail.row ≡ G.path G.tail
  tail_row = ap (λ (p : Place). p.row) L.list.tail.named

  -- TAIL's row is linked to the next one, if any
  tail_link : (r : ℕ) → s.memory.link s.memory.tail.row ≡ Chain r → (G.tail < total) × (G.path (suc G.tail) ≡ r)
  tail_link r is = dite (dec_le (suc G.tail) total)
      (λ below. (below, chains (G.chained G.tail) (G.path (suc G.tail)) (sym (L.list.rows.joined G.tail L.list.tail.after_head below) ∙ (ap s.memory.link (sym tail_row) ∙ is))))
      (λ late. let within = L.list.tail.within in absurd (never (sym L.list.rows.last ∙ (ap (λ (j : ℕ). s.memory.link (G.path j)) (let e : total ≡ G.tail = omega arith in e) ∙ (ap s.memory.link (sym tail_row) ∙ is))))) where
        chains : (b : Bool) (x : ℕ) → joint b x ≡ Chain r → x ≡ r
        chains true x e = cc e
        chains false x e = absurd (cc e)

        never : Nil ≡ Chain r → ⊥
        never e = cc e

  -- no row of an announcement that waits is linked behind TAIL
  waits_undecided : (a : ℕ) → G.stage a ≡ waiting → is_decided s.memory a ≡ false
  waits_undecided a waits = ap (λ (o : Option Place). not (is_unknown o) || is_chain_of (s.memory.link s.memory.tail.row) (s.memory.notice a).first) (L.announced.unknown a waits) ∙ by (s.memory.link s.memory.tail.row) refl where
    by : (x : LinkWord) → s.memory.link s.memory.tail.row ≡ x → is_chain_of x (s.memory.notice a).first ≡ false
    by Nil is = refl
    by (Single r) is = refl
    by Shut is = refl
    by (Chain r) is = ne_eqb r (s.memory.notice a).first (λ same. let P = L.pending a waits in let next = tail_link r is in let below = next.0 in let from = L.list.tail.after_head in
        some_none (sym (L.list.rows.spots (suc G.tail) (omega arith) (omega arith)) ∙ (ap G.spot (next.1 ∙ (same ∙ sym P.starts)) ∙ P.unlinked 0 (chain_pos (s.memory.notice a).counts))))

  -- a decided announcement that stands is decided by the words, at the position where it was
  module _ (a i : ℕ) (at_head : G.ann ≡ Some a) (d : G.stage a ≡ decided i) where
    old_head_is : (s.memory.notice a).old_head ≡ at z.first G.path G.head
    old_head_is = L.announced.old_head a at_head

    decided_so : (o : Option Place) → s.memory.old_tail a ≡ o → ((not (is_unknown o) || is_chain_of (s.memory.link s.memory.tail.row) (s.memory.notice a).first) ≡ true) × ((decided_behind o s.memory.tail).count ≡ z.first + i)
    decided_so (Some q) known = (refl, ap (λ (p : Place). p.count) (L.announced.recorded a i q d known))
    decided_so None unknown = let b = L.announced.bound a i d in let some = (L.announced.unrecorded a i d unknown).2 in let within = b.within in let reached = b.reached in let open_tail = (L.announced.unrecorded a i d unknown).1 in let here : G.tail ≡ i = omega arith in (
      ap (λ (l : LinkWord). is_chain_of l (s.memory.notice a).first) (ap s.memory.link (tail_row ∙ ap G.path here) ∙ (L.list.rows.joined i (let from = L.list.tail.after_head in omega arith) (omega arith) ∙ (λ k. joint (b.by_chain some k) (b.starts some k))))
          ∙ eq-eqb (s.memory.notice a).first (s.memory.notice a).first refl,
      ap (λ (p : Place). p.count) L.list.tail.named ∙ ap (λ (y : ℕ). z.first + y) here,
    )

    -- so many values were queued before the batch
    queued_before : (decided_behind (s.memory.old_tail a) s.memory.tail).count - (s.memory.notice a).old_head.count ≡ i - G.head
    queued_before = let count = (decided_so (s.memory.old_tail a) refl).1 in let head = ap (λ (p : Place). p.count) old_head_is in omega arith

    -- the new dummy is the shown head
    new_dummy_is : (b : Bool) → is_stopped (s.memory.notice a).counts (i - G.head) ≡ b
        → cond b (s.memory.notice a).last (row_behind s.memory (s.memory.notice a).old_head.row (successes_of (s.memory.notice a).counts (i - G.head))) ≡ G.path (G.head + G.shown)
    new_dummy_is true stopped = let B = L.announced.bound a i d in let parts = and_parts (eqb (s.memory.notice a).counts.enqs 0) (ltb (i - G.head) (s.memory.notice a).counts.deqs) stopped in
        let none = eqb-true (s.memory.notice a).counts.enqs 0 parts.0 in let few = ltb-true (i - G.head) (s.memory.notice a).counts.deqs parts.1 in let all = B.all_excess none in
        let same : B.old_dummy.0 ≡ G.head = (let e = ap (λ (p : Place). p.count) (sym B.old_dummy.1 ∙ old_head_is) in omega arith) in
        let one : stoppers (s.memory.notice a).counts (i - G.head) ≡ 1 = ap (λ (b : Bool). cond b 1 0) stopped in
        let span = B.old_dummy.3 ∙ ap (λ (h : ℕ). linked_rows (s.memory.notice a).counts (i - h)) same in let from = (L.announced.standing a i at_head d).from in let shows = (L.announced.standing a i at_head d).shows in
        sym (B.ends (omega arith)) ∙ ap G.path (omega arith)
    new_dummy_is false open_end = let none : stoppers (s.memory.notice a).counts (i - G.head) ≡ 0 = ap (λ (b : Bool). cond b 1 0) open_end in let shows = (L.announced.standing a i at_head d).shows in
        (λ k. row_behind s.memory (ap (λ (p : Place). p.row) old_head_is k) ((let e : successes_of (s.memory.notice a).counts (i - G.head) ≡ G.shown = omega arith in e) k)) ∙ row_on_list G.head G.shown (omega arith) (let fits = L.list.head.fits in omega arith)

  shown_head_is : shown_head s.memory s.memory.head ≡ G.path (G.head + G.shown)
  shown_head_is = ap (shown_head s.memory) L.list.head.named ∙ by G.ann refl where
    standing : (a : ℕ) → G.ann ≡ Some a → (x : Stage) → G.stage a ≡ x → shown_head s.memory (Ann a (z.first + G.head)) ≡ G.path (G.head + G.shown)
    standing a at_head unused u = absurd (L.announced.installed a at_head u)
    standing a at_head waiting w = ap (λ (b : Bool). cond b (new_dummy s.memory (s.memory.notice a) ((decided_behind (s.memory.old_tail a) s.memory.tail).count - (s.memory.notice a).old_head.count)) (s.memory.notice a).old_head.row) (waits_undecided a w)
        ∙ (ap (λ (p : Place). p.row) (L.announced.old_head a at_head) ∙ ap G.path (let none = (L.announced.waits a w).1 in let e : G.head ≡ G.head + G.shown = omega arith in e))
    standing a at_head (decided i) d = ap (λ (b : Bool). cond b (new_dummy s.memory (s.memory.notice a) ((decided_behind (s.memory.old_tail a) s.memory.tail).count - (s.memory.notice a).old_head.count)) (s.memory.notice a).old_head.row) (decided_so a i at_head d (s.memory.old_tail a) refl).0
        ∙ (ap (new_dummy s.memory (s.memory.notice a)) (queued_before a i at_head d) ∙ new_dummy_is a i at_head d (is_stopped (s.memory.notice a).counts (i - G.head)) refl)

    by : (x : Option ℕ) → G.ann ≡ x → shown_head s.memory (head_word z.first G.path G.head x) ≡ G.path (G.head + G.shown)
    by None none = ap G.path (let bare = L.list.head.none none in let e : G.head ≡ G.head + G.shown = omega arith in e)
    by (Some a) at_head = standing a at_head (G.stage a) refl

  -- THE shown queue is the last queue of the history
  pub shows_last : Shows s.memory (last_queue s.history)
  shows_last = subst (λ (r : ℕ). Along s.memory (last_queue s.history).shut r (last_queue s.history).values) (sym shown_head_is)
      (subst (λ (q : Queue). Along s.memory q.shut (G.path (G.head + G.shown)) q.values) (sym L.queue) (along_list (G.head + G.shown) G.queued (omega arith) (let fits = L.list.head.fits in omega arith)))
