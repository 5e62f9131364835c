-- A helper that knows OldTail walks to the new dummy: along the links, or to the stopper at once.
use Rattle.std.proofs.Common.{◌≡◌, ⊎_elim, ℕ, zero, suc, ◌+◌, ◌-◌, ◌<◌, ◌≤◌, eqb, ltb, Bool, true, false, cond, sym, refl, ap, ◌∙◌, subst, arith, eq-eqb, Some}
use Rattle.std.proofs.lemmas.Bool.{eqb-true, and_from, and_parts, lt-ltb, ltb-true, ltb-false}
use mathlib.Core.Logic.{dite}
use native.Mathlib.Decide.{dec_le}
use Rattle.word_rows.specs.declared.place.Place.{Place}
use Rattle.excess_count.specs.declared.counts.Counts.{Counts}
use Rattle.lane_steps.specs.declared.point.Back.{Back}
use Rattle.lane_steps.specs.declared.point.Back.TheVariants as back
use Rattle.lane_steps.specs.declared.point.Help.{Help}
use Rattle.lane_steps.specs.declared.point.Point.TheVariants as point
use Rattle.lane_steps.specs.declared.point.HelpPoint.TheVariants as help
use Rattle.lane_steps.specs.LaneSizes.{LaneSizes}
use Rattle.excess_count.specs.Counts.{successes_of}
use Rattle.lane_steps.specs.State.{Caller, command, State}
use Rattle.lane_steps.specs.Act.{same_place}
use Rattle.lane_steps.specs.Fact.{reads, old_tail_is, tail_over, gets_so_many, walks}
use Rattle.lane_steps.specs.Help.{before_it, walk_on, walk, back_point, back_facts, walk_from, at_old_tail}
use Rattle.lane_steps.specs.Step.{stepped}
use Rattle.core_model.specs.Facts.{Holds, Each, AtPoint}
use Rattle.core_model.specs.Ghost.{decided, Ghost, at}
use Rattle.core_model.specs.Lawful.{Bound, Lawful}
use Rattle.core_model.proofs.Rely.{world}
use Rattle.lane_steps.specs.Stopper.{is_stopped, linked_rows, passes}

pub differ : true ≡ false → ⊥
differ e = cc e

pub same_place_refl : (p q : Place) → p ≡ q → same_place p q ≡ true
same_place_refl p q e = and_from (eqb p.row q.row) (eqb p.count q.count) (eq-eqb p.row q.row (ap (λ (x : Place). x.row) e)) (eq-eqb p.count q.count (ap (λ (x : Place). x.count) e))

-- TAIL isn't the old tail of the announcement that stands, so it is past the rows
pub past_old : (z : LaneSizes) (s : State) (L : Lawful z s) (a i : ℕ) (q : Place) → L.ghost.stage a ≡ decided i → s.memory.old_tail a ≡ Some q → (s.memory.tail ≡ q → ⊥) → L.ghost.ann ≡ Some a
    → i + L.ghost.span a ≤ L.ghost.tail
past_old z s L a i q d old apart at_head = ⊎_elim (λ (here : L.ghost.tail ≡ i). absurd (apart (L.list.tail.named ∙ (ap (at z.first L.ghost.path) here ∙ sym (L.announced.recorded a i q d old)))))
    (λ (past : i + L.ghost.span a ≤ L.ghost.tail). past) (L.announced.standing a i at_head d).tails

module _ (z : LaneSizes) (s : State) (L : Lawful z s) (c : ℕ) where
  abbrev k : Caller
  k = s.callers c

  -- what the helper knows at the row r, with l links to go
  pub on_walk : (h : Help) (m r l : ℕ) → Holds z (world s L.ghost) c (reads 4 h) → Holds z (world s L.ghost) c (walks h.ann r l) → Holds z (world s L.ghost) c (gets_so_many h m) → Holds z (world s L.ghost) c (tail_over h.ann)
      → Each z (world s L.ghost) c (back_facts c (command (s.callers c)) h.ann h.back) → AtPoint z (world s L.ghost) c (stepped (s.callers c) (point.Help h (walk_on m r l))) (point.Help h (walk_on m r l))
  on_walk h m r zero reading w g t rest = record { call = (reading, rest); here = (w, (g, (t, tt))) }
  on_walk h m r (suc l) reading w g t rest = record { call = (reading, rest); here = (w, (g, (t, tt))) }

  -- and after the help, where the announcement has left HEAD
  pub goes_back : (h : Help) (b : Back) → (L.ghost.ann ≡ Some h.ann → ⊥) → Holds z (world s L.ghost) c (reads 4 h) → Holds z (world s L.ghost) c (tail_over h.ann) → Each z (world s L.ghost) c (back_facts c (command (s.callers c)) h.ann b)
      → AtPoint z (world s L.ghost) c (stepped (s.callers c) (back_point h b)) (back_point h b)
  goes_back h back.Own gone reading t rest = record { call = tt; here = ((λ x at_x own. gone (at_x ∙ ap Some (rest.0.only x at_x own))), (reading, (t, rest))) }
  goes_back h (back.Enqueue x) gone reading t rest = record { call = rest; here = tt }
  goes_back h back.Dequeue gone reading t rest = record { call = rest; here = tt }
  goes_back h (back.Batch d) gone reading t rest = record { call = (rest.0, (rest.1.0, (rest.1.1.0, (rest.1.1.1.0, tt)))); here = rest.1.1.1.1 }
  goes_back h (back.Many d) gone reading t rest = record { call = (rest.1.0, (rest.1.1.0, (rest.1.1.1.0, (rest.1.1.1.1.0, (rest.0, tt))))); here = (rest.1.1.1.1.1.0, tt) }

  -- the walk begins
  module _ (h : Help) (q : Place) (reading : Holds z (world s L.ghost) c (reads 4 h)) (old : Holds z (world s L.ghost) c (old_tail_is h.ann q)) where
    abbrev G : Ghost
    G = L.ghost

    abbrev n : ℕ
    n = before_it h q

    abbrev m : ℕ
    m = successes_of h.counts (before_it h q)

    B : Bound z.first G.path G.chained G.cause (G.head + G.rest) G.tail (s.memory.notice h.ann) h.ann old.position (G.span h.ann)
    B = L.announced.bound h.ann old.position old.is_decided

    q_is : q ≡ at z.first G.path old.position
    q_is = L.announced.recorded h.ann old.position q old.is_decided old.old_tail

    old_head_is : h.old_head ≡ at z.first G.path B.old_dummy.0
    old_head_is = sym (reading.old_head (omega arith)) ∙ B.old_dummy.1

    n_is : n ≡ old.position - B.old_dummy.0
    n_is = let qc = ap (λ (p : Place). p.count) q_is in let hc = ap (λ (p : Place). p.count) old_head_is in omega arith

    counts_is : (s.memory.notice h.ann).counts ≡ h.counts
    counts_is = reading.counts (omega arith)

    -- so many rows were linked
    pub span_is : L.ghost.span h.ann ≡ linked_rows h.counts (before_it h q)
    span_is = B.old_dummy.3 ∙ (λ y. linked_rows (counts_is y) (sym n_is y))

    -- while it stands, its old dummy is the dummy
    dummy_is : G.ann ≡ Some h.ann → B.old_dummy.0 ≡ G.head
    dummy_is at_head = let e = ap (λ (p : Place). p.count) (sym B.old_dummy.1 ∙ L.announced.old_head h.ann at_head) in omega arith

    -- the head passes so many rows
    passed : (x : ℕ) → x ≡ passes h.counts n → Holds z (world s L.ghost) c (gets_so_many h x)
    passed x same = record {
      position = old.position;
      is_decided = old.is_decided;
      shown = (λ at_head. (L.announced.standing h.ann old.position at_head old.is_decided).shows ∙ ((λ y. passes (counts_is y) ((let e = n_is in let d = dummy_is at_head in let f : old.position - G.head ≡ n = omega arith in f) y)) ∙ sym same));
      inside = let e = n_is in let covered = B.covered in let within = B.within in let span = span_is in let before = B.old_dummy.2 in let hc = ap (λ (p : Place). p.count) old_head_is in let is = same in
          let enqs = ap (λ (y : Counts). y.enqs) counts_is in let deqs = ap (λ (y : Counts). y.deqs) counts_is in let excess = ap (λ (y : Counts). y.excess) counts_is in omega arith;
    }

    module _ (over : L.ghost.ann ≡ Some h.ann → old.position + L.ghost.span h.ann ≤ L.ghost.tail) (rest : Each z (world s L.ghost) c (back_facts c (command (s.callers c)) h.ann h.back)) where
      tails : Holds z (world s L.ghost) c (tail_over h.ann)
      tails = record { position = old.position; is_decided = old.is_decided; known = (q, old.old_tail); past = over }

      -- where the stopper isn't linked
      module _ (open_end : is_stopped h.counts n ≡ false) where
        all_got : m ≡ passes h.counts n
        all_got = (let e : m ≡ m + 0 = omega arith in e) ∙ ap (λ (b : Bool). m + cond b 1 0) (sym open_end)

        begins : (b : Bool) → ltb m n ≡ b → AtPoint z (world s L.ghost) c (stepped (s.callers c) (point.Help h (cond b (walk_on m h.old_head.row m) (walk_on m q.row (m - n))))) (point.Help h (cond b (walk_on m h.old_head.row m) (walk_on m q.row (m - n))))
        begins true _ = let within = B.within in let before = B.old_dummy.2 in let row = ap (λ (p : Place). p.row) old_head_is in on_walk h m h.old_head.row m reading (record {
          position = old.position;
          is_decided = old.is_decided;
          inside = subst (λ (r : ℕ). r < z.rows) (sym row) (L.list.rows.inside B.old_dummy.0 (omega arith));
          lies = λ at_head. let g = (passed m all_got).shown at_head in
              record { behind = 0; sum = omega arith; inside = omega arith; row = ap G.path (let d = dummy_is at_head in let e : G.head + 0 ≡ B.old_dummy.0 = omega arith in e) ∙ sym row };
        }) (passed m all_got) tails rest
        begins false less = let within = B.within in let row = ap (λ (p : Place). p.row) q_is in on_walk h m q.row (m - n) reading (record {
          position = old.position;
          is_decided = old.is_decided;
          inside = subst (λ (r : ℕ). r < z.rows) (sym row) (L.list.rows.inside old.position (omega arith));
          lies = λ at_head. let g = (passed m all_got).shown at_head in let from = (L.announced.standing h.ann old.position at_head old.is_decided).from in let e = n_is in let d = dummy_is at_head in
              record { behind = n; sum = (let ge = more in omega arith); inside = omega arith; row = ap G.path (let f : G.head + n ≡ old.position = omega arith in f) ∙ sym row };
        }) (passed m all_got) tails rest where
          more : n ≤ m
          more = dite (dec_le n m) (λ l. l) (λ no. absurd (differ (sym (lt-ltb m n (omega arith)) ∙ less)))

      -- where it is, it is the new dummy
      module _ (stopped : is_stopped h.counts n ≡ true) where
        parts : (eqb h.counts.enqs 0 ≡ true) × (ltb n h.counts.deqs ≡ true)
        parts = and_parts (eqb h.counts.enqs 0) (ltb n h.counts.deqs) stopped

        one_linked : G.span h.ann ≡ 1
        one_linked = span_is ∙ (λ y. eqb-true h.counts.enqs 0 parts.0 y + cond (stopped y) 1 0)

        all_queued : m ≡ n
        all_queued = let none = eqb-true h.counts.enqs 0 parts.0 in let few = ltb-true n h.counts.deqs parts.1 in let enqs = ap (λ (y : Counts). y.enqs) counts_is in let deqs = ap (λ (y : Counts). y.deqs) counts_is in
            let excess = ap (λ (y : Counts). y.excess) counts_is in let all = B.all_excess (omega arith) in omega arith

        all_got_more : suc n ≡ passes h.counts n
        all_got_more = (let all = all_queued in let e : suc n ≡ m + 1 = omega arith in e) ∙ ap (λ (b : Bool). m + cond b 1 0) (sym stopped)

        last_row : G.path (old.position + 1) ≡ h.last
        last_row = ap (λ (y : ℕ). G.path (old.position + y)) (sym one_linked) ∙ (B.ends (let one = one_linked in omega arith) ∙ reading.last (omega arith))

        at_stopper : AtPoint z (world s L.ghost) c (stepped (s.callers c) (point.Help h (help.MoveHead (suc n) h.last))) (point.Help h (help.MoveHead (suc n) h.last))
        at_stopper = record {
          call = (reading, rest);
          here = (
            record {
              position = old.position;
              is_decided = old.is_decided;
              inside = subst (λ (r : ℕ). r < z.rows) last_row (let within = B.within in let one = one_linked in L.list.rows.inside (old.position + 1) (omega arith));
              lies = λ at_head. let g = (passed (suc n) all_got_more).shown at_head in let from = (L.announced.standing h.ann old.position at_head old.is_decided).from in let e = n_is in let d = dummy_is at_head in let within = B.within in let one = one_linked in let all = all_queued in
                  record { behind = suc n; sum = omega arith; inside = omega arith; row = ap G.path (let f : G.head + suc n ≡ old.position + 1 = omega arith in f) ∙ last_row };
            },
            (passed (suc n) all_got_more, (tails, tt)),
          );
        }

      from_old : (b : Bool) → is_stopped h.counts n ≡ b
          → AtPoint z (world s L.ghost) c (stepped (s.callers c) (point.Help h (cond b (help.MoveHead (suc n) h.last) (walk_from h q n m)))) (point.Help h (cond b (help.MoveHead (suc n) h.last) (walk_from h q n m)))
      from_old true stopped = at_stopper stopped
      from_old false open_end = begins open_end (ltb m n) refl

      pub walk_begins : AtPoint z (world s L.ghost) c (stepped (s.callers c) (point.Help h (walk h q))) (point.Help h (walk h q))
      walk_begins = from_old (is_stopped h.counts n) refl

  -- OldTail is known
  pub known_old : (h : Help) (q : Place) → Holds z (world s L.ghost) c (reads 4 h) → Holds z (world s L.ghost) c (old_tail_is h.ann q) → Each z (world s L.ghost) c (back_facts c (command (s.callers c)) h.ann h.back)
      → AtPoint z (world s L.ghost) c (stepped (s.callers c) (point.Help h (at_old_tail h q))) (point.Help h (at_old_tail h q))
  known_old h q reading old rest = by (ltb 0 (linked_rows h.counts (before_it h q))) refl where
    by : (b : Bool) → ltb 0 (linked_rows h.counts (before_it h q)) ≡ b → AtPoint z (world s L.ghost) c (stepped (s.callers c) (point.Help h (cond b (help.LoadTailOver q) (walk h q)))) (point.Help h (cond b (help.LoadTailOver q) (walk h q)))
    by true some = record { call = (reading, rest); here = (old, (ltb-true 0 (linked_rows h.counts (before_it h q)) some, tt)) }
    by false none = walk_begins h q reading old (λ _. let reached = (L.announced.bound h.ann old.position old.is_decided).reached in let span = span_is h q reading old in let few = ltb-false 0 (linked_rows h.counts (before_it h q)) none in omega arith) rest
