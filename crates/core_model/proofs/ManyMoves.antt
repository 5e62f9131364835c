-- A batch of dequeues alone that ends in one step: HEAD moves over all its rows, or the queue is found empty.
use Rattle.std.proofs.Common.{◌≡◌, ℕ, suc, ◌+◌, ◌≤◌, Bool, true, false, cond, List, [], ◌∷◌, ◌++◌, length, sym, refl, ap, ◌∙◌, subst, arith, ◌≢◌, ◌-◌, take, drop, inr}
use Rattle.core_model.proofs.Owners.{none_enter}
use Rattle.bq_model.specs.Queue.{Queue, queue_of, unshut}
use Rattle.bq_model.specs.declared.op.Answer.{Answer}
use Rattle.bq_model.specs.declared.op.Answer.TheVariants.{Empty, Done}
use Rattle.bq_model.specs.declared.group.Group.{Group}
use Rattle.bq_model.specs.Replay.{answers_from, queue_from}
use Rattle.bq_model.specs.History.{last_queue}
use Rattle.word_rows.specs.declared.place.Place.{Place}
use Rattle.word_rows.specs.declared.head_word.HeadWord.{HeadWord}
use Rattle.word_rows.specs.declared.head_word.HeadWord.TheVariants.{Node, Ann}
use Rattle.word_rows.specs.declared.link_word.LinkWord.{LinkWord}
use Rattle.word_rows.specs.declared.link_word.LinkWord.TheVariants.{Nil, Single, Chain, Shut}
use Rattle.word_rows.specs.declared.location.Location.TheVariants.{Head, Link}
use Rattle.word_rows.specs.declared.content.Content.TheVariants.{OfHead, OfLink}
use Rattle.lane_steps.specs.declared.course.Course.TheVariants.{GoesOn, Walks, Moves}
use Rattle.lane_steps.specs.Functions.{run}
use Rattle.lane_steps.specs.LaneSizes.{LaneSizes}
use Rattle.lane_steps.specs.State.{Memory, Caller, State, write, own_group, command}
use Rattle.lane_steps.specs.Act.{is_node, is_nil, far_behind}
use Rattle.lane_steps.specs.Fact.{linearized_is, own_rows, linked, only_dequeues, drafts, has_walked, tail_seen, head_seen}
use Rattle.lane_steps.specs.Step.{history_after, closes, marks_from, marks_all, followed, step_with, step_at, linearizes, course, stepped_with}
use Rattle.core_model.specs.Facts.{Holds, AtPoint}
use Rattle.core_model.specs.Ghost.{Ghost, joint}
use Rattle.core_model.specs.Lawful.{Lawful}
use Rattle.core_model.proofs.Rely.{third, fourth, fifth, world}
use Rattle.core_model.proofs.Preserves.{known, stutters, changed, stutters_at, stutters_with}
use Rattle.core_model.proofs.StoredAgain.{same_places, write_read}
use Rattle.core_model.proofs.Lookups.{next_found, node_found, is_last}
use Rattle.lane_steps.specs.declared.point.Point.TheVariants as point
use Rattle.core_model.proofs.HeadMoves.{bare_queue, none_queued, head_moved, found_empty}
use Rattle.core_model.proofs.LooseRows.{fills_loose}
use Rattle.std.proofs.lemmas.List.{append-nil}
use Rattle.std.proofs.lemmas.Bool.{lt-ltb}
use Rattle.bq_model.specs.declared.op.Op.{Op}
use Rattle.bq_model.specs.declared.op.Op.TheVariants.{Enq, Deq}
use Rattle.bq_model.specs.declared.op.Op.TheVariants as op
use Rattle.excess_count.specs.declared.counts.Counts.{Counts}
use Rattle.excess_count.specs.Counts.{successes_of, counts_of}
use Rattle.excess_count.specs.Excess.{enqueue_count, excess_of}
use Rattle.excess_count.specs.Got.{got_count, values_from}
use Rattle.excess_count.specs.Pairing.{paired}
use Rattle.excess_count.proofs.ExcessLaws.{enqueue_count-enq, enqueue_count-deq, enqueue_count-shut}
use Rattle.excess_count.proofs.ReplayLaws.{got_count-counted, queue_from-counted, queue_from-plain, answers_from-plain}
use Rattle.lane_steps.specs.declared.point.Plan.{Plan}
use Rattle.lane_steps.specs.declared.point.Closing.TheVariants.{Batch}
use Rattle.lane_steps.specs.declared.point.ManyPoint.TheVariants as many
use Rattle.lane_steps.specs.Many as many_dequeues
use Rattle.core_model.proofs.Runs.{length-run, take-run, drop-run}
use Rattle.core_model.proofs.Excess.{all_excess, none_enqueued, paired_enough}
use Rattle.excess_count.proofs.PairingLaws.{paired_right}

module _ (z : LaneSizes) (s : State) (L : Lawful z s) (c : ℕ) (d : Plan) (lone : Holds z (world s L.ghost) c (only_dequeues d.notice)) (off : Holds z (world s L.ghost) c (linearized_is false (s.callers c).rows [] [])) (loose : Holds z (world s L.ghost) c (own_rows (s.callers c).rows)) (draft : Holds z (world s L.ghost) c (drafts (command (s.callers c)) d.notice)) where
  abbrev G : Ghost
  G = L.ghost

  abbrev me : Caller
  me = s.callers c

  abbrev value_at : ℕ → ℕ
  value_at j = s.memory.value (L.ghost.path j)

  -- how many dequeues there are
  abbrev wanted : ℕ
  wanted = d.notice.counts.deqs

  counts_are : d.notice.counts ≡ counts_of me.ops
  counts_are = draft.describes.counts

  no_enqueue : enqueue_count me.ops ≡ 0
  no_enqueue = sym (ap (λ (k : Counts). k.enqs) counts_are) ∙ lone.0

  excess_is : excess_of me.ops ≡ wanted
  excess_is = all_excess me.ops no_enqueue ∙ sym (ap (λ (k : Counts). k.deqs) counts_are)

  some_ops : me.ops ≢ []
  some_ops none = let some = draft.several in let e = ap length none in absurd (omega arith)

  all_of : (q : List ℕ) → values_from q me.ops ≡ q
  all_of q = ap (λ (vs : List ℕ). q ++ vs) (none_enqueued me.ops no_enqueue) ∙ append-nil q

  -- HEAD moves over the rows of all values
  module _ (r : ℕ) (w : Holds z (world s L.ghost) c (has_walked d.notice.old_head (s.callers c).values (s.callers c).walked r)) (all : length (s.callers c).values ≡ d.notice.counts.deqs) (past : Holds z (world s L.ghost) c (tail_seen (far_behind d.notice.old_head r d.notice.counts.deqs)))
      (head : s.memory.head ≡ Node d.notice.old_head) where
    count_is : d.notice.old_head.count ≡ z.first + G.head
    count_is = ap (λ (q : Place). q.count) (node_found z s L c d.notice.old_head head).1

    there : (length me.values ≤ G.rest) × (G.path (G.head + length me.values) ≡ r) × (me.values ≡ run value_at (suc G.head) (length me.values)) × (me.walked ≡ run G.path (suc G.head) (length me.values))
    there = w.there count_is

    enough_there : wanted ≤ G.rest
    enough_there = let l = there.0 in let a = all in omega arith

    row_is : r ≡ G.path (G.head + wanted)
    row_is = sym there.1 ∙ ap (λ (n : ℕ). G.path (G.head + n)) all

    read_is : me.values ≡ run value_at (suc G.head) wanted
    read_is = there.2 ∙ ap (run value_at (suc G.head)) all

    walked_is : me.walked ≡ run G.path (suc G.head) wanted
    walked_is = there.3 ∙ ap (run G.path (suc G.head)) all

    queue_was : last_queue s.history ≡ unshut (run value_at (suc G.head) G.rest)
    queue_was = bare_queue z s L c (node_found z s L c d.notice.old_head head).0

    length_queue : length (last_queue s.history).values ≡ G.rest
    length_queue = ap (λ (q : Queue). length q.values) queue_was ∙ length-run value_at (suc G.head) G.rest

    gets_all : successes_of d.notice.counts G.rest ≡ wanted
    gets_all = let x = ap (λ (k : Counts). k.excess) counts_are in let e = excess_is in let l = enough_there in omega arith

    leaves : queue_from (last_queue s.history) me.ops ≡ unshut (run value_at (suc G.head + wanted) (G.rest - wanted))
    leaves = queue_from-plain (last_queue s.history) me.ops draft.plain (inr no_enqueue)
        ∙ ((λ i. queue_of (queue_from-counted d.notice.counts me.ops (last_queue s.history).values G.rest draft.plain counts_are length_queue i).values (queue_was i).shut)
        ∙ ap unshut ((λ i. drop (gets_all i) ((all_of (last_queue s.history).values ∙ ap (λ (q : Queue). q.values) queue_was) i)) ∙ drop-run value_at (suc G.head) G.rest wanted enough_there))

    right : paired me.ops wanted me.values ≡ answers_from (last_queue s.history) me.ops
    right = let e = excess_is in let l = enough_there in let q = length_queue in paired_enough me.ops wanted (length (last_queue s.history).values) me.values (omega arith) (omega arith)
        ∙ (paired_right me.ops (last_queue s.history).values me.values draft.plain (read_is ∙ (sym (take-run value_at (suc G.head) G.rest wanted enough_there)
        ∙ (λ i. take ((sym gets_all ∙ sym (got_count-counted d.notice.counts me.ops (last_queue s.history).values G.rest draft.plain counts_are length_queue)) i) (sym (all_of (last_queue s.history).values ∙ ap (λ (q : Queue). q.values) queue_was) i))))
        ∙ sym (answers_from-plain (last_queue s.history) me.ops draft.plain (inr no_enqueue)))

    all_walked : length me.walked ≡ wanted
    all_walked = ap length walked_is ∙ length-run G.path (suc G.head) wanted

    -- it marks the rows that it passed and read
    pub moved_many : Lawful z (changed s c (record s.memory { head = Node (far_behind d.notice.old_head r d.notice.counts.deqs) }) (s.history ++ own_group c (s.callers c) ∷ []) (marks_all (length (s.history ++ own_group c (s.callers c) ∷ [])) c (s.callers c) (Batch d.notice.counts.deqs) false d.notice.old_head))
    moved_many = subst (λ (b : Bool). Lawful z (changed s c (record s.memory { head = Node (far_behind d.notice.old_head r wanted) }) (s.history ++ own_group c me ∷ []) (marks_from (length (s.history ++ own_group c me ∷ [])) c me (Batch wanted) false d.notice.old_head b)))
        (sym (lt-ltb 0 (length me.walked + 0) (let some = lone.1 in let n = all_walked in omega arith)))
        (head_moved z s L c d.notice.old_head r wanted me.walked (Batch wanted) refl off loose draft.known some_ops draft.plain (none_enqueued me.ops no_enqueue) head lone.1 all_walked walked_is enough_there row_is (let l = past in let cnt = count_is in omega arith) right leaves)

  -- the queue is empty
  module _ (on : Holds z (world s L.ghost) c (linked d.notice.old_head)) (seen : Holds z (world s L.ghost) c (head_seen d.notice.old_head)) (at_end : on.position ≡ L.ghost.head + L.ghost.rest) where
    none_there : last_queue s.history ≡ unshut []
    none_there = none_queued z s L c d.notice.old_head on seen at_end

    gets_none : successes_of d.notice.counts 0 ≡ 0
    gets_none = let x = ap (λ (k : Counts). k.excess) counts_are in let e = excess_is in omega arith

    none_left : queue_from (last_queue s.history) me.ops ≡ unshut []
    none_left = queue_from-plain (last_queue s.history) me.ops draft.plain (inr no_enqueue)
        ∙ ((λ i. queue_of (queue_from-counted d.notice.counts me.ops (last_queue s.history).values 0 draft.plain counts_are (ap (λ (q : Queue). length q.values) none_there) i).values (none_there i).shut)
        ∙ (λ i. queue_of (drop (gets_none i) ((all_of (last_queue s.history).values ∙ ap (λ (q : Queue). q.values) none_there) i)) false))

    all_empty : paired me.ops 0 me.values ≡ answers_from (last_queue s.history) me.ops
    all_empty = paired_empty me.ops no_enqueue me.values ∙ (paired_right me.ops [] [] draft.plain (λ i. take (sym none i) (sym (all_of []) i)) ∙ (sym (answers_from-plain (unshut []) me.ops draft.plain (inr no_enqueue)) ∙ ap (λ (q : Queue). answers_from q me.ops) (sym none_there))) where
      none : got_count (answers_from (unshut []) me.ops) ≡ 0
      none = got_count-counted d.notice.counts me.ops [] 0 draft.plain counts_are refl ∙ gets_none

      paired_empty : (ops : List Op) → enqueue_count ops ≡ 0 → (vs : List ℕ) → paired ops 0 vs ≡ paired ops 0 []
      paired_empty [] none vs = refl
      paired_empty (Enq v ∷ ops) none vs = let e = enqueue_count-enq v ops in absurd (omega arith)
      paired_empty (op.Shut ∷ ops) none vs = let e = enqueue_count-shut ops in ap (λ (xs : List Answer). Done ∷ xs) (paired_empty ops (omega arith) vs)
      paired_empty (Deq ∷ ops) none vs = let e = enqueue_count-deq ops in ap (λ (xs : List Answer). Empty ∷ xs) (paired_empty ops (omega arith) vs)

    pub all_found_empty : Lawful z (changed s c s.memory (s.history ++ own_group c (s.callers c) ∷ []) (closes (length (s.history ++ own_group c (s.callers c) ∷ [])) c (s.callers c) (Batch 0)))
    all_found_empty = found_empty z s L c (Batch 0) refl off loose draft.known some_ops draft.plain (none_enter (last_queue s.history).shut me.ops (none_enqueued me.ops no_enqueue)) all_empty (none_left ∙ sym none_there)

module _ (z : LaneSizes) (s : State) (L : Lawful z s) (c : ℕ) where
  abbrev own : Group
  own = own_group c (s.callers c)

  move_head_many : (d : Plan) (r : ℕ) (x : HeadWord) → s.memory.head ≡ x → (b : Bool) → is_node x d.notice.old_head ≡ b → AtPoint z (world s L.ghost) c (s.callers c) (point.Many d (many.MoveHead r))
      → Lawful z (changed s c (write s.memory Head (cond b (OfHead (Node (far_behind d.notice.old_head r d.notice.counts.deqs))) (OfHead x))) (history_after b s.history own)
      (followed z (length (history_after b s.history own)) c (s.callers c) (cond b (Moves d.notice.old_head d.notice.counts.deqs) (GoesOn (point.Many d many.LoadHead)))))
  move_head_many d r x is false apart f = stutters z s L c (point.Many d many.LoadHead) Head (OfHead x) (ap OfHead is) (record { call = f.call; here = (f.here.0, tt) })
  move_head_many d r (Node q) is true same f = moved_many z s L c d (fifth f.call) f.call.0 (fills_loose z (world s L.ghost) c (s.callers c).rows (s.callers c).ops 0 (third f.call)) f.call.1.0 r f.here.1.0 (let all = third f.here in omega arith) (fourth f.here) (is ∙ ap Node (same_places q d.notice.old_head same))
  move_head_many d r (Ann a m) is true same f = absurd (cc same)

  pub preserves_move_head_many : (d : Plan) (r : ℕ) → (s.callers c).point ≡ point.Many d (many.MoveHead r) → Lawful z (step_at z s c (point.Many d (many.MoveHead r)))
  preserves_move_head_many d r is = move_head_many d r s.memory.head refl (is_node s.memory.head d.notice.old_head) refl (known z s L c (point.Many d (many.MoveHead r)) is)

  -- the first row behind the dummy is the next one of the walk
  first_next : (d : Plan) (n : ℕ) (b : Bool) → s.memory.link d.notice.old_head.row ≡ joint b n → AtPoint z (world s L.ghost) c (s.callers c) (point.Many d many.LoadDummy)
      → AtPoint z (world s L.ghost) c (stepped_with (s.callers c) (point.Many d (many.LoadValue n (d.notice.counts.deqs - 1))) [] []) (point.Many d (many.LoadValue n (d.notice.counts.deqs - 1)))
  first_next d n b is f = let next = (next_found z s L c d.notice.old_head n b f.here.1.0 is).0 in let some = (fifth f.call).1 in record {
    call = f.call;
    here = (
      f.here.0,
      (
        record {
          inside = next.inside;
          as_many = refl;
          seen = third f.here;
          there = λ e. let y = next.there L.ghost.head e in let inside = y.0 in (omega arith, ap (λ (j : ℕ). L.ghost.path (suc j)) (let g : L.ghost.head + 0 ≡ L.ghost.head = omega arith in g) ∙ y.1, refl, refl);
        },
        ((omega arith), tt),
      ),
    );
  }

  -- the walk begins behind the dummy
  dummy_over : (d : Plan) (n : ℕ) (b : Bool) → s.memory.link d.notice.old_head.row ≡ joint b n → linearizes (point.Many d many.LoadDummy) (OfLink (s.memory.link d.notice.old_head.row)) ≡ false
      → course (point.Many d many.LoadDummy) (OfLink (s.memory.link d.notice.old_head.row)) ≡ Walks (point.Many d (many.LoadValue n (d.notice.counts.deqs - 1)))
      → AtPoint z (world s L.ghost) c (s.callers c) (point.Many d many.LoadDummy) → Lawful z (step_at z s c (point.Many d many.LoadDummy))
  dummy_over d n b is quiet goes f = stutters_with z s L c (point.Many d many.LoadDummy) (point.Many d (many.LoadValue n (d.notice.counts.deqs - 1))) [] [] (Walks (point.Many d (many.LoadValue n (d.notice.counts.deqs - 1)))) refl quiet goes (λ _. refl) f.call.0.1 (first_next d n b is f)

  ends_empty : (d : Plan) (x : LinkWord) → s.memory.link d.notice.old_head.row ≡ x → (f : AtPoint z (world s L.ghost) c (s.callers c) (point.Many d many.LoadDummy)) → f.here.1.0.position ≡ L.ghost.head + L.ghost.rest
      → Lawful z (changed s c (write s.memory (Link d.notice.old_head.row) (OfLink x)) (s.history ++ own_group c (s.callers c) ∷ []) (closes (length (s.history ++ own_group c (s.callers c) ∷ [])) c (s.callers c) (Batch 0)))
  ends_empty d x is f at_end = (subst (λ (m : Memory). Lawful z (changed s c m (s.history ++ own ∷ []) (closes (length (s.history ++ own ∷ [])) c (s.callers c) (Batch 0)))) (sym (ap (write s.memory (Link d.notice.old_head.row)) (ap OfLink (sym is)) ∙ write_read s.memory (Link d.notice.old_head.row)))
      (all_found_empty z s L c d (fifth f.call) f.call.0 (fills_loose z (world s L.ghost) c (s.callers c).rows (s.callers c).ops 0 (third f.call)) f.call.1.0 f.here.1.0 (third f.here) at_end))

  many_dummy : (d : Plan) (x : LinkWord) → s.memory.link d.notice.old_head.row ≡ x → AtPoint z (world s L.ghost) c (s.callers c) (point.Many d many.LoadDummy) → Lawful z (step_at z s c (point.Many d many.LoadDummy))
  many_dummy d Nil is f = subst (λ (x : LinkWord). Lawful z (step_with z s c (point.Many d many.LoadDummy) (OfLink x))) (sym is) (ends_empty d Nil is f (is_last z s L c d.notice.old_head f.here.1.0 is))
  many_dummy d (Single n) is f = dummy_over d n false is (ap is_nil is) (ap (many_dequeues.after_dummy d) is) f
  many_dummy d (Chain n) is f = dummy_over d n true is (ap is_nil is) (ap (many_dequeues.after_dummy d) is) f
  many_dummy d Shut is f = stutters_at z s L c (point.Many d many.LoadDummy) (point.Many d many.LoadHead) refl (ap is_nil is) (ap (many_dequeues.after_dummy d) is) (record { call = f.call; here = (f.here.0, tt) })

  pub preserves_many_dummy : (d : Plan) → (s.callers c).point ≡ point.Many d many.LoadDummy → Lawful z (step_at z s c (point.Many d many.LoadDummy))
  preserves_many_dummy d is = many_dummy d (s.memory.link d.notice.old_head.row) refl (known z s L c (point.Many d many.LoadDummy) is)
