-- The numbers of an empty lane can be coded, and those of a lane after the start of a command.
use Rattle.std.proofs.Common.{◌≡◌, ◌≢◌, ℕ, suc, ◌*◌, ◌^◌, ◌<◌, ◌≤◌, Bool, true, false, List, [], ◌∷◌, length, take, drop, get_or, sym, refl, subst, arith, All, eqb}
use Rattle.std.proofs.lemmas.List.{length-append, length-take}
use Rattle.std.proofs.lemmas.List.Elements.{All-filter}
use Rattle.std.proofs.Math.Pow.{pow_mono}
use Rattle.bq_model.specs.declared.group.Group.{Group}
use Rattle.bq_model.specs.declared.op.Op.{Op}
use Rattle.bq_model.specs.declared.op.Op.TheVariants.{Enq, Deq, Shut}
use Rattle.bq_model.specs.declared.shape.Shape.{Shape}
use Rattle.bq_model.specs.History.{operations}
use Rattle.excess_count.specs.Excess.{enqueue_count, dequeue_count, excess_of}
use Rattle.bq_model.specs.Values.{enqueued}
use Rattle.core_model.proofs.Excess.{counted_most}
use Rattle.excess_count.proofs.ExcessLaws.{excess_of-le}
use Rattle.word_rows.specs.declared.location.AnnField.{AnnField}
use Rattle.word_rows.specs.declared.location.AnnField.TheVariants.{OldHead, OldTail, First, Last, Counts, BatchNo, Order0, Order1, Order2, Order3}
use Rattle.word_rows.specs.declared.location.Location.{Location}
use Rattle.word_rows.specs.declared.location.Location.TheVariants.{Head, Tail, Link, Value, Mark, NodeHazard, AnnHazard, AnnWord}
use Rattle.word_rows.specs.Contents.{MayHold}
use Rattle.word_rows.specs.Order.{order_word_of}
use Rattle.word_rows.specs.Opening.{opening_of, opening_field}
use Rattle.word_rows.specs.Sizes.{rows_of}
use Rattle.word_rows.proofs.OrderLemmas.{enqueue_bits-lt}
use Rattle.lane_steps.specs.declared.point.Point.TheVariants as point
use Rattle.lane_steps.specs.declared.point.Taking.TheVariants as taking
use Rattle.lane_steps.specs.LaneSizes.{LaneSizes, lane_sizes}
use Rattle.lane_steps.specs.State.{State}
use Rattle.lane_steps.specs.Start.{PassesAllowance, IsCommand, draft_of, first_point, begun, start, opening, batch_point}
use Rattle.lane_steps.specs.Fits.{NoticeFits}
use Rattle.lane_steps.specs.Coded.{PointFits, IsCoded}
use Rattle.core_model.specs.Lawful.{Lawful}
use Rattle.core_model.proofs.CodedCourses.{search_fits}
use Rattle.core_model.proofs.Puts.{put_all}
use Rattle.core_model.proofs.Ends.{idle_groups}
use Rattle.core_model.proofs.Tables.{opens_as_its_table}

field_opens : (s : Shape) (a : ℕ) (f : AnnField) → MayHold s (AnnWord a f) (opening_field f)
field_opens s a OldHead = (tt, ((omega arith), (omega arith)))
field_opens s a OldTail = (tt, tt)
field_opens s a First = (tt, (omega arith))
field_opens s a Last = (tt, (omega arith))
field_opens s a Counts = (tt, ((omega arith), (omega arith), (omega arith)))
field_opens s a BatchNo = let callers = s.some_callers.0 in let allowance = s.some_allowance.0 in (tt, ((omega arith), (omega arith)))
field_opens s a Order0 = (tt, (omega arith))
field_opens s a Order1 = (tt, (omega arith))
field_opens s a Order2 = (tt, (omega arith))
field_opens s a Order3 = (tt, (omega arith))

word_opens : (s : Shape) (l : Location) → MayHold s l (opening_of s l)
word_opens s Head = let fits = s.counts_fit in (tt, ((omega arith), (omega arith)))
word_opens s Tail = let fits = s.counts_fit in (tt, ((omega arith), (omega arith)))
word_opens s (Link r) = (tt, tt)
word_opens s (Value r) = (tt, (omega arith))
word_opens s (Mark r) = (tt, tt)
word_opens s (NodeHazard c) = (tt, tt)
word_opens s (AnnHazard c) = (tt, tt)
word_opens s (AnnWord a f) = field_opens s a f

pub opening_coded : (s : Shape) → IsCoded s (opening (lane_sizes s))
opening_coded s = record { words = λ l _. subst (MayHold s l) (sym (opens_as_its_table s l)) (word_opens s l); points = λ c. tt; taken = λ c j. omega arith; walked = λ c j. omega arith; retired = λ c j. omega arith; puts = λ c j. omega arith }

-- groups with operations are no more than their operations
le_operations : (gs : List Group) → All (λ g. g.ops ≢ []) gs → length gs ≤ length (operations gs)
le_operations [] a = omega arith
le_operations (g ∷ gs) a = let rest = le_operations gs (λ k d below. a (suc k) d (omega arith)) in let all = length-append g.ops (operations gs) in let one = some g.ops (a 0 g (omega arith)) in omega arith where
  some : (ops : List Op) → ops ≢ [] → 0 < length ops
  some [] none = absurd (none refl)
  some (op ∷ ops) none = omega arith

-- an order word is a word
order_fits : (ops : List Op) (w : ℕ) → order_word_of ops w < 2 ^ 64
order_fits ops w = let xs : List Op = take 64 (drop (64 * w) ops) in let below = enqueue_bits-lt (take 64 (drop (64 * w) ops)) in let n = length-take 64 (drop (64 * w) ops) in
    let most : 2 ^ length (take 64 (drop (64 * w) ops)) ≤ 2 ^ 64 = pow_mono {i = length (take 64 (drop (64 * w) ops))} {j = 64} (short ops) in omega arith where
      short : (ys : List Op) → length (take 64 (drop (64 * w) ys)) ≤ 64
      short ys = let m = length-take 64 (drop (64 * w) ys) in omega arith

module _ (key : Shape) (s : State) (L : Lawful (lane_sizes key) s) (R : IsCoded key s) (c : ℕ) (idle : (s.callers c).point ≡ point.Idle) (at : c < key.callers) where
  abbrev z : LaneSizes
  z = lane_sizes key

  -- the caller's next batch number is below its allowance
  batch_fits : (n : ℕ) → 0 < n → ¬ (PassesAllowance z (s.callers c) n) → length (s.callers c).mine < key.allowance
  batch_fits n some left = let filled : All (λ (g : Group). g.ops ≢ []) (s.callers c).mine = subst (All (λ (g : Group). g.ops ≢ [])) (idle_groups z s L c idle) (All-filter (λ g. _) (λ (g : Group). g.ops ≢ []) s.history L.history.proper.filled) in
      by (le_operations (s.callers c).mine filled) left where
        by : length (s.callers c).mine ≤ length (operations (s.callers c).mine) → ¬ (PassesAllowance z (s.callers c) n) → length (s.callers c).mine < key.allowance
        by few left = omega arith

  module _ (ops : List Op) (is : IsCommand ops) (left : ¬ (PassesAllowance z (s.callers c) (length ops))) (short : length ops ≤ key.batch) (values : (j : ℕ) → get_or (enqueued ops) j 0 < 2 ^ 64) where
    counts_fit : (enqueue_count ops < 2 ^ 16) × (dequeue_count ops < 2 ^ 16) × (excess_of ops < 2 ^ 16)
    counts_fit = let all = counted_most ops in let x = excess_of-le ops in let most : key.batch ≤ 256 = key.some_batch.1 in let few = short in (omega arith, omega arith, omega arith)

    -- what a batch is to say, before it has rows
    draft_fits : NoticeFits key (draft_of c (s.callers c) ops)
    draft_fits = record {
      old_head = ((omega arith), (omega arith));
      first = omega arith;
      last = omega arith;
      counts = counts_fit;
      number = ((batch_fits (length ops) is.0 left), at);
      order0 = order_fits ops 0;
      order1 = order_fits ops 1;
      order2 = order_fits ops 2;
      order3 = order_fits ops 3;
    }

    many_fit : (b : Bool) → PointFits key (batch_point z c ops (draft_of c (s.callers c) ops) b)
    many_fit true = ((tt, draft_fits), tt)
    many_fit false = search_fits key L.sizes c at (taking.Batch (draft_of c (s.callers c) ops) (get_or (enqueued ops) 0 0)) (draft_fits, values 0)

    point_fits : (xs : List Op) → xs ≡ ops → PointFits key (first_point z c (s.callers c) xs)
    point_fits [] e = tt
    point_fits (Enq v ∷ []) e = search_fits key L.sizes c at (taking.Enqueue v) (subst (λ (ys : List Op). get_or (enqueued ys) 0 0 < 2 ^ 64) (sym e) (values 0))
    point_fits (Deq ∷ []) e = tt
    point_fits (Shut ∷ []) e = tt
    point_fits (op ∷ op' ∷ xs) e = subst (λ (ys : List Op). PointFits key (batch_point z c ys (draft_of c (s.callers c) ys) (eqb (enqueue_count ys) 0))) (sym e) (many_fit (eqb (enqueue_count ops) 0))

    pub start_coded : IsCoded key (start (lane_sizes key) s c ops)
    start_coded = let k = begun z (length s.history) c (s.callers c) ops in record {
      words = R.words;
      points = put_all s.callers c k (λ d y. PointFits key y.point) (point_fits ops refl) (λ d _. R.points d);
      taken = put_all s.callers c k (λ d y. (j : ℕ) → get_or y.rows j 0 < rows_of key) (λ j. omega arith) (λ d _. R.taken d);
      walked = put_all s.callers c k (λ d y. (j : ℕ) → get_or y.walked j 0 < rows_of key) (λ j. omega arith) (λ d _. R.walked d);
      retired = put_all s.callers c k (λ d y. (j : ℕ) → get_or y.retired j 0 < rows_of key) (R.retired c) (λ d _. R.retired d);
      puts = put_all s.callers c k (λ d y. (j : ℕ) → get_or (enqueued y.ops) j 0 < 2 ^ 64) values (λ d _. R.puts d);
    }
