-- While a batch fills and links its rows and chooses its announcement, fewer steps are left after each step.
use Rattle.std.proofs.Common.{◌≡◌, ◌≢◌, ◌==◌, nat_lt, get_or, ℕ, suc, ◌+◌, ◌*◌, ◌-◌, ◌<◌, ◌≤◌, ◌++◌, List, [], ◌∷◌, length, Bool, true, false, cond, refl, ap, ◌∙◌, arith, length-append}
use Rattle.std.proofs.Math.Nat.{suc-mul}
use Rattle.std.proofs.lemmas.Bool.{eqb-true}
use Rattle.bq_model.specs.declared.shape.Shape.{Shape}
use Rattle.bq_model.specs.Values.{enqueued}
use Rattle.excess_count.specs.Excess.{enqueue_count}
use Rattle.word_rows.specs.Sizes.{items_of}
use Rattle.word_rows.specs.declared.location.AnnField.TheVariants as field
use Rattle.lane_steps.specs.Batches.{with_rows}
use Rattle.lane_steps.specs.Fill as filling
use Rattle.lane_steps.specs.Fill.{chosen, noted, past, first_store}
use Rattle.lane_steps.specs.LaneSizes.{lane_sizes}
use Rattle.lane_steps.specs.Stopper.{chain_rows}
use Rattle.lane_steps.specs.Take.{search}
use Rattle.lane_steps.specs.declared.point.Notice.{Notice}
use Rattle.lane_steps.specs.declared.point.Draft.{Draft}
use Rattle.lane_steps.specs.declared.point.FillPoint.{FillPoint}
use Rattle.lane_steps.specs.declared.point.FillPoint.TheVariants as fill
use Rattle.lane_steps.specs.declared.point.BatchPoint.TheVariants as batch
use Rattle.lane_steps.specs.declared.point.Taking.TheVariants as taking
use Rattle.lane_steps.specs.declared.point.Point.{Point}
use Rattle.lane_steps.specs.declared.point.Point.TheVariants as point
use Rattle.lane_steps.specs.State.{Caller, State, read, command}
use Rattle.lane_steps.specs.Step.{target, after, step_at, listening, links_on, takes_on, stepped}
use Rattle.core_model.specs.Facts.{Each}
use Rattle.core_model.specs.Ghost.{World}
use Rattle.core_model.specs.Few.{IsEarly}
use Rattle.core_model.proofs.Rely.{world}
use Rattle.core_model.specs.Lawful.{Lawful}
use Rattle.core_model.proofs.FewSteps.{lists_fit}
use Rattle.core_model.proofs.Preserves.{known}
use Rattle.lane_rank.specs.Expected.{AllThere, Keeps, outer_scan}
use Rattle.lane_rank.specs.Return.{Onward}
use Rattle.lane_rank.specs.Weight.{weight, whole_help, whole_batch, row_weight, enqueues_left}
use Rattle.lane_rank.proofs.Expecting.{AllSafe}
use Rattle.lane_rank.proofs.Onwards.{carry, goes}

-- one row less is to be taken, as its search begins
row_taken : (a b row base l : ℕ) → a ≡ suc b → 3 + l < row → base + b * row + 3 + l < base + a * row
row_taken a b row base l is less = let all : a * row ≡ b * row + row = ap (λ (x : ℕ). x * row) is ∙ suc-mul b row in omega (arith, all, less)

module _ (z : Shape) (s : State) (L : Lawful (lane_sizes z) s) (c M : ℕ) where
  module _ (t : Point) (is : (s.callers c).point ≡ t) (o i : ℕ) (K : Keeps s t o i) where
    -- it stores the first field of the announcement that it has chosen
    chooses : (k : Caller) (d : Draft) (b : Bool) → AllThere (step_at (lane_sizes z) s c t) o (outer_scan b d.notice) → whole_help M z + 11 < weight M z (s.callers c) t
        → (there : k.point ≡ cond b (point.Batch d (batch.StoreAll field.OldHead)) (point.Batch d (batch.StoreField field.OldTail))) → Onward M z (step_at (lane_sizes z) s c t) (s.callers c) k o i
    chooses k d true out less there = goes z s L c M t is o i K k (point.Batch d (batch.StoreAll field.OldHead)) there out tt (omega (arith, less))
    chooses k d false out less there = goes z s L c M t is o i K k (point.Batch d (batch.StoreField field.OldTail)) there tt tt (omega (arith, less))

    -- it goes on with the hazard words of the callers from e on
    pub listens : (k : Caller) (m : Notice) (e : ℕ) (xs : List ℕ) → AllThere (step_at (lane_sizes z) s c t) o (outer_scan (m.counts.enqs == 0) m) → whole_help M z + 12 + (z.callers - e) < weight M z (s.callers c) t
        → Onward M z (step_at (lane_sizes z) s c t) (s.callers c) (listening (lane_sizes z) c k m e xs) o i
    listens k m e xs out less = by (nat_lt (past c e) z.callers) refl where
      further : (b : Bool) → e ≤ cond b (suc e) e
      further true = omega arith
      further false = omega arith

      by : (b : Bool) → nat_lt (past c e) z.callers ≡ b → Onward M z (step_at (lane_sizes z) s c t) (s.callers c) (record k { point = cond b (point.Fill m (fill.LoadHazard (past c e))) (first_store (chosen (lane_sizes z) c xs m)); named = xs }) o i
      by true here = let more = further (e == c) in goes z s L c M t is o i K (record k { point = point.Fill m (fill.LoadHazard (past c e)); named = xs }) (point.Fill m (fill.LoadHazard (past c e))) refl out tt (omega (arith, less, more))
      by false here = chooses (record k { point = first_store (chosen (lane_sizes z) c xs m); named = xs }) (chosen (lane_sizes z) c xs m) (m.counts.enqs == 0) out (omega (arith, less)) refl

    -- of a batch with enqueues
    listens_plainly : (k : Caller) (m : Notice) (e : ℕ) (xs : List ℕ) → m.counts.enqs ≢ 0 → whole_help M z + 12 + (z.callers - e) < weight M z (s.callers c) t
        → Onward M z (step_at (lane_sizes z) s c t) (s.callers c) (listening (lane_sizes z) c k m e xs) o i
    listens_plainly k m e xs some less = listens k m e xs (by (m.counts.enqs == 0) refl) less where
      by : (b : Bool) → (m.counts.enqs == 0) ≡ b → AllThere (step_at (lane_sizes z) s c t) o (outer_scan b m)
      by true e = absurd (some (eqb-true m.counts.enqs 0 e))
      by false e = tt

    links : (k : Caller) (m : Notice) (j : ℕ) (b : Bool) → m.counts.enqs ≢ 0 → whole_batch M z + (length k.rows - j) < weight M z (s.callers c) t → (b ≡ true → whole_batch M z ≤ weight M z (s.callers c) t)
        → Onward M z (step_at (lane_sizes z) s c t) (s.callers c) (links_on (lane_sizes z) c k m j b) o i
    links k m j true some less most = listens_plainly k m 0 [] some (let l = most refl in omega (arith, l))
    links k m j false some less most = goes z s L c M t is o i K (stepped k (point.Fill m (fill.StoreChain j (get_or k.rows j 0) (get_or k.rows (suc j) 0)))) (point.Fill m (fill.StoreChain j (get_or k.rows j 0) (get_or k.rows (suc j) 0))) refl tt tt (omega (arith, less))

  module _ (n o i : ℕ) (short : length (s.callers c).ops ≤ z.batch) (early : IsEarly z c (s.callers c)) where
    abbrev me : Caller
    me = s.callers c

    abbrev w : World
    w = world s L.ghost

    -- what it keeps after its step there
    abbrev then : Point → Caller
    then t = after (lane_sizes z) n c (s.callers c) t (read s.memory (target c t))

    -- once the row r is filled
    abbrev with_row : ℕ → Caller
    with_row r = record me { rows = me.rows ++ r ∷ [] }

    fills_row : (m : Notice) (r v : ℕ) (is : (s.callers c).point ≡ point.Fill m (fill.StoreValue r v)) → Keeps s (point.Fill m (fill.StoreValue r v)) o i
        → Onward M z (step_at (lane_sizes z) s c (point.Fill m (fill.StoreValue r v))) (s.callers c) (then (point.Fill m (fill.StoreValue r v))) o i
    fills_row m r v is K = by (length (me.rows ++ r ∷ []) == m.counts.enqs) where
      below : length me.rows < enqueue_count me.ops
      below = (lists_fit z s L c).fills m r v is

      more : length (me.rows ++ r ∷ []) ≡ suc (length me.rows)
      more = let all = length-append me.rows (r ∷ []) in omega (arith, all)

      some : m.counts.enqs ≢ 0
      some none = let inside = (known (lane_sizes z) s L c (point.Fill m (fill.StoreValue r v)) is).here.1.1.0.inside in absurd (omega (arith, inside, none))

      by : (b : Bool) → Onward M z (step_at (lane_sizes z) s c (point.Fill m (fill.StoreValue r v))) (s.callers c) (takes_on (lane_sizes z) c (with_row r) m b) o i
      by true = let fits = early.few_walked in links (point.Fill m (fill.StoreValue r v)) is o i K (with_row r) (with_rows m (me.rows ++ r ∷ [])) 0 (length (me.rows ++ r ∷ []) == 1) some
          (omega (arith, fits, short, more, below)) (λ _. omega arith)
      by false = goes z s L c M (point.Fill m (fill.StoreValue r v)) is o i K (stepped (with_row r) (search (lane_sizes z) c (taking.Batch m (get_or (enqueued me.ops) (length (me.rows ++ r ∷ [])) 0))))
          (search (lane_sizes z) c (taking.Batch m (get_or (enqueued me.ops) (length (me.rows ++ r ∷ [])) 0))) refl tt tt
          (row_taken (enqueues_left M z me) (enqueues_left M z (with_row r)) (row_weight M z) (whole_batch M z + z.batch + 2) (items_of z - 1) (omega (arith, more, below)) (omega arith))

    chains_row : (m : Notice) (j r q : ℕ) (is : (s.callers c).point ≡ point.Fill m (fill.StoreChain j r q)) → Keeps s (point.Fill m (fill.StoreChain j r q)) o i
        → Onward M z (step_at (lane_sizes z) s c (point.Fill m (fill.StoreChain j r q))) (s.callers c) (then (point.Fill m (fill.StoreChain j r q))) o i
    chains_row m j r q is K = links (point.Fill m (fill.StoreChain j r q)) is o i K me m (suc j) (suc (suc j) == length me.rows) some (omega (arith, below)) (λ _. omega arith) where
      f : Each (lane_sizes z) w c (filling.knows me.named (command me) m (fill.StoreChain j r q))
      f = (known (lane_sizes z) s L c (point.Fill m (fill.StoreChain j r q)) is).here

      below : suc j < length me.rows
      below = f.1.1.1.0.inside

      some : m.counts.enqs ≢ 0
      some none = let all = f.1.1.0.all in let rows : chain_rows m.counts ≡ 1 = ap (λ (x : ℕ). x + cond (x == 0) 1 0) none in absurd (omega (arith, all, rows, below))

    pub fill_onward : (m : Notice) (p : FillPoint) → (s.callers c).point ≡ point.Fill m p → Keeps s (point.Fill m p) o i
        → Onward M z (step_at (lane_sizes z) s c (point.Fill m p)) (s.callers c) (after (lane_sizes z) n c (s.callers c) (point.Fill m p) (read s.memory (target c (point.Fill m p)))) o i
    fill_onward m (fill.StoreValue r v) is K = fills_row m r v is K
    fill_onward m (fill.StoreChain j r q) is K = chains_row m j r q is K
    fill_onward m (fill.LoadHazard e) is K = let inside = (known (lane_sizes z) s L c (point.Fill m (fill.LoadHazard e)) is).here.1.1.1.1.0.0 in
        listens (point.Fill m (fill.LoadHazard e)) is o i K me m (suc e) (noted me.named (s.memory.ann_hazard e)) (carry z s L c M (point.Fill m (fill.LoadHazard e)) is o i K (outer_scan (m.counts.enqs == 0) m) (safe (m.counts.enqs == 0)) K.outer_there) (omega (arith, inside)) where
          safe : (b : Bool) → AllSafe (lane_sizes z) s L (point.Fill m (fill.LoadHazard e)) (outer_scan b m)
          safe true = (tt, tt)
          safe false = tt
