-- In each run of a lane from its opening on, a command takes no more of its caller's own steps than the lane's sizes say.
use Rattle.std.proofs.Common.{ℕ, suc, ◌+◌, ◌-◌, ◌*◌, ◌≤◌, Bool, true, false, List, [], ◌∷◌, length, eqb, sym, subst, arith, mul-le-mul_right}
use Rattle.std.proofs.lemmas.List.Sums.{count_by-le-length}
use Rattle.bq_model.specs.declared.op.Op.{Op}
use Rattle.bq_model.specs.declared.op.Op.TheVariants.{Enq, Deq, Shut}
use Rattle.bq_model.specs.declared.shape.Shape.{Shape}
use Rattle.excess_count.specs.Excess.{is_enqueue, enqueue_count}
use Rattle.lane_steps.specs.Functions.{put}
use Rattle.lane_steps.specs.LaneSizes.{lane_sizes}
use Rattle.lane_steps.specs.Start.{draft_of, batch_point, begun, start, opening}
use Rattle.lane_steps.specs.State.{Caller, State}
use Rattle.lane_steps.specs.Step.{next}
use Rattle.core_model.proofs.Puts.{put_here}
use Rattle.lane_rank.specs.Rank.{rank, most_rank}
use Rattle.lane_rank.specs.Weight.{enqueues_left, row_weight, weight, most_weight}
use Rattle.lane_rank.specs.Return.{most_count, left, Ranked}
use Rattle.lane_rank.specs.Runs.{MayBegin, Event, steps, begins, IsRun, state_after, GoesOn, steps_of, first_weight, most_steps}
use Rattle.lane_rank.proofs.Bounded.{few_steps}
use Rattle.lane_rank.proofs.Ranked.{less_left, starts, ranked_opens}

-- ranks are kept after each run
pub ranked_after : (z : Shape) (s : State) (o i : ℕ → ℕ) → Ranked z s o i → (es : List Event) → IsRun z s es → (o' : ℕ → ℕ) × (i' : ℕ → ℕ) × Ranked z (state_after z s es) o' i'
ranked_after z s o i R [] run = (o, i, R)
ranked_after z s o i R (steps d ∷ es) run = let x = less_left z s o i R d run.0 in ranked_after z (next (lane_sizes z) s d) (put o d x.0) (put i d x.1) x.2 es run.1
ranked_after z s o i R (begins d ops ∷ es) run = ranked_after z (start (lane_sizes z) s d ops) (put o d (rank s)) (put i d (rank s)) (starts z s o i R d ops run.0) es run.1

-- what a call weighs as it begins
module _ (z : Shape) (n c : ℕ) (k : Caller) where
  abbrev begins_as : List Op → Caller
  begins_as ops = begun (lane_sizes z) n c k ops

  first_light : (ops : List Op) → length ops ≤ z.batch → weight most_count z (begins_as ops) (begins_as ops).point ≤ first_weight z
  first_light [] short = omega arith
  first_light (Enq v ∷ []) short = omega arith
  first_light (Deq ∷ []) short = omega arith
  first_light (Shut ∷ []) short = omega arith
  first_light (op ∷ op' ∷ ops) short = by (eqb (enqueue_count (op ∷ op' ∷ ops)) 0) where
    few : enqueues_left most_count z (begins_as (op ∷ op' ∷ ops)) * row_weight most_count z ≤ z.batch * row_weight most_count z
    few = mul-le-mul_right (row_weight most_count z) (let most = count_by-le-length is_enqueue (op ∷ op' ∷ ops) in omega arith)

    by : (b : Bool) → weight most_count z (begins_as (op ∷ op' ∷ ops)) (batch_point (lane_sizes z) c (op ∷ op' ∷ ops) (draft_of c k (op ∷ op' ∷ ops)) b) ≤ first_weight z
    by true = omega arith
    by false = let less = few in omega arith

-- what is left to it then
left_within : (z : Shape) (k : Caller) (o i : ℕ) → weight most_count z k k.point ≤ first_weight z → suc (left z k o i) ≤ most_steps z
left_within z k o i light = by (2 * most_rank (lane_sizes z)) (o + i) (most_weight most_count z) (weight most_count z k k.point) (first_weight z) light where
  by : (most kept top w w' : ℕ) → w ≤ w' → suc ((most - kept) * suc top + w) ≤ suc (most * suc top + w')
  by most kept top w w' le = let f : (most - kept) * suc top ≤ most * suc top = mul-le-mul_right (suc top) (omega arith) in omega arith

pub ends_in_each_run : (z : Shape) (es : List Event) → IsRun z (opening (lane_sizes z)) es → (c : ℕ) (ops : List Op) → MayBegin z (state_after z (opening (lane_sizes z)) es) c ops
    → (later : List Event) → GoesOn z c (start (lane_sizes z) (state_after z (opening (lane_sizes z)) es) c ops) later → steps_of c later ≤ most_steps z
ends_in_each_run z es run c ops may later on = let s : State = state_after z (opening (lane_sizes z)) es in let x = ranked_after z (opening (lane_sizes z)) (λ _. 0) (λ _. 0) (ranked_opens z) es run in
    let few = few_steps z c (start (lane_sizes z) s c ops) (put x.0 c (rank s)) (put x.1 c (rank s)) (starts z s x.0 x.1 x.2 c ops may) later on in
    let light = subst (λ (k : Caller). weight most_count z k k.point ≤ first_weight z) (sym (put_here s.callers c (begun (lane_sizes z) (length s.history) c (s.callers c) ops))) (first_light z (length s.history) c (s.callers c) ops may.short) in
    let within = left_within z ((start (lane_sizes z) s c ops).callers c) (put x.0 c (rank s) c) (put x.1 c (rank s) c) light in le few within where
      le : {a b c : ℕ} → a ≤ b → b ≤ c → a ≤ c
      le f g = omega arith
