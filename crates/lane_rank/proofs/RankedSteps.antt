-- A step at the point where its caller is, as a rule over a lane's words has it.
use Rattle.std.proofs.Common.{◌≡◌, ◌⊎◌, inl, inr, ℕ, ◌<◌, length, ap, subst, arith}
use Rattle.bq_model.specs.declared.shape.Shape.{Shape}
use Rattle.lane_steps.specs.declared.point.Point.{Point}
use Rattle.lane_steps.specs.declared.point.Point.TheVariants.{Idle}
use Rattle.lane_steps.specs.Functions.{put}
use Rattle.lane_steps.specs.LaneSizes.{lane_sizes}
use Rattle.lane_steps.specs.State.{Caller, State, read}
use Rattle.lane_steps.specs.Step.{target, after, history_with, step_at, next}
use Rattle.core_model.proofs.Puts.{put_here}
use Rattle.core_model.proofs.Steps.{no_operation}
use Rattle.lane_rank.specs.Return.{left, Ranked}
use Rattle.lane_rank.proofs.Ranked.{less_left}

module _ (z : Shape) (s : State) (o i : ℕ → ℕ) (R : Ranked z s o i) (c : ℕ) (inside : c < z.callers) where
  -- while the command goes on, less is left
  less_running : (o' : ℕ) × (i' : ℕ) × Ranked z (next (lane_sizes z) s c) (put o c o') (put i c i')
      × ((((next (lane_sizes z) s c).callers c).point ≡ Idle) ⊎ (left z ((next (lane_sizes z) s c).callers c) o' i' < left z (s.callers c) (o c) (i c)))
      → (o' : ℕ) × (i' : ℕ) × Ranked z (next (lane_sizes z) s c) (put o c o') (put i c i')
      × (0 < length ((next (lane_sizes z) s c).callers c).ops → left z ((next (lane_sizes z) s c).callers c) o' i' < left z (s.callers c) (o c) (i c))
  less_running (o', i', R', inl idle) = (o', i', R', λ runs. let none = ap length (no_operation (lane_sizes z) (next (lane_sizes z) s c) R'.lawful c idle) in absurd (omega (arith, none, runs)))
  less_running (o', i', R', inr less) = (o', i', R', λ _. less)

  -- what the caller keeps after a step at the point t
  abbrev pub kept : Point → Caller
  kept t = after (lane_sizes z) (length (history_with (lane_sizes z) s c t (read s.memory (target c t)))) c (s.callers c) t (read s.memory (target c t))

  abbrev Less : Point → Type 0
  Less t = (o' : ℕ) × (i' : ℕ) × Ranked z (step_at (lane_sizes z) s c t) (put o c o') (put i c i')
      × (0 < length ((step_at (lane_sizes z) s c t).callers c).ops → left z ((step_at (lane_sizes z) s c t).callers c) o' i' < left z (s.callers c) (o c) (i c))

  at_its_point : Less (s.callers c).point
  unfolding next
  at_its_point = less_running (less_left z s o i R c inside)

  pub ranked_at : (t : Point) → (s.callers c).point ≡ t → (o' : ℕ) × (i' : ℕ) × Ranked z (step_at (lane_sizes z) s c t) (put o c o') (put i c i')
      × (0 < length (kept t).ops → left z (kept t) o' i' < left z (s.callers c) (o c) (i c))
  ranked_at t is = let l = subst Less is at_its_point in (
    l.0,
    l.1,
    l.2,
    subst (λ (k : Caller). 0 < length k.ops → left z k l.0 l.1 < left z (s.callers c) (o c) (i c)) (put_here s.callers c (kept t)) l.3,
  )
