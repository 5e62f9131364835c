-- A step at the point where its caller is, as a rule over a lane's words has it.
use Rattle.std.proofs.Common.{◌≡◌, ℕ, ◌<◌, length, subst, Some}
use Rattle.bq_model.specs.declared.shape.Shape.{Shape}
use Rattle.lane_steps.specs.declared.point.CallEnd.TheVariants.{Full}
use Rattle.lane_steps.specs.declared.point.Point.{Point}
use Rattle.lane_steps.specs.declared.point.Point.TheVariants.{Idle}
use Rattle.lane_steps.specs.LaneSizes.{lane_sizes}
use Rattle.lane_steps.specs.State.{State}
use Rattle.lane_steps.specs.Step.{step_at, next}
use Rattle.lane_room.specs.Search.{IsAbove}
use Rattle.lane_room.specs.Roomy.{Roomy}
use Rattle.lane_room.proofs.Roomy.{roomy_next, full_room}

module _ (z : Shape) (s : State) (R : Roomy z s) (c : ℕ) where
  next_at_its_point : Roomy z (step_at (lane_sizes z) s c (s.callers c).point)
  unfolding next
  next_at_its_point = roomy_next z s R c

  pub roomy_at : (t : Point) → (s.callers c).point ≡ t → Roomy z (step_at (lane_sizes z) s c t)
  roomy_at t is = subst (λ (u : Point). Roomy z (step_at (lane_sizes z) s c u)) is next_at_its_point

  abbrev EndsAbove : State → Type 0
  EndsAbove s' = 0 < length (s.callers c).ops → (s'.callers c).point ≡ Idle → (s'.callers c).outcome ≡ Some Full → IsAbove z s'.history c (s.callers c).ops (s.callers c).started_at

  full_at_its_point : EndsAbove (step_at (lane_sizes z) s c (s.callers c).point)
  unfolding next
  full_at_its_point = full_room z s R c

  pub full_at : (t : Point) → (s.callers c).point ≡ t → 0 < length (s.callers c).ops → ((step_at (lane_sizes z) s c t).callers c).point ≡ Idle → ((step_at (lane_sizes z) s c t).callers c).outcome ≡ Some Full
      → IsAbove z (step_at (lane_sizes z) s c t).history c (s.callers c).ops (s.callers c).started_at
  full_at t is = subst (λ (u : Point). EndsAbove (step_at (lane_sizes z) s c u)) is full_at_its_point
