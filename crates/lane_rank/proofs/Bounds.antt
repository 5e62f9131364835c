-- The rank has a bound, and with it falls the number of steps that a caller can still make.
use Rattle.std.proofs.Common.{◌≡◌, ◌⊎◌, inl, inr, ℕ, suc, ◌+◌, ◌-◌, ◌*◌, ◌<◌, ◌≤◌, mul-le-mul_right, arith}
use Rattle.bq_model.specs.declared.shape.Shape.{Shape}
use Rattle.lane_steps.specs.LaneSizes.{LaneSizes}
use Rattle.lane_steps.specs.State.{Caller, State}
use Rattle.core_model.specs.Lawful.{Lawful}
use Rattle.core_model.proofs.InRange.{all_within}
use Rattle.lane_rank.specs.Rank.{rank, most_rank}
use Rattle.lane_rank.specs.Weight.{weight, most_weight, left}
use Rattle.lane_rank.proofs.Ranks.{stage_below}

pub rank_bounded : (z : LaneSizes) (s : State) → Lawful z s → rank s ≤ most_rank z
rank_bounded z s L = let ops = all_within z s L in let stage = stage_below s.memory in omega arith

-- a step that lowers the weight, or one after which a greater rank is kept, lowers what is left
pub left_falls : (M : ℕ) (z : Shape) (most : ℕ) (k k' : Caller) (o i o' i' : ℕ) → o' ≤ most → i' ≤ most
    → ((weight M z k' k'.point < weight M z k k.point) × (o ≤ o') × (i ≤ i')) ⊎ ((weight M z k' k'.point ≤ most_weight M z) × (o ≤ o') × (i ≤ i') × (o + i < o' + i'))
    → left M z most k' o' i' < left M z most k o i
left_falls M z most k k' o i o' i' below below' (inl (less, up, up')) = by (2 * most - (o' + i')) (2 * most - (o + i)) (omega arith) (most_weight M z) (weight M z k' k'.point) (weight M z k k.point) less where
  by : (x y : ℕ) → x ≤ y → (top w' w : ℕ) → w' < w → x * suc top + w' < y * suc top + w
  by x y le top w' w less = let f : x * suc top ≤ y * suc top = mul-le-mul_right (suc top) le in omega arith
left_falls M z most k k' o i o' i' below below' (inr (fits, up, up', more)) = by (2 * most - (o' + i')) (2 * most - (o + i)) (omega arith) (most_weight M z) (weight M z k' k'.point) (weight M z k k.point) fits where
  by : (x y : ℕ) → suc x ≤ y → (top w' w : ℕ) → w' ≤ top → x * suc top + w' < y * suc top + w
  by x y le top w' w fits = let f : suc x * suc top ≤ y * suc top = mul-le-mul_right (suc top) le in let e : suc x * suc top ≡ x * suc top + suc top = omega (arith, Rattle.std.proofs.Math.Nat.suc-mul x (suc top)) in omega arith
