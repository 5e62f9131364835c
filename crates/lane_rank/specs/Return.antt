-- A lane whose callers keep ranks, and what a step makes of those of its caller.
use Rattle.std.specs.Prelude.{◌≡◌, ◌⊎◌, ◌<◌, ◌≤◌, ◌^◌, ℕ, ◌+◌, length}
use Rattle.bq_model.specs.declared.shape.Shape.{Shape}
use Rattle.lane_steps.specs.declared.point.Point.TheVariants.{Idle}
use Rattle.lane_steps.specs.Coded.{IsCoded}
use Rattle.lane_steps.specs.LaneSizes.{lane_sizes}
use Rattle.lane_steps.specs.State.{Caller, State}
use Rattle.core_model.specs.Few.{HasFew}
use Rattle.core_model.specs.Lawful.{Lawful}
use Rattle.lane_rank.specs.Expected.{Keeps}
use Rattle.lane_rank.specs.Rank.{most_rank}
use Rattle.lane_rank.specs.Weight.{weight, most_weight}
use Rattle.lane_rank.specs.Weight as weights

-- no count of a batch is above this, by the word that has it
abbrev pub most_count : ℕ
most_count = 2 ^ 16

-- A caller that kept o and i went from k to k' by a step that led to the state s: its command has ended, or its weight is less,
-- or it kept a greater rank.
abbrev pub Onward : ℕ → Shape → State → Caller → Caller → ℕ → ℕ → Type 0
Onward M z s k k' o i = (k'.point ≡ Idle) ⊎ ((o' : ℕ) × (i' : ℕ) × Keeps s k'.point o' i'
    × (((weight M z k' k'.point < weight M z k k.point) × (o ≤ o') × (i ≤ i')) ⊎ ((weight M z k' k'.point ≤ most_weight M z) × (o ≤ o') × (i ≤ i') × (o + i < o' + i'))))

-- how much is left for a caller of such a lane
abbrev pub left : Shape → Caller → ℕ → ℕ → ℕ
left z k o i = weights.left most_count z (most_rank (lane_sizes z)) k o i

-- the lists of a caller fit its command, which is no longer than a batch may be
abbrev pub Fits : Shape → ℕ → Caller → Type 0
Fits z c k = HasFew z c k × (length k.ops ≤ z.batch)

-- A lawful lane whose words can be coded, and whose callers kept these ranks.
pub record Ranked (z : Shape) (s : State) (o i : ℕ → ℕ) : Type 0 where
  pub lawful : Lawful (lane_sizes z) s
  pub coded : IsCoded z s
  pub fits : (c : ℕ) → c < z.callers → Fits z c (s.callers c)
  pub keeps : (c : ℕ) → Keeps s (s.callers c).point (o c) (i c)
