use Rattle.std.proofs.Common.{arith, refl, ◌≡◌, ◌∙◌, ap, [], ◌∷◌, length, ◌<◌, ◌≤◌, List, slice_index_or}
use Rattle.bq_model.specs.declared.op.Op.{Op}
use Rattle.lane_steps.specs.LaneSizes.{lane_sizes}
use Rattle.lane_steps.specs.Start.{first_point}
use Rattle.lane_steps.proofs.start.first_point.Goals as goal

-- a list of one operation is that one
only : (ops : List Op) (other : Op) → 1 ≤ length ops → length ops < 2 → slice_index_or ops 0 other ∷ [] ≡ ops
only [] other some few = absurd (let e : ⊥ = omega arith in e)
only (op ∷ []) other some few = refl
only (op ∷ next ∷ ops) other some few = absurd (let e : ⊥ = omega arith in e)

pub returns-in-len1 : goal.returns-in-len1
returns-in-len1 c k batch = c.plain.ensures k ∙ ap (first_point (lane_sizes c.args.shape.now) c.args.caller k) (only c.args.ops.now _ c.in-len1.len_at_least c.in-len1.len_below)
