-- The answers of a command that ends.
use Rattle.std.specs.Prelude.{ℕ, List, [], ◌∷◌}
use Rattle.bq_model.specs.declared.op.Op.{Op}
use Rattle.bq_model.specs.declared.op.Answer.{Answer}
use Rattle.excess_count.specs.Pairing.{paired}
use Rattle.lane_steps.specs.declared.point.Closing.{Closing}
use Rattle.lane_steps.specs.declared.point.Closing.TheVariants.{Plain, Batch, Full}

-- those of a command of these operations, which has read these values
abbrev pub closing_answers : List Op → List ℕ → Closing → List Answer
closing_answers ops vs (Plain answer) = answer ∷ []
closing_answers ops vs (Batch m) = paired ops m vs
closing_answers ops vs Full = []
