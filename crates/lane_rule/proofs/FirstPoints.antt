-- The first step of a command can be made, by what its caller knows of itself.
use Rattle.std.proofs.Common.{ℕ, ◌+◌, ◌*◌, ◌^◌, ◌<◌, List, [], ◌∷◌, arith, Bool, true, false, ◌==◌}
use Rattle.bq_model.specs.declared.op.Op.{Op}
use Rattle.bq_model.specs.declared.op.Op.TheVariants.{Enq, Deq, Shut}
use Rattle.bq_model.specs.declared.shape.Shape.{Shape}
use Rattle.excess_count.specs.Excess.{enqueue_count}
use Rattle.word_rows.specs.Sizes.{items_of, own_rows_of, rows_of}
use Rattle.word_rows.proofs.HomeLemmas.{own_row-lt}
use Rattle.word_rows.proofs.SizeLemmas.{rows_within}
use Rattle.lane_steps.specs.declared.point.Notice.{Notice}
use Rattle.lane_steps.specs.LaneSizes.{lane_sizes}
use Rattle.lane_steps.specs.State.{Caller}
use Rattle.lane_steps.specs.Start.{IsCommand, first_point, batch_point, draft_of}
use Rattle.lane_rule.specs.Goes.{Ready}

row_inside : (key : Shape) (c n : ℕ) → c < key.callers → n < items_of key → 1 + c * own_rows_of key + n < rows_of key
row_inside key c n at below = own_row-lt key c n at (omega arith)

pub first_ready : (key : Shape) (c : ℕ) (k : Caller) (ops : List Op) → c < key.callers → IsCommand ops → Ready key c (first_point (lane_sizes key) c k ops)
first_ready key c k ops at is = let most = rows_within key in let row = row_inside key c 0 at (omega arith) in by ops is row (omega (arith, row, most)) where
  by : (ops : List Op) → IsCommand ops → 1 + c * own_rows_of key + 0 < rows_of key → 1 + c * own_rows_of key + 0 < 2 ^ 31 → Ready key c (first_point (lane_sizes key) c k ops)
  by [] is row few = let some = is.0 in absurd (omega (arith, some))
  by (Enq v ∷ []) some row few = record { word = row; rows = few; counts = tt; fits = tt }
  by (Deq ∷ []) some row few = record { word = tt; rows = tt; counts = tt; fits = tt }
  by (Shut ∷ []) is row few = absurd is.1
  by (op ∷ next ∷ ops) some row few = either (enqueue_count (op ∷ next ∷ ops) == 0) (draft_of c k (op ∷ next ∷ ops)) where
    either : (b : Bool) (n : Notice) → Ready key c (batch_point (lane_sizes key) c (op ∷ next ∷ ops) n b)
    either true n = record { word = tt; rows = tt; counts = tt; fits = tt }
    either false n = record { word = row; rows = few; counts = tt; fits = tt }
