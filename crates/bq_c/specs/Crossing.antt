-- What operations and answers of C mean, and what a batch of them did.
use Rattle.std.specs.Prelude.{◌≡◌, ◌⊎◌, ℕ, zero, suc, List, map, All}
use Rattle.bq_model.specs.declared.op.Op.{Op}
use Rattle.bq_model.specs.declared.op.Op.TheVariants.{Enq, Deq}
use Rattle.bq_model.specs.declared.op.Answer.{Answer}
use Rattle.bq_model.specs.declared.op.Answer.TheVariants.{Done, Got, Empty, Refused}
use Rattle.bq_model.specs.Grows.{the_caller, Grew}
use Rattle.bq_lane.specs.Pass.{PassState}
use Rattle.bq_c.specs.declared.crossing.BqOp.{BqOp}
use Rattle.bq_c.specs.declared.crossing.BqAnswer.{BqAnswer}

abbrev pub IsKnown : BqOp → Type 0
IsKnown op = (op.kind ≡ 1) ⊎ (op.kind ≡ 2)

-- kind 1 appends the value, and any other that is known takes the first one
abbrev pub by_kind : ℕ → ℕ → Op
by_kind zero value = Deq
by_kind (suc zero) value = Enq value
by_kind (suc (suc k)) value = Deq

abbrev pub op_of : BqOp → Op
op_of op = by_kind op.kind op.value

abbrev pub crossed_answer : Answer → BqAnswer
crossed_answer Done = record { kind = 0; value = 0 }
crossed_answer (Got value) = record { kind = 1; value = value }
crossed_answer Empty = record { kind = 2; value = 0 }
crossed_answer Refused = record { kind = 3; value = 0 }

-- The caller of the pass made these operations, each of a known kind, as one group, and the answers that they got are written.
pub record Applied (ops : List BqOp) (answers : List BqAnswer) (old new : PassState) : Type 0 where
  pub known : All IsKnown ops
  pub given : List Answer
  pub grew : Grew (the_caller old.callers) (map op_of ops) given old.seen new.seen
  pub written : answers ≡ map crossed_answer given
