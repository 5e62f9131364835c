-- The operations of a unit.
use Rattle.std.specs.Prelude.{ℕ, ◌/◌, List, ◌∷◌, ◌++◌, length, map, replicate}
use Rattle.bq_model.specs.declared.op.Op.{Op}
use Rattle.bq_model.specs.declared.op.Op.TheVariants.{Enq, Deq}

-- what a hand makes of a unit: a dequeue, the enqueues of its jobs, and half as many dequeues
abbrev pub unit_ops : List ℕ → List Op
unit_ops numbers = Deq ∷ map Enq numbers ++ replicate (length numbers / 2) Deq
