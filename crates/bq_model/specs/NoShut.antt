-- Operations without a Shut. A Shut is a group of one.
use Rattle.std.specs.Prelude.{◌<◌, List, [], ◌∷◌, length, All}
use Rattle.bq_model.specs.declared.op.Op.{Op}
use Rattle.bq_model.specs.declared.op.Op.TheVariants.{Enq, Deq, Shut}
use Rattle.bq_model.specs.declared.group.Group.{Group}

abbrev pub NoShut : List Op → Type 0
NoShut [] = Unit {0}
NoShut (Enq v ∷ ops) = NoShut ops
NoShut (Deq ∷ ops) = NoShut ops
NoShut (Shut ∷ ops) = ⊥

-- beside other operations there is none
abbrev pub ShutAlone : List Op → Type 0
ShutAlone ops = 1 < length ops → NoShut ops

-- a history in which nothing was shut
abbrev pub NeverShut : List Group → Type 0
NeverShut h = All (λ g. NoShut g.ops) h
