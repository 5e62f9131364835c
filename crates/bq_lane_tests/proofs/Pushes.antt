-- Operations without a Shut, and one more.
use Rattle.std.proofs.Common.{◌≡◌, ℕ, List, [], ◌∷◌, ◌++◌, sym, subst}
use Rattle.bq_model.specs.declared.op.Op.{Op}
use Rattle.bq_model.specs.declared.op.Op.TheVariants.{Enq, Deq}
use Rattle.bq_model.specs.NoShut.{NoShut}
use Rattle.bq_model.proofs.NoShuts.{NoShut-append}

pub enqueue_pushed : (ops new : List Op) (v : ℕ) → NoShut ops → new ≡ ops ++ Enq v ∷ [] → NoShut new
enqueue_pushed ops new v none is = subst NoShut (sym is) (NoShut-append ops (Enq v ∷ []) none tt)

pub dequeue_pushed : (ops new : List Op) → NoShut ops → new ≡ ops ++ Deq ∷ [] → NoShut new
dequeue_pushed ops new none is = subst NoShut (sym is) (NoShut-append ops (Deq ∷ []) none tt)
