-- Operations without a Shut, and a Shut that stands alone, in lists that grow and shrink at their end.
use Rattle.std.proofs.Common.{◌≡◌, ◌≢◌, ◌<◌, ℕ, zero, suc, Option, Some, None, IfSome, IfNone, slice_index_or, List, [], ◌∷◌, ◌++◌, length, refl, sym, ap, subst, arith, length-append}
use Rattle.bq_model.specs.declared.op.Op.{Op}
use Rattle.bq_model.specs.declared.op.Op.TheVariants.{Enq, Deq, Shut}
use Rattle.bq_model.specs.NoShut.{NoShut, ShutAlone}

pub NoShut-append : (ops more : List Op) → NoShut ops → NoShut more → NoShut (ops ++ more)
NoShut-append [] more none rest = rest
NoShut-append (Enq v ∷ ops) more none rest = NoShut-append ops more none rest
NoShut-append (Deq ∷ ops) more none rest = NoShut-append ops more none rest
NoShut-append (Shut ∷ ops) more none rest = absurd none

pub NoShut-push : (ops : List Op) (op : Op) → NoShut ops → op ≢ Shut → NoShut (ops ++ op ∷ [])
NoShut-push ops (Enq v) none other = NoShut-append ops (Enq v ∷ []) none tt
NoShut-push ops Deq none other = NoShut-append ops (Deq ∷ []) none tt
NoShut-push ops Shut none other = absurd (other refl)

pub NoShut-front : (ops more : List Op) → NoShut (ops ++ more) → NoShut ops
NoShut-front [] more none = tt
NoShut-front (Enq v ∷ ops) more none = NoShut-front ops more none
NoShut-front (Deq ∷ ops) more none = NoShut-front ops more none
NoShut-front (Shut ∷ ops) more none = absurd none

pub NoShut-rest : (op : Op) (ops : List Op) → NoShut (op ∷ ops) → NoShut ops
NoShut-rest (Enq v) ops none = none
NoShut-rest Deq ops none = none
NoShut-rest Shut ops none = absurd none

-- what has none has none at any place
pub NoShut-index : (ops : List Op) (k : ℕ) (other : Op) → NoShut ops → k < length ops → slice_index_or ops k other ≡ Shut → ⊥
NoShut-index [] k other none inside is = absurd (omega (arith, inside))
NoShut-index (Enq v ∷ ops) zero other none inside is = cc is
NoShut-index (Deq ∷ ops) zero other none inside is = cc is
NoShut-index (Enq v ∷ ops) (suc k) other none inside is = NoShut-index ops k other none (omega (arith, inside)) is
NoShut-index (Deq ∷ ops) (suc k) other none inside is = NoShut-index ops k other none (omega (arith, inside)) is
NoShut-index (Shut ∷ ops) k other none inside is = absurd none

-- what has a Shut beside nothing, and one operation more that is no Shut, has none
only-push : (ops : List Op) (op : Op) → NoShut ops → (op ≡ Shut → ops ≡ []) → 1 < length (ops ++ op ∷ []) → NoShut (ops ++ op ∷ [])
only-push ops (Enq v) none first more = NoShut-append ops (Enq v ∷ []) none tt
only-push ops Deq none first more = NoShut-append ops (Deq ∷ []) none tt
only-push ops Shut none first more = let e = ap length (first refl) in let l = length-append ops (Shut ∷ []) in absurd (omega (arith, e, l, more))

pub alone-push : (ops new : List Op) (op : Op) → NoShut ops → (op ≡ Shut → ops ≡ []) → new ≡ ops ++ op ∷ [] → ShutAlone new
alone-push ops new op none first e = subst ShutAlone (sym e) (only-push ops op none first)

alone-front : (ops : List Op) (op : Op) → ShutAlone (ops ++ op ∷ []) → ShutAlone ops
alone-front ops op alone = λ more. NoShut-front ops (op ∷ []) (alone (let l = length-append ops (op ∷ []) in omega (arith, l, more)))

pub alone-pop : (old new : List Op) (popped : Option Op) → IfSome popped (λ op. old ≡ new ++ op ∷ []) → IfNone popped (new ≡ old) → ShutAlone old → ShutAlone new
alone-pop old new (Some op) last same alone = alone-front new op (subst ShutAlone last alone)
alone-pop old new None last same alone = subst ShutAlone (sym same) alone
