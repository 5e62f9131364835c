-- Operations without a Shut, one after another.
use Rattle.std.proofs.Common.{◌≡◌, ℕ, zero, suc, ◌+◌, ◌<◌, Bool, true, false, List, [], ◌∷◌, length, drop, get_or, refl, sym, ap, ◌∙◌, arith}
use Rattle.bq_model.specs.declared.op.Op.{Op}
use Rattle.bq_model.specs.declared.op.Op.TheVariants.{Enq, Deq, Shut}
use Rattle.bq_model.specs.NoShut.{NoShut}
use Rattle.step_core.specs.Commands.{is_shut, none_shuts}

pub no_shut : (ops : List Op) → none_shuts ops ≡ true → NoShut ops
no_shut [] is = tt
no_shut (Enq v ∷ ops) is = no_shut ops is
no_shut (Deq ∷ ops) is = no_shut ops is
no_shut (Shut ∷ ops) is = absurd (cc is)

-- the next one is no Shut
ahead : (ops : List Op) (i : ℕ) (d : Op) → i < length ops → is_shut (get_or ops i d) ≡ false → none_shuts (drop (suc i) ops) ≡ none_shuts (drop i ops)
ahead [] i d below other = absurd (omega arith)
ahead (Enq v ∷ ops) zero d below other = refl
ahead (Deq ∷ ops) zero d below other = refl
ahead (Shut ∷ ops) zero d below other = absurd (cc other)
ahead (op ∷ ops) (suc i) d below other = ahead ops i d (omega arith) other

pub none_ahead : (ops : List Op) (i : ℕ) (d : Op) (all : Bool) → i < length ops → is_shut (get_or ops i d) ≡ false → none_shuts (drop i ops) ≡ all → none_shuts (drop (i + 1) ops) ≡ all
none_ahead ops i d all below other so_far = ap (λ (n : ℕ). none_shuts (drop n ops)) (let e : i + 1 ≡ suc i = omega arith in e) ∙ (ahead ops i d below other ∙ so_far)

-- or it is one
pub one_ahead : (ops : List Op) (i : ℕ) (d : Op) → i < length ops → is_shut (get_or ops i d) ≡ true → none_shuts (drop i ops) ≡ false
one_ahead [] i d below is = absurd (omega arith)
one_ahead (Enq v ∷ ops) zero d below is = absurd (cc is)
one_ahead (Deq ∷ ops) zero d below is = absurd (cc is)
one_ahead (Shut ∷ ops) zero d below is = refl
one_ahead (op ∷ ops) (suc i) d below is = one_ahead ops i d (omega arith) is

pub none_left : (ops : List Op) (n : ℕ) → n ≡ length ops → none_shuts (drop n ops) ≡ true
none_left [] zero at = refl
none_left [] (suc n) at = refl
none_left (op ∷ ops) zero at = absurd (omega arith)
none_left (op ∷ ops) (suc n) at = none_left ops n (omega arith)
