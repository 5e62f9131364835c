-- Which fault of a session is which refusal of the lane, and what is pending after a refusal.
use Rattle.std.proofs.Common.{◌≡◌, List, [], ◌∷◌, ◌++◌, Option, Some, None, IfSome, IsNone, IsErrOf, Err, refl, sym, ◌∙◌}
use Rattle.bq_model.specs.declared.op.Op.{Op}
use Rattle.bq_model.specs.declared.error.Refusal.{Refusal}
use Rattle.bq_model.specs.declared.error.Refusal.TheVariants as refusal
use Rattle.bq_session.specs.declared.error.PlainFault.TheVariants as fault
use Rattle.bq_session.specs.Faults.{plain_fault}

pub spent_is : (r : Refusal) → plain_fault r ≡ fault.Spent → r ≡ refusal.Spent
spent_is refusal.Spent e = refl
spent_is refusal.Full e = cc e

pub full_is : (r : Refusal) → plain_fault r ≡ fault.Full → r ≡ refusal.Full
full_is refusal.Spent e = cc e
full_is refusal.Full e = refl

pub never_batch_full : (r : Refusal) → plain_fault r ≡ fault.BatchFull → ⊥
never_batch_full refusal.Spent e = cc e
never_batch_full refusal.Full e = cc e

no_end : {X : Type 0} (xs : List X) (x : X) → xs ++ x ∷ [] ≡ [] → ⊥
no_end [] x e = cc e
no_end (y ∷ xs) x e = cc e

front : {X : Type 0} (xs ys : List X) (x y : X) → xs ++ x ∷ [] ≡ ys ++ y ∷ [] → xs ≡ ys
front [] [] x y e = refl
front [] (z ∷ ys) x y e = absurd (no_end ys y (cc e))
front (z ∷ xs) [] x y e = absurd (no_end xs x (cc e))
front (z ∷ xs) (w ∷ ys) x y e = (let rest : xs ≡ ys = front xs ys x y (cc e) in cc (e, rest))

-- what was pushed last is popped
pub popped : (r : Option Op) (old pushed new : List Op) (op : Op) → pushed ≡ old ++ op ∷ [] → (IsNone r → pushed ≡ []) → IfSome r (λ item. pushed ≡ new ++ item ∷ []) → new ≡ old
popped None old pushed new op is none some = absurd (no_end old op (sym is ∙ none refl))
popped (Some item) old pushed new op is none some = front new old item op (sym some ∙ is)

pub fault_is : {T E : Type 0} (a b : E) → IsErrOf {T = T} (Err a) b → a ≡ b
fault_is a b is = cc is
