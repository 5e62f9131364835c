-- Laws of the excess: it is the greatest over the prefixes, and it can be counted from either end.
use Rattle.std.proofs.Common.{◌≡◌, ℕ, zero, suc, ◌+◌, ◌-◌, ◌≤◌, inl, inr, max, List, [], ◌∷◌, ◌++◌, length, map, take, refl, ap, arith, cond}
use Rattle.std.proofs.Math.Nat.{le-max_left}
use Rattle.std.proofs.lemmas.List.Sums.{sum_by-cons, sum_by_push}
use Rattle.std.proofs.lemmas.Bool.{cases_lt}
use Rattle.bq_model.specs.declared.op.Op.{Op}
use Rattle.bq_model.specs.declared.op.Op.TheVariants.{Enq, Deq, Shut}
use Rattle.bq_model.specs.NoShut.{NoShut}
use Rattle.excess_count.specs.Excess.{is_enqueue, is_dequeue, enqueue_count, dequeue_count, lead_of, prefixes, greatest, excess_of, IsExcess}

-- the counts, step by step
pub enqueue_count-enq : (v : ℕ) (ops : List Op) → enqueue_count (Enq v ∷ ops) ≡ enqueue_count ops + 1
enqueue_count-enq v ops = let e = sum_by-cons (λ (x : Op). cond (is_enqueue x) 1 0) (Enq v) ops in omega (arith, e)

pub enqueue_count-deq : (ops : List Op) → enqueue_count (Deq ∷ ops) ≡ enqueue_count ops
enqueue_count-deq ops = let e = sum_by-cons (λ (x : Op). cond (is_enqueue x) 1 0) Deq ops in omega (arith, e)

pub dequeue_count-enq : (v : ℕ) (ops : List Op) → dequeue_count (Enq v ∷ ops) ≡ dequeue_count ops
dequeue_count-enq v ops = let e = sum_by-cons (λ (x : Op). cond (is_dequeue x) 1 0) (Enq v) ops in omega (arith, e)

pub dequeue_count-deq : (ops : List Op) → dequeue_count (Deq ∷ ops) ≡ dequeue_count ops + 1
dequeue_count-deq ops = let e = sum_by-cons (λ (x : Op). cond (is_dequeue x) 1 0) Deq ops in omega (arith, e)

map-map : (f : List Op → ℕ) (g : List Op → List Op) (xs : List (List Op)) → map f (map g xs) ≡ map (λ (x : List Op). f (g x)) xs
map-map f g [] = refl
map-map f g (x ∷ xs) = ap (λ ns. f (g x) ∷ ns) (map-map f g xs)

-- no prefix passes the greatest
greatest-covers : (f : List Op → ℕ) (ops : List Op) (k : ℕ) → f (take k ops) ≤ greatest (map f (prefixes ops))
greatest-covers f [] zero = le-max_left (f []) 0
greatest-covers f [] (suc k) = le-max_left (f []) 0
greatest-covers f (op ∷ ops) zero = le-max_left (f []) (greatest (map f (map (λ (p : List Op). op ∷ p) (prefixes ops))))
greatest-covers f (op ∷ ops) (suc k) =
    let e = ap greatest (map-map f (λ (p : List Op). op ∷ p) (prefixes ops)) in
    let covered = greatest-covers (λ (p : List Op). f (op ∷ p)) ops k in
    omega arith

-- some prefix reaches it
greatest-reached : (f : List Op → ℕ) (ops : List Op) → (k : ℕ) × (f (take k ops) ≡ greatest (map f (prefixes ops)))
greatest-reached f [] = (0, omega arith)
greatest-reached f (op ∷ ops) =
    let e = ap greatest (map-map f (λ (p : List Op). op ∷ p) (prefixes ops)) in
    let rest = greatest-reached (λ (p : List Op). f (op ∷ p)) ops in
    let at = rest.1 in
    elim (cases_lt (f []) (greatest (map f (map (λ (p : List Op). op ∷ p) (prefixes ops))))) [
      | inl h ↦ (suc rest.0, omega arith)
      | inr h ↦ (0, omega arith)
    ]

pub IsExcess-excess_of : (ops : List Op) → IsExcess ops (excess_of ops)
unfolding excess_of
IsExcess-excess_of ops =
    let at = greatest-reached lead_of ops in
    let reached = at.1 in
    record {
      never_passed = λ k. let covered = greatest-covers lead_of ops k in omega arith;
      reached = elim (cases_lt 0 (excess_of ops)) [ inl some ↦ (at.0, omega arith) | inr none ↦ (0, omega arith) ];
    }

-- there is one
pub IsExcess-unique : (ops : List Op) (x y : ℕ) → IsExcess ops x → IsExcess ops y → x ≡ y
IsExcess-unique ops x y p q =
    let px = p.reached in
    let qy = q.reached in
    let a = px.1 in
    let b = qy.1 in
    let c = q.never_passed px.0 in
    let d = p.never_passed qy.0 in
    omega arith

-- one dequeue more in front
pub excess_of-deq : (ops : List Op) → excess_of (Deq ∷ ops) ≡ excess_of ops + 1
excess_of-deq ops = IsExcess-unique (Deq ∷ ops) _ _ (IsExcess-excess_of (Deq ∷ ops)) (deq ops (excess_of ops) (IsExcess-excess_of ops))
  where
    never : (ops : List Op) (x : ℕ) → IsExcess ops x → (k : ℕ) → dequeue_count (take k (Deq ∷ ops)) ≤ enqueue_count (take k (Deq ∷ ops)) + (x + 1)
    never ops x p zero = omega arith
    never ops x p (suc k) = let h = p.never_passed k in omega (arith, enqueue_count-deq (take k ops), dequeue_count-deq (take k ops))

    deq : (ops : List Op) (x : ℕ) → IsExcess ops x → IsExcess (Deq ∷ ops) (x + 1)
    deq ops x p =
        let at = p.reached in
        let h = at.1 in
        record { never_passed = never ops x p; reached = (suc at.0, omega (arith, enqueue_count-deq (take at.0 ops), dequeue_count-deq (take at.0 ops))) }

-- a Shut in front counts for nothing
pub enqueue_count-shut : (ops : List Op) → enqueue_count (Shut ∷ ops) ≡ enqueue_count ops
enqueue_count-shut ops = let e = sum_by-cons (λ (x : Op). cond (is_enqueue x) 1 0) Shut ops in omega (arith, e)

pub dequeue_count-shut : (ops : List Op) → dequeue_count (Shut ∷ ops) ≡ dequeue_count ops
dequeue_count-shut ops = let e = sum_by-cons (λ (x : Op). cond (is_dequeue x) 1 0) Shut ops in omega (arith, e)

pub excess_of-shut : (ops : List Op) → excess_of (Shut ∷ ops) ≡ excess_of ops
excess_of-shut ops = IsExcess-unique (Shut ∷ ops) _ _ (IsExcess-excess_of (Shut ∷ ops)) (same ops (excess_of ops) (IsExcess-excess_of ops))
  where
    never : (ops : List Op) (x : ℕ) → IsExcess ops x → (k : ℕ) → dequeue_count (take k (Shut ∷ ops)) ≤ enqueue_count (take k (Shut ∷ ops)) + x
    never ops x p zero = omega arith
    never ops x p (suc k) = let h = p.never_passed k in omega (arith, enqueue_count-shut (take k ops), dequeue_count-shut (take k ops))

    same : (ops : List Op) (x : ℕ) → IsExcess ops x → IsExcess (Shut ∷ ops) x
    same ops x p =
        let at = p.reached in
        let h = at.1 in
        record { never_passed = never ops x p; reached = (suc at.0, omega (arith, enqueue_count-shut (take at.0 ops), dequeue_count-shut (take at.0 ops))) }

-- one enqueue more in front
pub excess_of-enq : (v : ℕ) (ops : List Op) → excess_of (Enq v ∷ ops) ≡ excess_of ops - 1
excess_of-enq v ops = IsExcess-unique (Enq v ∷ ops) _ _ (IsExcess-excess_of (Enq v ∷ ops)) (enq v ops (excess_of ops) (IsExcess-excess_of ops))
  where
    never : (v : ℕ) (ops : List Op) (x : ℕ) → IsExcess ops x → (k : ℕ) → dequeue_count (take k (Enq v ∷ ops)) ≤ enqueue_count (take k (Enq v ∷ ops)) + (x - 1)
    never v ops x p zero = omega arith
    never v ops x p (suc k) = let h = p.never_passed k in omega (arith, enqueue_count-enq v (take k ops), dequeue_count-enq v (take k ops))

    enq : (v : ℕ) (ops : List Op) (x : ℕ) → IsExcess ops x → IsExcess (Enq v ∷ ops) (x - 1)
    enq v ops x p =
        let at = p.reached in
        let h = at.1 in
        record {
          never_passed = never v ops x p;
          reached = elim (cases_lt 0 x) [ inl some ↦ (suc at.0, omega (arith, enqueue_count-enq v (take at.0 ops), dequeue_count-enq v (take at.0 ops))) | inr none ↦ (0, omega arith) ];
        }

pub excess_of-nil : excess_of [] ≡ 0
unfolding excess_of
excess_of-nil = refl

-- the excess is no more than the dequeues
pub excess_of-le : (ops : List Op) → excess_of ops ≤ dequeue_count ops
excess_of-le [] = let e = excess_of-nil in omega arith
excess_of-le (Enq v ∷ ops) = let e = excess_of-enq v ops in let h = excess_of-le ops in omega (arith, dequeue_count-enq v ops)
excess_of-le (Shut ∷ ops) = let e = excess_of-shut ops in let h = excess_of-le ops in omega (arith, dequeue_count-shut ops)
excess_of-le (Deq ∷ ops) = let e = excess_of-deq ops in let h = excess_of-le ops in omega (arith, dequeue_count-deq ops)

pub enqueue_count-push : (ops : List Op) (op : Op) → enqueue_count (ops ++ op ∷ []) ≡ enqueue_count ops + cond (is_enqueue op) 1 0
enqueue_count-push ops op = sum_by_push (λ (x : Op). cond (is_enqueue x) 1 0) ops op

pub dequeue_count-push : (ops : List Op) (op : Op) → dequeue_count (ops ++ op ∷ []) ≡ dequeue_count ops + cond (is_dequeue op) 1 0
dequeue_count-push ops op = sum_by_push (λ (x : Op). cond (is_dequeue x) 1 0) ops op

-- one operation more at the end: the running maximum
pub excess_of-push : (ops : List Op) (op : Op) → excess_of (ops ++ op ∷ []) ≡ max (excess_of ops) (lead_of (ops ++ op ∷ []))
excess_of-push [] (Enq v) = let e = excess_of-enq v [] in let f = excess_of-nil in omega arith
excess_of-push [] Deq = let e = excess_of-deq [] in let f = excess_of-nil in omega arith
excess_of-push [] Shut = let e = excess_of-shut [] in let f = excess_of-nil in omega arith
excess_of-push (Enq v ∷ ops) op =
    let e = excess_of-enq v (ops ++ op ∷ []) in
    let f = excess_of-enq v ops in
    let h = excess_of-push ops op in
    omega (arith, enqueue_count-enq v (ops ++ op ∷ []), dequeue_count-enq v (ops ++ op ∷ []))
excess_of-push (Deq ∷ ops) op =
    let e = excess_of-deq (ops ++ op ∷ []) in
    let f = excess_of-deq ops in
    let h = excess_of-push ops op in
    omega (arith, enqueue_count-deq (ops ++ op ∷ []), dequeue_count-deq (ops ++ op ∷ []))
excess_of-push (Shut ∷ ops) op =
    let e = excess_of-shut (ops ++ op ∷ []) in
    let f = excess_of-shut ops in
    let h = excess_of-push ops op in
    omega (arith, enqueue_count-shut (ops ++ op ∷ []), dequeue_count-shut (ops ++ op ∷ []))

-- each operation of a batch is an enqueue or a dequeue
pub count-ops : (ops : List Op) → NoShut ops → enqueue_count ops + dequeue_count ops ≡ length ops
count-ops [] none = refl
count-ops (Enq v ∷ ops) none = let h = count-ops ops none in omega (arith, enqueue_count-enq v ops, dequeue_count-enq v ops)
count-ops (Deq ∷ ops) none = let h = count-ops ops none in omega (arith, enqueue_count-deq ops, dequeue_count-deq ops)
count-ops (Shut ∷ ops) none = absurd none

pub NoShut-take : (ops : List Op) (k : ℕ) → NoShut ops → NoShut (take k ops)
NoShut-take ops zero none = tt
NoShut-take [] (suc k) none = tt
NoShut-take (Enq v ∷ ops) (suc k) none = NoShut-take ops k none
NoShut-take (Deq ∷ ops) (suc k) none = NoShut-take ops k none
NoShut-take (Shut ∷ ops) (suc k) none = absurd none
