-- The counts of a batch that grows at its end.
use Rattle.std.proofs.Common.{◌≡◌, ℕ, ◌+◌, ◌-◌, max, List, [], ◌∷◌, ◌++◌, sym, ap, subst, ◌∙◌, arith}
use Rattle.bq_model.specs.declared.op.Op.{Op}
use Rattle.bq_model.specs.declared.op.Op.TheVariants.{Enq, Deq}
use Rattle.excess_count.specs.declared.counts.Counts.{Counts}
use Rattle.excess_count.specs.Counts.{counts_of}
use Rattle.excess_count.specs.Excess.{enqueue_count, dequeue_count, excess_of, IsExcess}
use Rattle.excess_count.proofs.ExcessLaws.{excess_of-nil, excess_of-push, enqueue_count-push, dequeue_count-push, IsExcess-excess_of}

abbrev pub counts : ℕ → ℕ → ℕ → Counts
counts e d x = record { enqs = e; deqs = d; excess = x }

pub same_counts : (c : Counts) (e d x : ℕ) → c.enqs ≡ e → c.deqs ≡ d → c.excess ≡ x → c ≡ counts e d x
same_counts c e d x p q r = ap (λ (n : ℕ). counts n c.deqs c.excess) p ∙ ap (λ (n : ℕ). counts e n c.excess) q ∙ ap (λ (n : ℕ). counts e d n) r

pub counts_of-nil : counts 0 0 0 ≡ counts_of []
counts_of-nil = ap (λ (n : ℕ). counts 0 0 n) (sym excess_of-nil)

-- one enqueue more
pub counts_of-push_enq : (old : Counts) (ops : List Op) (v : ℕ) → old ≡ counts_of ops → counts (old.enqs + 1) old.deqs (max old.excess (old.deqs - (old.enqs + 1))) ≡ counts_of (ops ++ Enq v ∷ [])
counts_of-push_enq old ops v e =
    let enqs : old.enqs ≡ enqueue_count ops = ap (λ (c : Counts). c.enqs) e in
    let deqs : old.deqs ≡ dequeue_count ops = ap (λ (c : Counts). c.deqs) e in
    let excess : old.excess ≡ excess_of ops = ap (λ (c : Counts). c.excess) e in
    let more_enqs = enqueue_count-push ops (Enq v) in
    let more_deqs = dequeue_count-push ops (Enq v) in
    let more_excess = excess_of-push ops (Enq v) in
    same_counts _ _ _ _ (omega arith) (omega arith) (omega arith)

-- one dequeue more
pub counts_of-push_deq : (old : Counts) (ops : List Op) → old ≡ counts_of ops → counts old.enqs (old.deqs + 1) (max old.excess (old.deqs + 1 - old.enqs)) ≡ counts_of (ops ++ Deq ∷ [])
counts_of-push_deq old ops e =
    let enqs : old.enqs ≡ enqueue_count ops = ap (λ (c : Counts). c.enqs) e in
    let deqs : old.deqs ≡ dequeue_count ops = ap (λ (c : Counts). c.deqs) e in
    let excess : old.excess ≡ excess_of ops = ap (λ (c : Counts). c.excess) e in
    let more_enqs = enqueue_count-push ops Deq in
    let more_deqs = dequeue_count-push ops Deq in
    let more_excess = excess_of-push ops Deq in
    same_counts _ _ _ _ (omega arith) (omega arith) (omega arith)

-- the same of the code's values: `mid` after the one count was raised
pub added_enq : (old mid : Counts) (op : Op) (v ahead most : ℕ) → op ≡ Enq v → mid ≡ counts (old.enqs + 1) old.deqs old.excess → ahead ≡ mid.deqs - mid.enqs → most ≡ max mid.excess ahead
    → (ops : List Op) → old ≡ counts_of ops → counts mid.enqs mid.deqs most ≡ counts_of (ops ++ op ∷ [])
added_enq old mid op v ahead most is raised lead top ops e =
    let enqs : mid.enqs ≡ old.enqs + 1 = ap (λ (c : Counts). c.enqs) raised in
    let deqs : mid.deqs ≡ old.deqs = ap (λ (c : Counts). c.deqs) raised in
    let excess : mid.excess ≡ old.excess = ap (λ (c : Counts). c.excess) raised in
    same_counts _ _ _ _ enqs deqs (omega arith) ∙ counts_of-push_enq old ops v e ∙ ap (λ (o : Op). counts_of (ops ++ o ∷ [])) (sym is)

pub added_deq : (old mid : Counts) (op : Op) (ahead most : ℕ) → op ≡ Deq → mid ≡ counts old.enqs (old.deqs + 1) old.excess → ahead ≡ mid.deqs - mid.enqs → most ≡ max mid.excess ahead
    → (ops : List Op) → old ≡ counts_of ops → counts mid.enqs mid.deqs most ≡ counts_of (ops ++ op ∷ [])
added_deq old mid op ahead most is raised lead top ops e =
    let enqs : mid.enqs ≡ old.enqs = ap (λ (c : Counts). c.enqs) raised in
    let deqs : mid.deqs ≡ old.deqs + 1 = ap (λ (c : Counts). c.deqs) raised in
    let excess : mid.excess ≡ old.excess = ap (λ (c : Counts). c.excess) raised in
    same_counts _ _ _ _ enqs deqs (omega arith) ∙ counts_of-push_deq old ops e ∙ ap (λ (o : Op). counts_of (ops ++ o ∷ [])) (sym is)

-- the excess of known counts
pub IsExcess-counted : (c : Counts) (ops : List Op) → c ≡ counts_of ops → IsExcess ops c.excess
IsExcess-counted c ops e = let P : Counts → Type 0 = λ x. IsExcess ops x.excess in subst P (sym e) (IsExcess-excess_of ops)
