-- The values that operations enqueue, one operation after another.
use Rattle.std.proofs.Common.{◌≡◌, ℕ, ◌+◌, ◌<◌, ◌++◌, List, [], ◌∷◌, length, take, get_or, refl, sym, ap, ◌∙◌}
use Rattle.std.proofs.lemmas.List.{take_more}
use Rattle.bq_model.specs.Values.{enqueued}
use Rattle.bq_model.specs.declared.op.Op.{Op}
use Rattle.bq_model.specs.declared.op.Op.TheVariants.{Enq, Deq, Shut}

enqueued-push : (ops : List Op) (op : Op) → enqueued (ops ++ op ∷ []) ≡ enqueued ops ++ enqueued (op ∷ [])
enqueued-push [] op = refl
enqueued-push (Enq v ∷ ops) op = ap (λ (vs : List ℕ). v ∷ vs) (enqueued-push ops op)
enqueued-push (Deq ∷ ops) op = enqueued-push ops op
enqueued-push (Shut ∷ ops) op = enqueued-push ops op

-- the values of the operations so far, and of one more
pub next_put : (ops : List Op) (i : ℕ) (d : Op) (old new : List ℕ) → i < length ops → old ≡ enqueued (take i ops) → new ≡ old ++ enqueued (get_or ops i d ∷ []) → new ≡ enqueued (take (i + 1) ops)
next_put ops i d old new below was more = more ∙ (ap (λ (vs : List ℕ). vs ++ enqueued (get_or ops i d ∷ [])) was ∙ (sym (enqueued-push (take i ops) (get_or ops i d)) ∙ ap enqueued (sym (take_more ops i d below))))
