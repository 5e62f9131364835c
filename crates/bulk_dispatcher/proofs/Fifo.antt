-- What went into a queue comes out in order: what was got and what is left are what there was and what was enqueued.
use Rattle.std.proofs.Common.{◌≡◌, ℕ, Bool, true, false, List, [], ◌∷◌, ◌++◌, refl, sym, ap, ◌∙◌}
use Rattle.std.proofs.lemmas.List.{append-nil}
use Rattle.bq_model.specs.declared.op.Op.{Op}
use Rattle.bq_model.specs.declared.op.Op.TheVariants.{Enq, Deq, Shut}
use Rattle.bq_model.specs.declared.op.Answer.{Answer}
use Rattle.bq_model.specs.declared.op.Answer.TheVariants.{Empty}
use Rattle.bq_model.specs.declared.group.Group.{Group}
use Rattle.bq_model.specs.Queue.{Queue, queue_of, unshut, queue_after}
use Rattle.bq_model.specs.Replay.{answers_from, queue_from}
use Rattle.bq_model.specs.History.{operations, answers_of, last_queue}
use Rattle.bq_model.specs.Values.{enqueued, got}
use Rattle.bq_model.proofs.OpenQueues.{open_at_last}
use Rattle.bq_model.proofs.Values.{in_and_out, all_enter}

-- Where nothing is left of an open queue, each value that was enqueued was got, in that order.
pub got_is_enqueued : (h : List Group) → last_queue h ≡ unshut [] → got (answers_of h) ≡ enqueued (operations h)
got_is_enqueued h e =
    sym (append-nil (got (answers_of h))) ∙ ap (λ (q : Queue). got (answers_of h) ++ q.values) (sym e) ∙ in_and_out (unshut []) (operations h)
    ∙ all_enter (operations h) (open_at_last (unshut []) (operations h) (ap (λ (q : Queue). q.shut) e))

-- A dequeue that found nothing leaves nothing.
after_empty : (b : Bool) (q : List ℕ) (ops : List Op) (found : List Answer) → answers_from (queue_of q b) ops ≡ found ++ Empty ∷ [] → (queue_from (queue_of q b) ops).values ≡ []
after_empty b q [] [] e = cc e
after_empty b q [] (a ∷ found) e = cc e
after_empty b q (op ∷ []) (a ∷ c ∷ found) e = cc e
after_empty b q (op ∷ []) (a ∷ []) e = cc e
after_empty true q (Enq v ∷ []) [] e = cc e
after_empty false q (Enq v ∷ []) [] e = cc e
after_empty b [] (Deq ∷ []) [] e = refl
after_empty b (v ∷ q) (Deq ∷ []) [] e = cc e
after_empty b q (Shut ∷ []) [] e = cc e
after_empty b q (op ∷ more ∷ ops) [] e = cc e
after_empty b q (op ∷ more ∷ ops) (a ∷ found) e = after_empty (queue_after (queue_of q b) op).shut (queue_after (queue_of q b) op).values (more ∷ ops) found (cc e)

pub nothing_after_empty : (q : Queue) (ops : List Op) (found : List Answer) → answers_from q ops ≡ found ++ Empty ∷ [] → (queue_from q ops).values ≡ []
nothing_after_empty q ops found e = after_empty q.shut q.values ops found e
