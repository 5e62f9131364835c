use Rattle.std.proofs.Common.{Bool, take, ◌+◌, ◌∷◌, ap, sym, ◌∙◌}
use Rattle.bq_model.specs.declared.op.Op.{Op}
use Rattle.bq_model.specs.declared.op.Answer.TheVariants.{Done}
use Rattle.bq_model.specs.Queue.{queue_of}
use Rattle.bq_model.specs.Replay.{answers_from}
use Rattle.bq_model.specs.Values.{enqueued}
use Rattle.bq_model.proofs.ComingLemmas.{enqueued_follows, answers_from-enq}
use Rattle.bq_model.proofs.judge.Replay.next_answer.Goals as goal

pub invariant_of-self-in-Enq-2 : goal.invariant_of-self-in-Enq-2
invariant_of-self-in-Enq-2 c =
    let e = c.in_ok-next.ensures ∙ ap (λ (op : Op). op ∷ c.next.new.self) c.in-Enq-2.is in
    let f = enqueued_follows _ _ _ _ _ (c.self.invariant.1 c.if-self.false) e in
    (f.inside, λ _. f.rest)

pub returns-in-Enq-2-clause-answer : goal.returns-in-Enq-2-clause-answer
returns-in-Enq-2-clause-answer c =
    let s = c.self.inside in
    let e = c.in_ok-next.ensures ∙ ap (λ (op : Op). op ∷ c.next.new.self) c.in-Enq-2.is in
    rw (← c.self.view_is)
    (ap (λ (b : Bool). answers_from (queue_of (take s.queued (enqueued s.values)) b) s.coming) c.if-self.false
    ∙ (answers_from-enq _ _ _ _ _ (c.self.invariant.1 c.if-self.false) e
    ∙ ap (λ (b : Bool). Done ∷ answers_from (queue_of (take (s.queued + 1) (enqueued s.values)) b) c.next.new.self) (sym c.if-self.false)))
