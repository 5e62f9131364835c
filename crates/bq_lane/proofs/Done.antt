-- On a lane that nothing has shut an enqueue is done.
use Rattle.std.proofs.Common.{◌≡◌, ℕ, List, [], ◌∷◌, ◌++◌, false, ap, sym, subst, ◌∙◌, Result, Ok, Err}
use Rattle.std.specs.Result.{OnOk}
use Rattle.bq_model.specs.declared.op.Op.TheVariants.{Enq}
use Rattle.bq_model.specs.declared.op.Answer.{Answer}
use Rattle.bq_model.specs.declared.op.Answer.TheVariants.{Done}
use Rattle.bq_model.specs.declared.group.Group.{Group}
use Rattle.bq_model.specs.Queue.{put_answer}
use Rattle.bq_model.specs.History.{last_queue}
use Rattle.bq_model.specs.Grows.{Grew}
use Rattle.bq_model.specs.NoShut.{NeverShut}
use Rattle.bq_model.specs.Own.{next_group}
use Rattle.bq_model.proofs.OpenQueues.{stays_open, NeverShut-front}

pub enqueue_is_done : (c v : ℕ) (xs : List Answer) (old new : List Group) → NeverShut new → Grew c (Enq v ∷ []) xs old new → Grew c (Enq v ∷ []) (Done ∷ []) old new
enqueue_is_done c v xs old new never g = subst (λ (ys : List Answer). Grew c (Enq v ∷ []) ys old new) (g.answered ∙ ap (λ b. put_answer b ∷ []) open_there) g where
  open_there : (last_queue (old ++ g.between)).shut ≡ false
  open_there = stays_open (old ++ g.between) (NeverShut-front (old ++ g.between) (next_group old c (Enq v ∷ []) ∷ g.after) (subst NeverShut g.grown never))

-- what follows where it went well
pub on_ok : {T E : Type 0} (r : Result T E) {P Q : Type 0} → (P → Q) → OnOk r P → OnOk r Q
on_ok (Ok v) f p = f p
on_ok (Err e) f p = tt
