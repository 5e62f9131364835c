-- What nothing shut stays open, and an open queue refuses nothing.
use Rattle.std.proofs.Common.{◌≡◌, ◌≢◌, ℕ, zero, suc, Bool, true, false, List, [], ◌∷◌, ◌++◌, get_or, All, refl, sym, ap, subst, ◌∙◌}
use Rattle.std.proofs.lemmas.List.Elements.{All-nil, All-cons, All-head, All-tail}
use Rattle.bq_model.specs.declared.op.Op.{Op}
use Rattle.bq_model.specs.declared.op.Op.TheVariants.{Enq, Deq, Shut}
use Rattle.bq_model.specs.declared.op.Answer.{Answer}
use Rattle.bq_model.specs.declared.op.Answer.TheVariants.{Done, Got, Empty, Refused}
use Rattle.bq_model.specs.declared.group.Group.{Group}
use Rattle.bq_model.specs.Queue.{Queue, queue_of, unshut, rest_of, queue_after}
use Rattle.bq_model.specs.Replay.{answers_from, queue_from}
use Rattle.bq_model.specs.History.{operations, last_queue}
use Rattle.bq_model.specs.NoShut.{NoShut, NeverShut}
use Rattle.bq_model.proofs.NoShuts.{NoShut-append}

-- the flag stays where nothing shuts the queue
pub shut_stays : (q : Queue) (ops : List Op) → NoShut ops → (queue_from q ops).shut ≡ q.shut
shut_stays q [] none = refl
shut_stays q (Enq v ∷ ops) none = shut_stays (queue_after q (Enq v)) ops none
shut_stays q (Deq ∷ ops) none = shut_stays (queue_after q Deq) ops none
shut_stays q (Shut ∷ ops) none = absurd none

-- and a queue that is open at last was never shut
stays_shut : (values : List ℕ) (ops : List Op) → (queue_from (queue_of values true) ops).shut ≡ true
stays_shut values [] = refl
stays_shut values (Enq v ∷ ops) = stays_shut values ops
stays_shut values (Deq ∷ ops) = stays_shut (rest_of values) ops
stays_shut values (Shut ∷ ops) = stays_shut values ops

pub open_at_last : (q : Queue) (ops : List Op) → (queue_from q ops).shut ≡ false → NoShut ops
open_at_last q [] off = tt
open_at_last q (Enq v ∷ ops) off = open_at_last (queue_after q (Enq v)) ops off
open_at_last q (Deq ∷ ops) off = open_at_last (queue_after q Deq) ops off
open_at_last q (Shut ∷ ops) off = (let both : true ≡ false = sym (stays_shut q.values ops) ∙ off in cc both)

pub NoShut-operations : (h : List Group) → NeverShut h → NoShut (operations h)
NoShut-operations [] never = tt
NoShut-operations (g ∷ h) never = NoShut-append g.ops (operations h) (All-head (λ (x : Group). NoShut x.ops) g h never) (NoShut-operations h (All-tail (λ (x : Group). NoShut x.ops) g h never))

-- so the last queue of a history in which nothing was shut is open
pub stays_open : (h : List Group) → NeverShut h → (last_queue h).shut ≡ false
stays_open h never = shut_stays (unshut []) (operations h) (NoShut-operations h never)

pub NeverShut-front : (h more : List Group) → NeverShut (h ++ more) → NeverShut h
NeverShut-front [] more never = All-nil (λ (x : Group). NoShut x.ops)
NeverShut-front (g ∷ h) more never =
    All-cons (λ (x : Group). NoShut x.ops) g h (All-head (λ (x : Group). NoShut x.ops) g (h ++ more) never) (NeverShut-front h more (All-tail (λ (x : Group). NoShut x.ops) g (h ++ more) never))

pub NeverShut-back : (h more : List Group) → NeverShut (h ++ more) → NeverShut more
NeverShut-back [] more never = never
NeverShut-back (g ∷ h) more never = NeverShut-back h more (All-tail (λ (x : Group). NoShut x.ops) g (h ++ more) never)

-- an open queue refuses none of these operations
accepts : (values : List ℕ) (ops : List Op) → NoShut ops → All (λ answer. answer ≢ Refused) (answers_from (unshut values) ops)
accepts values [] none = All-nil (λ (x : Answer). x ≢ Refused)
accepts values (Enq v ∷ ops) none = All-cons (λ (x : Answer). x ≢ Refused) Done (answers_from (unshut (values ++ v ∷ [])) ops) (λ e. cc e) (accepts (values ++ v ∷ []) ops none)
accepts [] (Deq ∷ ops) none = All-cons (λ (x : Answer). x ≢ Refused) Empty (answers_from (unshut []) ops) (λ e. cc e) (accepts [] ops none)
accepts (v ∷ values) (Deq ∷ ops) none = All-cons (λ (x : Answer). x ≢ Refused) (Got v) (answers_from (unshut values) ops) (λ e. cc e) (accepts values ops none)
accepts values (Shut ∷ ops) none = absurd none

pub none_refused : (q : Queue) (ops : List Op) → q.shut ≡ false → NoShut ops → All (λ answer. answer ≢ Refused) (answers_from q ops)
none_refused q ops off none =
    let P : Bool → Type 0 = λ b. All (λ answer. answer ≢ Refused) (answers_from (queue_of q.values b) ops) in subst P (sym off) (accepts q.values ops none)

-- and so the answer at any place is another one
pub accepted-at : (answers : List Answer) (place : ℕ) → All (λ answer. answer ≢ Refused) answers → get_or answers place Done ≢ Refused
accepted-at [] place all = λ e. cc e
accepted-at (a ∷ answers) zero all = All-head (λ (x : Answer). x ≢ Refused) a answers all
accepted-at (a ∷ answers) (suc place) all = accepted-at answers place (All-tail (λ (x : Answer). x ≢ Refused) a answers all)
