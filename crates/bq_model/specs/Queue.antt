-- The queue of a single thread: its values, the first one first, and whether it is shut.
use Rattle.std.specs.Prelude.{ℕ, Bool, true, false, List, [], ◌∷◌, ◌++◌}
use Rattle.bq_model.specs.declared.op.Op.{Op}
use Rattle.bq_model.specs.declared.op.Op.TheVariants.{Enq, Deq, Shut}
use Rattle.bq_model.specs.declared.op.Answer.{Answer}
use Rattle.bq_model.specs.declared.op.Answer.TheVariants.{Done, Got, Empty, Refused}

pub record Queue : Type 0 where
  pub values : List ℕ
  pub shut : Bool

abbrev pub queue_of : List ℕ → Bool → Queue
queue_of q b = record { values = q; shut = b }

-- a queue that isn't shut
abbrev pub unshut : List ℕ → Queue
unshut q = queue_of q false

-- the values after an enqueue on a queue that is shut, or isn't
abbrev pub put_in : Bool → List ℕ → ℕ → List ℕ
put_in true q v = q
put_in false q v = q ++ v ∷ []

abbrev pub put_answer : Bool → Answer
put_answer true = Refused
put_answer false = Done

abbrev pub rest_of : List ℕ → List ℕ
rest_of [] = []
rest_of (v ∷ q) = q

abbrev pub got_of : List ℕ → Answer
got_of [] = Empty
got_of (v ∷ q) = Got v

-- what an operation leaves in the queue
abbrev pub queue_after : Queue → Op → Queue
queue_after q (Enq v) = queue_of (put_in q.shut q.values v) q.shut
queue_after q Deq = queue_of (rest_of q.values) q.shut
queue_after q Shut = queue_of q.values true

-- what an operation answers on the queue
abbrev pub answer_at_queue : Queue → Op → Answer
answer_at_queue q (Enq v) = put_answer q.shut
answer_at_queue q Deq = got_of q.values
answer_at_queue q Shut = Done
