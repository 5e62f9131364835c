-- One call of a hand, and what it did so far.
use Rattle.std.proofs.Common.{◌≡◌, ℕ, zero, suc, ◌+◌, cond, List, [], ◌∷◌, ◌++◌, length, map, replicate, ◌/◌, refl, sym, ap, subst, ◌∙◌, arith, ne_eqb, length-append, add-zero, zero-add, All, Contains, inl, inr}
use Rattle.std.specs.List.{flat_map}
use Rattle.std.proofs.lemmas.Bool.{cases_eq}
use Rattle.std.proofs.lemmas.Grind.{flat_map-append}
use Rattle.std.proofs.lemmas.List.{append-nil}
use Rattle.std.proofs.lemmas.List.Elements.{All-push, All-weaker, Contains-append_left, Contains-push}
use Rattle.bq_model.specs.declared.op.Op.{Op}
use Rattle.bq_model.specs.declared.op.Op.TheVariants.{Enq, Deq}
use Rattle.bq_model.specs.declared.op.Answer.{Answer}
use Rattle.bq_model.specs.declared.op.Answer.TheVariants.{Done, Got, Empty, Refused}
use Rattle.bq_model.specs.declared.group.Group.{Group}
use Rattle.bq_model.specs.Queue.{Queue, unshut}
use Rattle.bq_model.specs.Replay.{answers_from, queue_from}
use Rattle.bq_model.specs.History.{operations, last_queue}
use Rattle.bq_model.specs.Own.{mine, next_group}
use Rattle.bq_model.proofs.Histories.{operations-push}
use Rattle.bulk_dispatcher.specs.Books.{Numbered, StandTogether}
use Rattle.bulk_dispatcher.specs.Hands.{answers_to, caught_from, caught, EndedEmpty, HandPut, HandDid}
use Rattle.bq_model.specs.Grows.{Grew, SawMore}
use Rattle.bulk_dispatcher.specs.UnitOps.{unit_ops}
use Rattle.bq_model.proofs.Growing.{mine-own, others_later, others_around}
use Rattle.bulk_dispatcher.proofs.EachOnce.{enqueued-append}
use Rattle.bulk_dispatcher.proofs.Catches.{length-answers_from}
use Rattle.bulk_dispatcher.proofs.Grows.{answers_in, answers_to-append, answers_in-own, answers_in-other, answers_in-none, caught-later}
use Rattle.bq_model.specs.Values.{enqueued}

-- as many answers as operations of the caller
pub length-answers_in : (q : Queue) (h : List Group) (c : ℕ) → length (answers_in q h c) ≡ length (operations (mine h c))
length-answers_in q [] c = refl
length-answers_in q (g ∷ h) c =
    elim (cases_eq g.caller c) [
      | inl same ↦
          ap length (answers_in-own q g h c same) ∙ length-append (answers_from q g.ops) (answers_in (queue_from q g.ops) h c)
          ∙ ap (λ k. k + length (answers_in (queue_from q g.ops) h c)) (length-answers_from q g.ops) ∙ ap (λ k. length g.ops + k) (length-answers_in (queue_from q g.ops) h c)
          ∙ sym (length-append g.ops (operations (mine h c))) ∙ ap (λ gs. length (operations gs)) (sym (mine-own g h c same))
      | inr other ↦
          ap length (answers_in-other q g h c other) ∙ length-answers_in (queue_from q g.ops) h c
          ∙ ap (λ b. length (operations (cond b (g ∷ mine h c) (mine h c)))) (sym (ne_eqb g.caller c other))
    ]

pub caught_from-append : (n : ℕ) (xs ys : List Answer) → caught_from n (xs ++ ys) ≡ caught_from n xs ++ caught_from (n + length xs) ys
caught_from-append n [] ys = ap (λ k. caught_from k ys) (sym (add-zero n))
caught_from-append n (Done ∷ xs) ys = caught_from-append (n + 1) xs ys ∙ ap (λ k. caught_from (n + 1) xs ++ caught_from k ys) (omega arith)
caught_from-append n (Got v ∷ xs) ys = ap (λ cs. record { serial = n; value = v } ∷ cs) (caught_from-append (n + 1) xs ys ∙ ap (λ k. caught_from (n + 1) xs ++ caught_from k ys) (omega arith))
caught_from-append n (Empty ∷ xs) ys = caught_from-append (n + 1) xs ys ∙ ap (λ k. caught_from (n + 1) xs ++ caught_from k ys) (omega arith)
caught_from-append n (Refused ∷ xs) ys = caught_from-append (n + 1) xs ys ∙ ap (λ k. caught_from (n + 1) xs ++ caught_from k ys) (omega arith)

-- The answers to a caller grow by those to its group.
pub answers_to-grew : (c : ℕ) (ops : List Op) (answers : List Answer) (old new : List Group) → Grew c ops answers old new → answers_to new c ≡ answers_to old c ++ answers
answers_to-grew c ops answers old new g =
    let around = others_around c ops answers old new g in
    let before : answers_to (old ++ g.between) c ≡ answers_to old c =
    answers_to-append old g.between c ∙ ap (λ xs. answers_to old c ++ xs) (answers_in-none (last_queue old) g.between c around.0) ∙ append-nil (answers_to old c) in
    let here : answers_in (last_queue (old ++ g.between)) (next_group old c ops ∷ g.after) c ≡ answers =
    answers_in-own (last_queue (old ++ g.between)) (next_group old c ops) g.after c refl
    ∙ ap (λ xs. answers_from (last_queue (old ++ g.between)) ops ++ xs) (answers_in-none (queue_from (last_queue (old ++ g.between)) ops) g.after c around.1)
    ∙ append-nil (answers_from (last_queue (old ++ g.between)) ops) ∙ sym g.answered in
    ap (λ h. answers_to h c) g.grown ∙ answers_to-append (old ++ g.between) (next_group old c ops ∷ g.after) c
    ∙ ap (λ xs. xs ++ answers_in (last_queue (old ++ g.between)) (next_group old c ops ∷ g.after) c) before ∙ ap (λ xs. answers_to old c ++ xs) here

-- What a caller caught grows by what its group caught.
pub caught-grew : (c : ℕ) (ops : List Op) (answers : List Answer) (old new : List Group) → Grew c ops answers old new → caught new c ≡ caught old c ++ caught_from (length (operations (mine old c))) answers
caught-grew c ops answers old new g =
    ap (caught_from 0) (answers_to-grew c ops answers old new g) ∙ caught_from-append 0 (answers_to old c) answers
    ∙ ap (λ k. caught old c ++ caught_from k answers) (zero-add (length (answers_to old c)) ∙ length-answers_in (unshut []) old c)

-- and so does what it enqueued
pub values-grew : (c : ℕ) (ops : List Op) (answers : List Answer) (old new : List Group) → Grew c ops answers old new → enqueued (operations (mine new c)) ≡ enqueued (operations (mine old c)) ++ enqueued ops
values-grew c ops answers old new g =
    ap (λ gs. enqueued (operations gs)) g.own ∙ ap enqueued (operations-push (mine old c) (next_group old c ops)) ∙ enqueued-append (operations (mine old c)) ops

-- a unit that stands together still does
pub StandTogether-grew : (c : ℕ) (ops : List Op) (answers : List Answer) (old new : List Group) → Grew c ops answers old new → (numbers : List ℕ) → StandTogether (mine old c) numbers → StandTogether (mine new c) numbers
StandTogether-grew c ops answers old new g numbers s = record {
  group = s.group;
  kept = subst (λ gs. Contains gs s.group) (sym g.own) (Contains-append_left (mine old c) (next_group old c ops ∷ []) s.group s.kept);
  before = s.before;
  after = s.after;
  together = s.together;
}

-- A call that enqueues nothing.
pub HandPut-other : (units : List Numbered) (c : ℕ) (ops : List Op) (answers : List Answer) (old new : List Group) → enqueued ops ≡ [] → Grew c ops answers old new → HandPut units c old → HandPut units c new
HandPut-other units c ops answers old new none g h = record {
  put = values-grew c ops answers old new g ∙ ap (λ vs. enqueued (operations (mine old c)) ++ vs) none ∙ append-nil (enqueued (operations (mine old c))) ∙ h.put;
  together = All-weaker (λ (unit : Numbered). StandTogether (mine old c) unit.numbers) (λ unit. StandTogether (mine new c) unit.numbers) (λ unit s. StandTogether-grew c ops answers old new g unit.numbers s) units h.together;
}

values_of_enqs : (vs : List ℕ) → enqueued (map Enq vs) ≡ vs
values_of_enqs [] = refl
values_of_enqs (v ∷ vs) = ap (λ ws. v ∷ ws) (values_of_enqs vs)

pub values_of_deqs : (n : ℕ) → enqueued (replicate n Deq) ≡ []
values_of_deqs zero = refl
values_of_deqs (suc n) = values_of_deqs n

pub values_of_unit : (numbers : List ℕ) → enqueued (unit_ops numbers) ≡ numbers
values_of_unit numbers =
    enqueued-append (map Enq numbers) (replicate (length numbers / 2) Deq)
    ∙ ap (λ vs. vs ++ enqueued (replicate (length numbers / 2) Deq)) (values_of_enqs numbers)
    ∙ ap (λ vs. numbers ++ vs) (values_of_deqs (length numbers / 2)) ∙ append-nil numbers

-- A call that puts a unit.
pub HandPut-unit : (units : List Numbered) (unit : Numbered) (c : ℕ) (answers : List Answer) (old new : List Group) → Grew c (unit_ops unit.numbers) answers old new → HandPut units c old → HandPut (units ++ unit ∷ []) c new
HandPut-unit units unit c answers old new g h =
    let ops = unit_ops unit.numbers in
    let here : StandTogether (mine new c) unit.numbers = record {
      group = next_group old c ops;
      kept = subst (λ gs. Contains gs (next_group old c ops)) (sym g.own) (Contains-push (mine old c) (next_group old c ops));
      before = Deq ∷ [];
      after = replicate (length unit.numbers / 2) Deq;
      together = refl;
    } in
    record {
      put = values-grew c ops answers old new g ∙ ap (λ vs. vs ++ enqueued ops) h.put ∙ ap (λ vs. flat_map (λ (u : Numbered). u.numbers) units ++ vs) (values_of_unit unit.numbers ∙ sym (append-nil unit.numbers))
          ∙ sym (flat_map-append (λ (u : Numbered). u.numbers) units (unit ∷ []));
      together = All-push (λ (u : Numbered). StandTogether (mine new c) u.numbers) units unit
          (All-weaker (λ (u : Numbered). StandTogether (mine old c) u.numbers) (λ u. StandTogether (mine new c) u.numbers) (λ u s. StandTogether-grew c ops answers old new g u.numbers s) units h.together) here;
    }

-- A refusal leaves it.
pub HandPut-saw_more : (units : List Numbered) (c : ℕ) (old new : List Group) → SawMore c old new → HandPut units c old → HandPut units c new
HandPut-saw_more units c old new s h = record {
  put = ap (λ gs. enqueued (operations gs)) s.own ∙ h.put;
  together = subst (λ gs. All (λ (unit : Numbered). StandTogether gs unit.numbers) units) (sym s.own) h.together;
}

pub caught-saw_more : (c : ℕ) (old new : List Group) → SawMore c old new → caught new c ≡ caught old c
caught-saw_more c old new s = ap (λ h. caught h c) s.grown ∙ caught-later old s.more c (others_later old s.more c (ap (λ h. mine h c) (sym s.grown) ∙ s.own))

-- The last call, whose last dequeue found nothing.
pub EndedEmpty-grew : (batch c : ℕ) (ops : List Op) (answers found : List Answer) (old new : List Group) → ops ≡ replicate batch Deq → answers ≡ found ++ Empty ∷ [] → Grew c ops answers old new → EndedEmpty batch c new
EndedEmpty-grew batch c ops answers found old new dequeues e g = record {
  before = old ++ g.between;
  group = next_group old c ops;
  after = g.after;
  stands = g.grown;
  whose = refl;
  last = (others_around c ops answers old new g).1;
  dequeues = dequeues;
  found = found;
  empty = sym g.answered ∙ e;
}

none_put : (batch : ℕ) (ops : List Op) → ops ≡ replicate batch Deq → enqueued ops ≡ []
none_put batch ops many = ap enqueued many ∙ values_of_deqs batch

pub HandDid-ends : (units : List Numbered) (batch c : ℕ) (ops : List Op) (answers found : List Answer) (old new : List Group) → ops ≡ replicate batch Deq → answers ≡ found ++ Empty ∷ [] → Grew c ops answers old new
    → HandPut units c old → HandDid units batch c new
HandDid-ends units batch c ops answers found old new dequeues e g h =
    let after = HandPut-other units c ops answers old new (none_put batch ops dequeues) g h in
    record { put = after.put; together = after.together; ended = EndedEmpty-grew batch c ops answers found old new dequeues e g }

-- a caller that made nothing
pub idle_saw_more : (c : ℕ) (new : List Group) → SawMore c [] new → mine new c ≡ []
idle_saw_more c new s = s.own
