-- How many operations a hand makes.
use Rattle.std.proofs.Common.{◌≡◌, ℕ, ◌+◌, ◌≤◌, Bool, true, false, List, [], ◌∷◌, ◌++◌, length, refl, sym, ap, subst, ◌∙◌, arith, length-append, zero-add, inl, inr}
use Rattle.std.proofs.lemmas.Bool.{cases_eq}
use Rattle.std.proofs.lemmas.List.Elements.{All-head, All-tail}
use Rattle.bq_model.specs.declared.op.Op.{Op}
use Rattle.bq_model.specs.declared.op.Op.TheVariants.{Enq, Deq, Shut}
use Rattle.bq_model.specs.declared.op.Answer.{Answer}
use Rattle.bq_model.specs.declared.op.Answer.TheVariants.{Done, Got, Empty, Refused}
use Rattle.bq_model.specs.declared.group.Group.{Group}
use Rattle.bq_model.specs.NoShut.{NoShut, NeverShut}
use Rattle.bq_model.specs.Queue.{Queue, queue_of, unshut}
use Rattle.bq_model.specs.Replay.{answers_from, queue_from}
use Rattle.bq_model.specs.History.{operations, answers_of, last_queue}
use Rattle.bq_model.specs.Own.{mine}
use Rattle.bq_model.proofs.Histories.{answers_from-append}
use Rattle.bq_model.proofs.Growing.{mine-own, mine-other}
use Rattle.bq_model.specs.Values.{enqueued, entered, got}
use Rattle.bulk_dispatcher.specs.Hands.{empties}
use Rattle.bulk_dispatcher.specs.Hands.{answers_to}
use Rattle.bq_model.proofs.Values.{in_and_out}
use Rattle.bulk_dispatcher.proofs.EachOnce.{enqueued-append}
use Rattle.bulk_dispatcher.proofs.Gots.{got-append}
use Rattle.bulk_dispatcher.proofs.Grows.{answers_in, answers_in-own, answers_in-other}

pub empties-append : (xs ys : List Answer) → empties (xs ++ ys) ≡ empties xs + empties ys
empties-append [] ys = sym (zero-add (empties ys))
empties-append (Done ∷ xs) ys = empties-append xs ys
empties-append (Got v ∷ xs) ys = empties-append xs ys
empties-append (Empty ∷ xs) ys = let e = empties-append xs ys in omega (arith, e)
empties-append (Refused ∷ xs) ys = empties-append xs ys

pub empties_at_most : (answers : List Answer) → empties answers ≤ length answers
empties_at_most [] = omega arith
empties_at_most (Done ∷ answers) = let e = empties_at_most answers in omega (arith, e)
empties_at_most (Got v ∷ answers) = let e = empties_at_most answers in omega (arith, e)
empties_at_most (Empty ∷ answers) = let e = empties_at_most answers in omega (arith, e)
empties_at_most (Refused ∷ answers) = let e = empties_at_most answers in omega (arith, e)

-- Each operation enqueued a value, got one or found nothing.
each_counted : (b : Bool) (q : List ℕ) (ops : List Op) → NoShut ops → length ops ≡ length (enqueued ops) + (length (got (answers_from (queue_of q b) ops)) + empties (answers_from (queue_of q b) ops))
each_counted b q [] none = refl
each_counted true q (Enq v ∷ ops) none = let e = each_counted true q ops none in omega (arith, e)
each_counted false q (Enq v ∷ ops) none = let e = each_counted false (q ++ v ∷ []) ops none in omega (arith, e)
each_counted b [] (Deq ∷ ops) none = let e = each_counted b [] ops none in omega (arith, e)
each_counted b (v ∷ q) (Deq ∷ ops) none = let e = each_counted b q ops none in omega (arith, e)
each_counted b q (Shut ∷ ops) none = absurd none

counted_in : (q : Queue) (h : List Group) (c : ℕ) → NeverShut h → length (operations (mine h c)) ≡ length (enqueued (operations (mine h c))) + (length (got (answers_in q h c)) + empties (answers_in q h c))
counted_in q [] c never = refl
counted_in q (g ∷ h) c never =
    let rest = counted_in (queue_from q g.ops) h c (All-tail (λ (x : Group). NoShut x.ops) g h never) in
    elim (cases_eq g.caller c) [
      | inl same ↦
          let ops = length-append g.ops (operations (mine h c)) in
          let values = ap length (enqueued-append g.ops (operations (mine h c))) ∙ length-append (enqueued g.ops) (enqueued (operations (mine h c))) in
          let gots = ap length (got-append (answers_from q g.ops) (answers_in (queue_from q g.ops) h c)) ∙ length-append (got (answers_from q g.ops)) (got (answers_in (queue_from q g.ops) h c)) in
          let empty = empties-append (answers_from q g.ops) (answers_in (queue_from q g.ops) h c) in
          let here = each_counted q.shut q.values g.ops (All-head (λ (x : Group). NoShut x.ops) g h never) in
          let whole : length (g.ops ++ operations (mine h c)) ≡ length (enqueued (g.ops ++ operations (mine h c)))
          + (length (got (answers_from q g.ops ++ answers_in (queue_from q g.ops) h c)) + empties (answers_from q g.ops ++ answers_in (queue_from q g.ops) h c)) = omega (arith, rest, ops, values, gots, empty, here) in
          subst (λ gs. length (operations gs) ≡ length (enqueued (operations gs)) + (length (got (answers_in q (g ∷ h) c)) + empties (answers_in q (g ∷ h) c))) (sym (mine-own g h c same))
          (subst (λ xs. length (g.ops ++ operations (mine h c)) ≡ length (enqueued (g.ops ++ operations (mine h c))) + (length (got xs) + empties xs)) (sym (answers_in-own q g h c same)) whole)
      | inr other ↦
          subst (λ gs. length (operations gs) ≡ length (enqueued (operations gs)) + (length (got (answers_in q (g ∷ h) c)) + empties (answers_in q (g ∷ h) c))) (sym (mine-other g h c other))
          (subst (λ xs. length (operations (mine h c)) ≡ length (enqueued (operations (mine h c))) + (length (got xs) + empties xs)) (sym (answers_in-other q g h c other)) rest)
    ]

-- No more enters than is enqueued.
entered_at_most : (b : Bool) (ops : List Op) → length (entered b ops) ≤ length (enqueued ops)
entered_at_most true ops = omega arith
entered_at_most false [] = omega arith
entered_at_most false (Enq v ∷ ops) = let e = entered_at_most false ops in omega (arith, e)
entered_at_most false (Deq ∷ ops) = entered_at_most false ops
entered_at_most false (Shut ∷ ops) = omega arith

-- No more is got than was enqueued.
pub got_at_most : (h : List Group) → length (got (answers_of h)) ≤ length (enqueued (operations h))
got_at_most h =
    let e = ap length (in_and_out (unshut []) (operations h)) in
    let l = length-append (got (answers_of h)) (last_queue h).values in
    let some = entered_at_most false (operations h) in
    omega (arith, e, l, some)

-- what one caller got is a part of what was got
part_got : (q : Queue) (h : List Group) (c : ℕ) → length (got (answers_in q h c)) ≤ length (got (answers_from q (operations h)))
part_got q [] c = omega arith
part_got q (g ∷ h) c =
    let rest = part_got (queue_from q g.ops) h c in
    let whole = ap (λ xs. length (got xs)) (answers_from-append q g.ops (operations h)) ∙ ap length (got-append (answers_from q g.ops) (answers_from (queue_from q g.ops) (operations h))) ∙ length-append (got (answers_from q g.ops)) (got (answers_from (queue_from q g.ops) (operations h))) in
    elim (cases_eq g.caller c) [
      | inl same ↦
          let here = ap (λ xs. length (got xs)) (answers_in-own q g h c same) ∙ ap length (got-append (answers_from q g.ops) (answers_in (queue_from q g.ops) h c)) ∙ length-append (got (answers_from q g.ops)) (got (answers_in (queue_from q g.ops) h c)) in
          omega (arith, rest, whole, here)
      | inr other ↦
          let here = ap (λ xs. length (got xs)) (answers_in-other q g h c other) in
          omega (arith, rest, whole, here)
    ]

-- A caller makes no more operations than its enqueues, all enqueues, and its dequeues that found nothing.
pub made_at_most : (h : List Group) (c : ℕ) → NeverShut h → length (operations (mine h c)) ≤ length (enqueued (operations (mine h c))) + (length (enqueued (operations h)) + empties (answers_to h c))
made_at_most h c never =
    let all = counted_in (unshut []) h c never in
    let gots = part_got (unshut []) h c in
    let most = got_at_most h in
    omega (arith, all, gots, most)
