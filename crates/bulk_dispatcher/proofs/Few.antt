-- How few dequeues of a hand find nothing, while it tries to put a unit and while it takes what is left.
use Rattle.std.proofs.Common.{◌≡◌, ℕ, zero, suc, ◌+◌, ◌≤◌, ◌/◌, Bool, true, false, List, [], ◌∷◌, ◌++◌, ◌⊎◌, length, map, replicate, refl, sym, ap, ◌∙◌, arith, length-append, append_assoc, inl, inr}
use Rattle.std.specs.List.{range_with_len}
use Rattle.std.proofs.lemmas.List.{length-replicate, length-map}
use Rattle.std.proofs.lemmas.List.FromFn.{length-range_with_len}
use Rattle.bq_model.specs.declared.op.Op.{Op}
use Rattle.bq_model.specs.declared.op.Op.TheVariants.{Enq, Deq}
use Rattle.bq_model.specs.declared.op.Answer.{Answer}
use Rattle.bq_model.specs.declared.op.Answer.TheVariants.{Done, Got, Empty, Refused}
use Rattle.bq_model.specs.declared.group.Group.{Group}
use Rattle.bq_model.specs.declared.shape.Shape.{Shape}
use Rattle.bq_model.specs.Queue.{queue_of}
use Rattle.bq_model.specs.Replay.{answers_from}
use Rattle.bq_model.specs.History.{operations, last_queue}
use Rattle.bq_model.specs.Own.{mine, own, next_group}
use Rattle.bq_model.specs.Values.{enqueued}
use Rattle.bq_model.specs.Rooms.{PassesAllowance, PassesRoom}
use Rattle.bq_model.specs.Grows.{Grew, SawMore, AtSomePoint}
use Rattle.bq_model.proofs.Histories.{operations-push}
use Rattle.bq_model.proofs.Growing.{mine-append, others_later}
use Rattle.bq_session.specs.Outcome.{made_by}
use Rattle.bq_session.proofs.Names.{length-grew}
use Rattle.bulk_dispatcher.specs.Hands.{answers_to, empties, found_nothing_by}
use Rattle.bulk_dispatcher.specs.Rounds.{ends_empty}
use Rattle.bulk_dispatcher.specs.Stops.{Serves, NearlySpent}
use Rattle.bulk_dispatcher.specs.UnitOps.{unit_ops}
use Rattle.bulk_dispatcher.proofs.Counts.{empties-append, empties_at_most}
use Rattle.bulk_dispatcher.proofs.Grows.{answers_to-later}
use Rattle.bulk_dispatcher.proofs.Owns.{own-later, own_after_empty}
use Rattle.bulk_dispatcher.proofs.Steps.{answers_to-grew, values_of_unit}

-- how many operations a caller has made
pub made-grew : (c : ℕ) (ops : List Op) (answers : List Answer) (old new : List Group) → Grew c ops answers old new → made_by new c ≡ made_by old c + length ops
made-grew c ops answers old new g =
    ap (λ gs. length (operations gs)) g.own ∙ ap length (operations-push (mine old c) (next_group old c ops)) ∙ length-append (operations (mine old c)) ops

pub made-saw_more : (c : ℕ) (old new : List Group) → SawMore c old new → made_by new c ≡ made_by old c
made-saw_more c old new s = ap (λ gs. length (operations gs)) s.own

-- how many of its dequeues found nothing
pub found-grew : (c : ℕ) (ops : List Op) (answers : List Answer) (old new : List Group) → Grew c ops answers old new → found_nothing_by new c ≡ found_nothing_by old c + empties answers
found-grew c ops answers old new g = ap empties (answers_to-grew c ops answers old new g) ∙ empties-append (answers_to old c) answers

pub answers-saw_more : (c : ℕ) (old new : List Group) → SawMore c old new → answers_to new c ≡ answers_to old c
answers-saw_more c old new s = ap (λ h. answers_to h c) s.grown ∙ answers_to-later old s.more c (others_later old s.more c (ap (λ h. mine h c) (sym s.grown) ∙ s.own))

pub found-saw_more : (c : ℕ) (old new : List Group) → SawMore c old new → found_nothing_by new c ≡ found_nothing_by old c
found-saw_more c old new s = ap empties (answers-saw_more c old new s)

pub found_at_most : (c : ℕ) (ops : List Op) (answers : List Answer) (old new : List Group) → Grew c ops answers old new → found_nothing_by new c ≤ found_nothing_by old c + length ops
found_at_most c ops answers old new g =
    let more = found-grew c ops answers old new g in
    let all = empties_at_most answers in
    let same = length-grew c ops answers old new g in
    omega (arith, more, all, same)

-- a unit's operations fit a batch
pub unit_short : (first count : ℕ) → count ≤ 100 → length (unit_ops (range_with_len first count)) ≤ 255
unit_short first count few =
    let numbers = length-range_with_len first count in
    let enqueues = length-map (range_with_len first count) Enq in
    let dequeues = length-replicate (length (range_with_len first count) / 2) Deq in
    let all = length-append (map Enq (range_with_len first count)) (replicate (length (range_with_len first count) / 2) Deq) in
    omega (arith, numbers, enqueues, dequeues, all, few)

pub unit_enqueues : (first count : ℕ) → length (enqueued (unit_ops (range_with_len first count))) ≡ count
unit_enqueues first count = ap length (values_of_unit (range_with_len first count)) ∙ length-range_with_len first count

none_first : {X : Type 0} (xs ys : List X) → xs ++ ys ≡ [] → xs ≡ []
none_first [] ys e = refl
none_first (x ∷ xs) ys e = cc e

-- Where nothing that is queued is the caller's own, a few enqueues don't pass the room.
pub never_full : (shape : Shape) (c : ℕ) (ops : List Op) (old new : List Group) → Serves shape → length (enqueued ops) ≤ 256 → own old c ≡ 0 → SawMore c old new → AtSomePoint (λ point. PassesRoom shape point c ops) old new → ⊥
never_full shape c ops old new serves few none s a =
    let later : List Group = a.between ++ a.after in
    let whole : new ≡ old ++ later = a.grown ∙ append_assoc old a.between a.after in
    let others : mine later c ≡ [] = others_later old later c (ap (λ h. mine h c) (sym whole) ∙ s.own) in
    let between : mine a.between c ≡ [] = none_first (mine a.between c) (mine a.after c) (sym (mine-append a.between a.after c) ∙ others) in
    let less = own-later old a.between c between in
    let above = a.held in
    let room = serves.room in
    absurd (omega (arith, less, above, room, none, few))

-- While a caller tries to put a unit, either no dequeue found nothing, or one did and nothing queued is its own.
abbrev pub Tries : ℕ → List Group → List Group → Type 0
Tries c old now = (found_nothing_by now c ≤ found_nothing_by old c) ⊎ ((found_nothing_by now c ≤ found_nothing_by old c + 1) × (own now c ≡ 0))

pub tries-begin : (c : ℕ) (h : List Group) → Tries c h h
tries-begin c h = inl (omega arith)

pub tries-most : (c : ℕ) (old now : List Group) → Tries c old now → found_nothing_by now c ≤ found_nothing_by old c + 1
tries-most c old now (inl less) = omega (arith, less)
tries-most c old now (inr less) = less.0

-- where it was refused with Full, none did
pub tries-full : (shape : Shape) (c : ℕ) (ops : List Op) (old now next : List Group) → Serves shape → length (enqueued ops) ≤ 256 → Tries c old now → SawMore c now next → AtSomePoint (λ point. PassesRoom shape point c ops) now next → found_nothing_by next c ≤ found_nothing_by old c
tries-full shape c ops old now next serves few (inl less) s a = let same = found-saw_more c now next s in omega (arith, less, same)
tries-full shape c ops old now next serves few (inr less) s a = absurd (never_full shape c ops now next serves few less.1 s a)

-- and then it makes one dequeue
pub tries-dequeue : (c : ℕ) (answers : List Answer) (old now next : List Group) → found_nothing_by now c ≤ found_nothing_by old c → Grew c (Deq ∷ []) answers now next → Tries c old next
tries-dequeue c answers old now next less g = go answers g (length-grew c (Deq ∷ []) answers now next g)
  where
    go : (xs : List Answer) → Grew c (Deq ∷ []) xs now next → length xs ≡ 1 → Tries c old next
    go [] g l = absurd (omega (arith, l))
    go (x ∷ y ∷ xs) g l = absurd (omega (arith, l))
    go (Done ∷ []) g l = let e = found-grew c (Deq ∷ []) (Done ∷ []) now next g in inl (omega (arith, e, less))
    go (Got v ∷ []) g l = let e = found-grew c (Deq ∷ []) (Got v ∷ []) now next g in inl (omega (arith, e, less))
    go (Refused ∷ []) g l = let e = found-grew c (Deq ∷ []) (Refused ∷ []) now next g in inl (omega (arith, e, less))
    go (Empty ∷ []) g l = let e = found-grew c (Deq ∷ []) (Empty ∷ []) now next g in inr (omega (arith, e, less), own_after_empty c (Deq ∷ []) (Empty ∷ []) [] now next refl g)

-- A batch of dequeues whose last one got a value found nothing nowhere.
all_empty : (b : Bool) (n : ℕ) → ends_empty true (answers_from (queue_of [] b) (replicate n Deq)) ≡ true
all_empty b zero = refl
all_empty b (suc n) = all_empty b n

none_found : (b : Bool) (q : List ℕ) (n : ℕ) (before : Bool) → ends_empty before (answers_from (queue_of q b) (replicate n Deq)) ≡ false → empties (answers_from (queue_of q b) (replicate n Deq)) ≡ 0
none_found b q zero before e = refl
none_found b [] (suc n) before e = absurd (cc (sym (all_empty b n) ∙ e))
none_found b (v ∷ q) (suc n) before e = none_found b q n false e

pub batch_found : (c n : ℕ) (answers : List Answer) (old new : List Group) → Grew c (replicate n Deq) answers old new → ends_empty false answers ≡ false → found_nothing_by new c ≡ found_nothing_by old c
batch_found c n answers old new g e =
    let more = found-grew c (replicate n Deq) answers old new g in
    let none = ap empties g.answered ∙ none_found (last_queue (old ++ g.between)).shut (last_queue (old ++ g.between)).values n false (sym (ap (ends_empty false) g.answered) ∙ e) in
    omega (arith, more, none)

-- where the allowance doesn't take the operations of a batch, it is nearly spent
pub nearly_spent : (shape : Shape) (c : ℕ) (ops : List Op) (old new : List Group) → Serves shape → length ops ≤ 256 → SawMore c old new → PassesAllowance shape old c ops → NearlySpent c new
nearly_spent shape c ops old new serves few s passes =
    let allowance = serves.allowance in
    let same = made-saw_more c old new s in
    omega (arith, allowance, same, few, passes)
