-- Where the dequeues of a caller that got a value stand in a history.
use Rattle.std.proofs.Common.{◌≡◌, ℕ, zero, suc, ◌+◌, ◌==◌, true, false, cond, Some, List, [], ◌∷◌, length, map, filter, take, replicate, refl, sym, ap, subst, ◌∙◌, arith, ne_eqb, eq-eqb, length-append, count_by, zero-add, inl, inr}
use Rattle.std.specs.List.{slice_get, zip, AllByRecursion}
use Rattle.std.proofs.lemmas.Bool.{cases_eq}
use Rattle.std.proofs.lemmas.List.Sums.{sum_by-cons}
use Rattle.bq_model.specs.declared.op.Op.{Op}
use Rattle.bq_model.specs.declared.op.Answer.{Answer}
use Rattle.bq_model.specs.declared.op.Answer.TheVariants.{Done, Got, Empty, Refused}
use Rattle.bq_model.specs.declared.group.Group.{Group}
use Rattle.bq_model.specs.Queue.{Queue, unshut, queue_after}
use Rattle.bq_model.specs.Replay.{answers_from}
use Rattle.bq_model.specs.History.{operations, answers_of}
use Rattle.bq_model.specs.Own.{callers_of, GotAnswer}
use Rattle.bulk_dispatcher.specs.Hands.{given, Catch, caught_from, caught}

pub length-answers_from : (q : Queue) (ops : List Op) → length (answers_from q ops) ≡ length ops
length-answers_from q [] = refl
length-answers_from q (op ∷ ops) = ap (λ k. suc k) (length-answers_from (queue_after q op) ops)

pub length-same : {X : Type 0} (n : ℕ) (x : X) → length (replicate n x) ≡ n
length-same zero x = refl
length-same (suc n) x = ap (λ k. suc k) (length-same n x)

pub length-callers_of : (h : List Group) → length (callers_of h) ≡ length (operations h)
length-callers_of [] = refl
length-callers_of (g ∷ h) =
    length-append (replicate (length g.ops) g.caller) (callers_of h) ∙ ap (λ k. k + length (callers_of h)) (length-same (length g.ops) g.caller)
    ∙ ap (λ k. length g.ops + k) (length-callers_of h) ∙ sym (length-append g.ops (operations h))

pub firsts-zip : {X Y : Type 0} (xs : List X) (ys : List Y) → length xs ≡ length ys → map (λ p. p.0) (zip xs ys) ≡ xs
firsts-zip [] ys e = refl
firsts-zip (x ∷ xs) [] e = absurd (omega (arith, e))
firsts-zip (x ∷ xs) (y ∷ ys) e = ap (λ zs. x ∷ zs) (firsts-zip xs ys (omega (arith, e)))

pub seconds-zip : {X Y : Type 0} (xs : List X) (ys : List Y) → length xs ≡ length ys → map (λ p. p.1) (zip xs ys) ≡ ys
seconds-zip [] [] e = refl
seconds-zip [] (y ∷ ys) e = absurd (omega (arith, e))
seconds-zip (x ∷ xs) [] e = absurd (omega (arith, e))
seconds-zip (x ∷ xs) (y ∷ ys) e = ap (λ zs. y ∷ zs) (seconds-zip xs ys (omega (arith, e)))

pub as_many : (h : List Group) → length (callers_of h) ≡ length (answers_of h)
as_many h = length-callers_of h ∙ sym (length-answers_from (unshut []) (operations h))

-- Among answers beside their callers, the dequeue of caller c with this serial, where n of c's stand before them, got this value.
record StandsAt (ps : List (ℕ × Answer)) (c n : ℕ) (x : Catch) : Type 0 where
  place : ℕ
  whose : slice_get (map (λ p. p.0) ps) place ≡ Some c
  before : n + count_by (λ d. d == c) (take place (map (λ p. p.0) ps)) ≡ x.serial
  got : slice_get (map (λ p. p.1) ps) place ≡ Some (Got x.value)

behind_own : (ps : List (ℕ × Answer)) (c n : ℕ) (d : ℕ) (a : Answer) → (d == c) ≡ true → (x : Catch) → StandsAt ps c (n + 1) x → StandsAt ((d, a) ∷ ps) c n x
behind_own ps c n d a e x s = record {
  place = suc s.place;
  whose = s.whose;
  before = ap (λ k. n + k) (sum_by-cons (λ (k : ℕ). cond (k == c) 1 0) d (take s.place (map (λ p. p.0) ps)) ∙ ap (λ b. cond b 1 0 + count_by (λ k. k == c) (take s.place (map (λ p. p.0) ps))) e)
      ∙ (let b = s.before in omega (arith, b));
  got = s.got;
}

behind_other : (ps : List (ℕ × Answer)) (c n : ℕ) (d : ℕ) (a : Answer) → (d == c) ≡ false → (x : Catch) → StandsAt ps c n x → StandsAt ((d, a) ∷ ps) c n x
behind_other ps c n d a e x s = record {
  place = suc s.place;
  whose = s.whose;
  before = ap (λ k. n + k) (sum_by-cons (λ (k : ℕ). cond (k == c) 1 0) d (take s.place (map (λ p. p.0) ps)) ∙ ap (λ b. cond b 1 0 + count_by (λ k. k == c) (take s.place (map (λ p. p.0) ps))) e)
      ∙ (let b = s.before in omega (arith, b));
  got = s.got;
}

pub map_all : {X : Type 0} (P Q : X → Type 0) → ((x : X) → P x → Q x) → (xs : List X) → AllByRecursion P xs → AllByRecursion Q xs
map_all P Q f [] h = tt
map_all P Q f (x ∷ xs) h = (f x h.0, map_all P Q f xs h.1)

abbrev own_answers : List (ℕ × Answer) → ℕ → List Answer
own_answers ps c = map (λ p. p.1) (filter (λ p. p.0 == c) ps)

caught_own : (ps : List (ℕ × Answer)) (c n : ℕ) (d : ℕ) (a : Answer) → d ≡ c → AllByRecursion (StandsAt ps c (n + 1)) (caught_from (n + 1) (own_answers ps c)) → AllByRecursion (StandsAt ((d, a) ∷ ps) c n) (caught_from n (a ∷ own_answers ps c))
caught_own ps c n d Done e h = map_all _ _ (behind_own ps c n d Done (eq-eqb d c e)) _ h
caught_own ps c n d (Got v) e h = (
  record { place = 0; whose = ap Some e; before = omega arith; got = refl },
  map_all _ _ (behind_own ps c n d (Got v) (eq-eqb d c e)) _ h,
)
caught_own ps c n d Empty e h = map_all _ _ (behind_own ps c n d Empty (eq-eqb d c e)) _ h
caught_own ps c n d Refused e h = map_all _ _ (behind_own ps c n d Refused (eq-eqb d c e)) _ h

caught_stand : (ps : List (ℕ × Answer)) (c n : ℕ) → AllByRecursion (StandsAt ps c n) (caught_from n (own_answers ps c))
caught_stand [] c n = tt
caught_stand (p ∷ ps) c n =
    elim (cases_eq p.0 c) [
      | inl same ↦
          let e : (p.0 == c) ≡ true = eq-eqb p.0 c same in
          subst (λ b. AllByRecursion (StandsAt (p ∷ ps) c n) (caught_from n (map (λ q. q.1) (cond b (p ∷ filter (λ q. q.0 == c) ps) (filter (λ q. q.0 == c) ps))))) (sym e)
          (caught_own ps c n p.0 p.1 same (caught_stand ps c (n + 1)))
      | inr other ↦
          let e : (p.0 == c) ≡ false = ne_eqb p.0 c other in
          subst (λ b. AllByRecursion (StandsAt (p ∷ ps) c n) (caught_from n (map (λ q. q.1) (cond b (p ∷ filter (λ q. q.0 == c) ps) (filter (λ q. q.0 == c) ps))))) (sym e)
          (map_all _ _ (behind_other ps c n p.0 p.1 e) _ (caught_stand ps c n))
    ]

-- What a caller got stands in the history.
pub GotAnswer-caught : (h : List Group) (c : ℕ) → AllByRecursion (λ x. GotAnswer h c x.serial (Got x.value)) (caught h c)
GotAnswer-caught h c =
    let firsts : map (λ p. p.0) (given h) ≡ callers_of h = firsts-zip (callers_of h) (answers_of h) (as_many h) in
    let seconds : map (λ p. p.1) (given h) ≡ answers_of h = seconds-zip (callers_of h) (answers_of h) (as_many h) in
    map_all _ _ (λ x s. record {
      place = s.place;
      stands = record {
        whose = ap (λ cs. slice_get cs s.place) (sym firsts) ∙ s.whose;
        before = ap (λ cs. count_by (λ d. d == c) (take s.place cs)) (sym firsts) ∙ sym (zero-add _) ∙ s.before;
      };
      answered = ap (λ answers. slice_get answers s.place) (sym seconds) ∙ s.got;
    }) (caught h c) (caught_stand (given h) c 0)

-- A caller has one operation with a serial.
same_place : (cs : List ℕ) (c i j : ℕ) → slice_get cs i ≡ Some c → slice_get cs j ≡ Some c → count_by (λ d. d == c) (take i cs) ≡ count_by (λ d. d == c) (take j cs) → i ≡ j
same_place [] c i j at_i at_j e = cc at_i
same_place (d ∷ cs) c zero zero at_i at_j e = refl
same_place (d ∷ cs) c zero (suc j) at_i at_j e =
    let own : d ≡ c = cc at_i in
    let one = sum_by-cons (λ (k : ℕ). cond (k == c) 1 0) d (take j cs) ∙ ap (λ b. cond b 1 0 + count_by (λ k. k == c) (take j cs)) (eq-eqb d c own) in
    absurd (omega (arith, e, one))
same_place (d ∷ cs) c (suc i) zero at_i at_j e =
    let own : d ≡ c = cc at_j in
    let one = sum_by-cons (λ (k : ℕ). cond (k == c) 1 0) d (take i cs) ∙ ap (λ b. cond b 1 0 + count_by (λ k. k == c) (take i cs)) (eq-eqb d c own) in
    absurd (omega (arith, e, one))
same_place (d ∷ cs) c (suc i) (suc j) at_i at_j e =
    let left = sum_by-cons (λ (k : ℕ). cond (k == c) 1 0) d (take i cs) in
    let right = sum_by-cons (λ (k : ℕ). cond (k == c) 1 0) d (take j cs) in
    let rest : count_by (λ k. k == c) (take i cs) ≡ count_by (λ k. k == c) (take j cs) = omega (arith, e, left, right) in
    ap (λ k. suc k) (same_place cs c i j at_i at_j rest)

pub same_answer : (h : List Group) (c serial : ℕ) (a b : Answer) → GotAnswer h c serial a → GotAnswer h c serial b → Some a ≡ Some b
same_answer h c serial a b one other =
    let e = same_place (callers_of h) c one.place other.place one.stands.whose other.stands.whose (one.stands.before ∙ sym other.stands.before) in
    sym one.answered ∙ ap (slice_get (answers_of h)) e ∙ other.answered
