-- Where the operations of a caller stand, and what they got.
use Rattle.std.proofs.Common.{◌≡◌, ◌≢◌, All, ℕ, zero, suc, ◌+◌, ◌*◌, ◌<◌, ◌≤◌, ◌==◌, Bool, false, cond, Some, List, [], ◌∷◌, ◌++◌, length, take, get_or, replicate, refl, sym, ap, subst, ◌∙◌, arith, ne_eqb, eq-eqb, length-append, append_assoc, count_by, inl, inr}
use Rattle.std.specs.List.{slice_get}
use Rattle.std.proofs.lemmas.Bool.{cases_eq}
use Rattle.std.proofs.lemmas.Grind.{flat_map-append}
use Rattle.std.proofs.lemmas.List.{length-replicate, take-append-le}
use Rattle.std.proofs.Math.Seq.{take-append-add}
use Rattle.std.proofs.lemmas.List.Sums.{sum_by-cons, sum_by-append}
use Rattle.std.proofs.lemmas.List.Elements.{All-head}
use Rattle.std.proofs.lemmas.List.Folds.{sum_by-replicate}
use Rattle.std.proofs.lemmas.Option.{slice_get-get_or, slice_get_within}
use Rattle.bq_model.specs.declared.op.Op.{Op}
use Rattle.bq_model.specs.declared.op.Answer.{Answer}
use Rattle.bq_model.specs.declared.op.Answer.TheVariants.{Done, Refused}
use Rattle.bq_model.specs.declared.group.Group.{Group}
use Rattle.bq_model.specs.Queue.{Queue, unshut, queue_after}
use Rattle.bq_model.specs.Replay.{answers_from, queue_from}
use Rattle.bq_model.specs.History.{operations, answers_of, last_queue}
use Rattle.bq_model.specs.Own.{mine, next_group, callers_of, GotAnswer}
use Rattle.bq_model.specs.Grows.{Grew, SawMore}
use Rattle.bq_model.specs.NoShut.{NoShut, NeverShut}
use Rattle.bq_model.proofs.Histories.{answers_from-append, operations-push}
use Rattle.bq_model.proofs.Growing.{operations-append, mine-append, mine-own, mine-other, others_around}
use Rattle.bq_model.proofs.OpenQueues.{stays_open, NeverShut-front, NeverShut-back, none_refused}
use Rattle.bq_session.specs.Outcome.{made_by}

pub length-answers_from : (q : Queue) (ops : List Op) → length (answers_from q ops) ≡ length ops
length-answers_from q [] = refl
length-answers_from q (op ∷ ops) = ap (λ k. suc k) (length-answers_from (queue_after q op) ops)

-- as many answers as operations
pub length-grew : (c : ℕ) (ops : List Op) (answers : List Answer) (old new : List Group) → Grew c ops answers old new → length answers ≡ length ops
length-grew c ops answers old new g = ap length g.answered ∙ length-answers_from (last_queue (old ++ g.between)) ops

length-callers_of : (h : List Group) → length (callers_of h) ≡ length (operations h)
length-callers_of [] = refl
length-callers_of (g ∷ h) =
    length-append (replicate (length g.ops) g.caller) (callers_of h) ∙ ap (λ k. k + length (callers_of h)) (length-replicate (length g.ops) g.caller)
    ∙ ap (λ k. length g.ops + k) (length-callers_of h) ∙ sym (length-append g.ops (operations h))

callers_of-append : (h more : List Group) → callers_of (h ++ more) ≡ callers_of h ++ callers_of more
callers_of-append h more = flat_map-append (λ (g : Group). replicate (length g.ops) g.caller) h more

answers_of-append : (h more : List Group) → answers_of (h ++ more) ≡ answers_of h ++ answers_from (last_queue h) (operations more)
answers_of-append h more = ap (answers_from (unshut [])) (operations-append h more) ∙ answers_from-append (unshut []) (operations h) (operations more)

as_many : (h : List Group) → length (answers_of h) ≡ length (callers_of h)
as_many h = length-answers_from (unshut []) (operations h) ∙ sym (length-callers_of h)

slice_get-front : {X : Type 0} (xs ys : List X) (k : ℕ) (x : X) → slice_get xs k ≡ Some x → slice_get (xs ++ ys) k ≡ Some x
slice_get-front [] ys k x e = cc e
slice_get-front (y ∷ xs) ys zero x e = e
slice_get-front (y ∷ xs) ys (suc k) x e = slice_get-front xs ys k x e

slice_get-back : {X : Type 0} (xs ys : List X) (k : ℕ) → slice_get (xs ++ ys) (length xs + k) ≡ slice_get ys k
slice_get-back [] ys k = ap (slice_get ys) (let e : 0 + k ≡ k = omega arith in e)
slice_get-back (x ∷ xs) ys k = ap (slice_get (x ∷ (xs ++ ys))) (let e : suc (length xs) + k ≡ suc (length xs + k) = omega arith in e) ∙ slice_get-back xs ys k

slice_get-replicate : {X : Type 0} (n k : ℕ) (x : X) → k < n → slice_get (replicate n x) k ≡ Some x
slice_get-replicate zero k x within = absurd (omega arith)
slice_get-replicate (suc n) zero x within = refl
slice_get-replicate (suc n) (suc k) x within = slice_get-replicate n k x (omega arith)

take_replicate : (n k : ℕ) (x : ℕ) → k ≤ n → take k (replicate n x) ≡ replicate k x
take_replicate n zero x within = refl
take_replicate zero (suc k) x within = absurd (omega arith)
take_replicate (suc n) (suc k) x within = ap (λ (xs : List ℕ). x ∷ xs) (take_replicate n k x (omega arith))

abbrev owned_by : ℕ → List ℕ → ℕ
owned_by c cs = count_by (λ d. d == c) cs

abbrev one_if : ℕ → ℕ → ℕ
one_if c d = cond (d == c) 1 0

owned_by-append : (c : ℕ) (xs ys : List ℕ) → owned_by c (xs ++ ys) ≡ owned_by c xs + owned_by c ys
owned_by-append c xs ys = sum_by-append (one_if c) xs ys

owned_by-own : (c n : ℕ) → owned_by c (replicate n c) ≡ n
owned_by-own c n = sum_by-replicate (one_if c) n c ∙ ap (λ (b : Bool). n * cond b 1 0) (eq-eqb c c refl) ∙ (let e : n * 1 ≡ n = omega arith in e)

owned_by-other : (c d n : ℕ) → (d == c) ≡ false → owned_by c (replicate n d) ≡ 0
owned_by-other c d n other = sum_by-replicate (one_if c) n d ∙ ap (λ (b : Bool). n * cond b 1 0) other ∙ (let e : n * 0 ≡ 0 = omega arith in e)

-- a caller has as many operations in a history as in its own groups
count_own : (h : List Group) (c : ℕ) → owned_by c (callers_of h) ≡ made_by h c
count_own [] c = refl
count_own (g ∷ h) c = owned_by-append c (replicate (length g.ops) g.caller) (callers_of h) ∙ elim (cases_eq g.caller c) [
  | inl same ↦
      ap (λ (d : ℕ). owned_by c (replicate (length g.ops) d) + owned_by c (callers_of h)) same
      ∙ ap (λ (k : ℕ). k + owned_by c (callers_of h)) (owned_by-own c (length g.ops))
      ∙ ap (λ (k : ℕ). length g.ops + k) (count_own h c) ∙ sym (length-append g.ops (operations (mine h c)))
      ∙ ap (λ (gs : List Group). length (operations gs)) (sym (mine-own g h c same))
  | inr other ↦
      ap (λ (k : ℕ). k + owned_by c (callers_of h)) (owned_by-other c g.caller (length g.ops) (ne_eqb g.caller c other))
      ∙ (let e : 0 + owned_by c (callers_of h) ≡ owned_by c (callers_of h) = omega arith in e)
      ∙ count_own h c ∙ ap (λ (gs : List Group). length (operations gs)) (sym (mine-other g h c other))
]

-- the serial of an operation is below the number of its caller's operations
before_all : (cs : List ℕ) (c place : ℕ) → slice_get cs place ≡ Some c → owned_by c (take place cs) < owned_by c cs
before_all [] c place e = cc e
before_all (d ∷ cs) c zero e =
    let one = sum_by-cons (one_if c) d cs ∙ ap (λ (b : Bool). cond b 1 0 + owned_by c cs) (eq-eqb d c (cc e)) in omega (arith, one)
before_all (d ∷ cs) c (suc place) e =
    let less = before_all cs c place e in
    let more = sum_by-cons (one_if c) d cs in
    let front = sum_by-cons (one_if c) d (take place cs) in
    omega (arith, less, more, front)

pub serial_below : (h : List Group) (c serial : ℕ) (answer : Answer) → GotAnswer h c serial answer → serial < made_by h c
serial_below h c serial answer got =
    let less = before_all (callers_of h) c got.place got.stands.whose in
    let count = count_own h c in
    let own = got.stands.before in
    omega (arith, less, count, own)

-- what an operation got stays so where the history goes on
pub GotAnswer-append : (h more : List Group) (c serial : ℕ) (answer : Answer) → GotAnswer h c serial answer → GotAnswer (h ++ more) c serial answer
GotAnswer-append h more c serial answer got =
    let within : got.place < length (callers_of h) = slice_get_within (callers_of h) got.place c got.stands.whose in
    record {
      place = got.place;
      stands = record {
        whose = ap (λ (cs : List ℕ). slice_get cs got.place) (callers_of-append h more) ∙ slice_get-front (callers_of h) (callers_of more) got.place c got.stands.whose;
        before = ap (λ (cs : List ℕ). owned_by c (take got.place cs)) (callers_of-append h more)
            ∙ ap (owned_by c) (take-append-le got.place (callers_of h) (callers_of more) (omega arith)) ∙ got.stands.before;
      };
      answered = ap (λ (found : List Answer). slice_get found got.place) (answers_of-append h more)
          ∙ slice_get-front (answers_of h) (answers_from (last_queue h) (operations more)) got.place answer got.answered;
    }

pub GotAnswer-saw_more : (old new : List Group) (c serial : ℕ) (answer : Answer) → SawMore c old new → GotAnswer old c serial answer → GotAnswer new c serial answer
GotAnswer-saw_more old new c serial answer s got = subst (λ (h : List Group). GotAnswer h c serial answer) (sym s.grown) (GotAnswer-append old s.more c serial answer got)

pub GotAnswer-grew : (old new : List Group) (c serial : ℕ) (ops : List Op) (answers : List Answer) (answer : Answer) → Grew c ops answers old new
    → GotAnswer old c serial answer → GotAnswer new c serial answer
GotAnswer-grew old new c serial ops answers answer g got =
    subst (λ (h : List Group). GotAnswer h c serial answer) (sym (append_assoc old g.between (next_group old c ops ∷ g.after)) ∙ sym g.grown)
    (GotAnswer-append old (g.between ++ next_group old c ops ∷ g.after) c serial answer got)

-- operation k of a group got answer k
got_own : (h after : List Group) (g : Group) (k : ℕ) → k < length g.ops
    → GotAnswer (h ++ g ∷ after) g.caller (made_by h g.caller + k) (get_or (answers_from (last_queue h) g.ops) k Done)
got_own h after g k within =
    let place : ℕ = length (callers_of h) + k in
    let own : List ℕ = replicate (length g.ops) g.caller in
    let short : k ≤ length own = (let e = length-replicate (length g.ops) g.caller in omega (arith, e)) in
    let answers : List Answer = answers_from (last_queue h) g.ops in
    let here : answers_of (h ++ g ∷ after) ≡ answers_of h ++ (answers ++ answers_from (queue_from (last_queue h) g.ops) (operations after)) =
    answers_of-append h (g ∷ after) ∙ ap (λ (found : List Answer). answers_of h ++ found) (answers_from-append (last_queue h) g.ops (operations after)) in
    let many : k < length answers = (let e = length-answers_from (last_queue h) g.ops in omega (arith, e)) in
    record {
      place = place;
      stands = record {
        whose = ap (λ (cs : List ℕ). slice_get cs place) (callers_of-append h (g ∷ after)) ∙ slice_get-back (callers_of h) (own ++ callers_of after) k
            ∙ slice_get-front own (callers_of after) k g.caller (slice_get-replicate (length g.ops) k g.caller within);
        before = ap (λ (cs : List ℕ). owned_by g.caller (take place cs)) (callers_of-append h (g ∷ after))
            ∙ ap (owned_by g.caller) (take-append-add (callers_of h) (own ++ callers_of after) k)
            ∙ owned_by-append g.caller (callers_of h) (take k (own ++ callers_of after))
            ∙ ap (λ (n : ℕ). n + owned_by g.caller (take k (own ++ callers_of after))) (count_own h g.caller)
            ∙ ap (λ (cs : List ℕ). made_by h g.caller + owned_by g.caller cs) (take-append-le k own (callers_of after) short ∙ take_replicate (length g.ops) k g.caller (omega arith))
            ∙ ap (λ (n : ℕ). made_by h g.caller + n) (owned_by-own g.caller k);
      };
      answered = ap (λ (found : List Answer). slice_get found place) here
          ∙ ap (slice_get (answers_of h ++ (answers ++ answers_from (queue_from (last_queue h) g.ops) (operations after)))) (ap (λ (n : ℕ). n + k) (sym (as_many h)))
          ∙ slice_get-back (answers_of h) (answers ++ answers_from (queue_from (last_queue h) g.ops) (operations after)) k
          ∙ slice_get-front answers (answers_from (queue_from (last_queue h) g.ops) (operations after)) k (get_or answers k Done) (slice_get-get_or answers k Done many);
    }

-- operation k of the group that a caller made got answer k
pub GotAnswer-made : (c : ℕ) (ops : List Op) (answers : List Answer) (old new : List Group) (k : ℕ) → Grew c ops answers old new → k < length ops
    → GotAnswer new c (made_by old c + k) (get_or answers k Done)
GotAnswer-made c ops answers old new k g within =
    let same : made_by (old ++ g.between) c ≡ made_by old c =
    ap (λ (gs : List Group). length (operations gs)) (mine-append old g.between c ∙ ap (λ (gs : List Group). mine old c ++ gs) (others_around c ops answers old new g).0)
    ∙ ap (λ (gs : List Group). length (operations gs)) (nil (mine old c)) in
    let got : GotAnswer ((old ++ g.between) ++ next_group old c ops ∷ g.after) c (made_by (old ++ g.between) c + k) (get_or (answers_from (last_queue (old ++ g.between)) ops) k Done) =
    got_own (old ++ g.between) g.after (next_group old c ops) k within in
    subst (λ (h : List Group). GotAnswer h c (made_by old c + k) (get_or answers k Done)) (sym g.grown)
    (subst (λ (found : List Answer). GotAnswer ((old ++ g.between) ++ next_group old c ops ∷ g.after) c (made_by old c + k) (get_or found k Done)) (sym g.answered)
    (subst (λ (n : ℕ). GotAnswer ((old ++ g.between) ++ next_group old c ops ∷ g.after) c (n + k) (get_or (answers_from (last_queue (old ++ g.between)) ops) k Done)) same got)) where
      nil : (gs : List Group) → gs ++ [] ≡ gs
      nil [] = refl
      nil (x ∷ gs) = ap (λ (ys : List Group). x ∷ ys) (nil gs)

-- a group adds its operations to those that its caller has made
pub made_by-grew : (c : ℕ) (ops : List Op) (answers : List Answer) (old new : List Group) → Grew c ops answers old new → made_by new c ≡ made_by old c + length ops
made_by-grew c ops answers old new g =
    ap (λ (gs : List Group). length (operations gs)) g.own ∙ ap length (operations-push (mine old c) (next_group old c ops)) ∙ length-append (operations (mine old c)) ops

-- where nothing was shut, no answer to a group is that it was refused
pub accepted-grew : (c : ℕ) (ops : List Op) (answers : List Answer) (old new : List Group) → Grew c ops answers old new → NeverShut new → All (λ answer. answer ≢ Refused) answers
accepted-grew c ops answers old new g never =
    let front : List Group = old ++ g.between in
    let whole = subst NeverShut g.grown never in
    let none : NoShut ops = All-head (λ (x : Group). NoShut x.ops) (next_group old c ops) g.after (NeverShut-back front (next_group old c ops ∷ g.after) whole) in
    subst (All (λ (answer : Answer). answer ≢ Refused)) (sym g.answered) (none_refused (last_queue front) ops (stays_open front (NeverShut-front front (next_group old c ops ∷ g.after) whole)) none)
