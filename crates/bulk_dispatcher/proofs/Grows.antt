-- What a caller got, where a history grows.
use Rattle.std.proofs.Common.{◌≡◌, ◌≢◌, ℕ, zero, suc, ◌==◌, true, false, cond, List, [], ◌∷◌, ◌++◌, length, map, filter, replicate, refl, ap, subst, ◌∙◌, arith, ne_eqb, eq-eqb, inl, inr}
use Rattle.std.specs.List.{zip}
use Rattle.std.proofs.lemmas.Bool.{cases_eq}
use Rattle.std.proofs.lemmas.Grind.{flat_map-append}
use Rattle.std.proofs.lemmas.List.{append-nil, map-append}
use Rattle.std.proofs.lemmas.List.Elements.{filter-append}
use Rattle.bq_model.specs.declared.op.Answer.{Answer}
use Rattle.bq_model.specs.declared.group.Group.{Group}
use Rattle.bq_model.specs.Queue.{Queue, unshut}
use Rattle.bq_model.specs.Replay.{answers_from, queue_from}
use Rattle.bq_model.specs.History.{operations, answers_of, last_queue}
use Rattle.bq_model.specs.Own.{mine, callers_of}
use Rattle.bq_model.proofs.Histories.{answers_from-append}
use Rattle.bq_model.proofs.Growing.{operations-append}
use Rattle.bulk_dispatcher.specs.Hands.{given, answers_to, caught_from, caught}
use Rattle.bulk_dispatcher.proofs.Catches.{length-answers_from, as_many}

pub callers_of-append : (h more : List Group) → callers_of (h ++ more) ≡ callers_of h ++ callers_of more
callers_of-append h more = flat_map-append (λ (g : Group). replicate (length g.ops) g.caller) h more

zip-append : {X Y : Type 0} (xs us : List X) (ys vs : List Y) → length xs ≡ length ys → zip (xs ++ us) (ys ++ vs) ≡ zip xs ys ++ zip us vs
zip-append [] us [] vs e = refl
zip-append [] us (y ∷ ys) vs e = absurd (omega (arith, e))
zip-append (x ∷ xs) us [] vs e = absurd (omega (arith, e))
zip-append (x ∷ xs) us (y ∷ ys) vs e = ap (λ ps. (x, y) ∷ ps) (zip-append xs us ys vs (omega (arith, e)))

-- the answers to caller c among groups, after this queue
abbrev pub answers_in : Queue → List Group → ℕ → List Answer
answers_in q h c = map (λ p. p.1) (filter (λ p. p.0 == c) (zip (callers_of h) (answers_from q (operations h))))

pub answers_to-append : (h more : List Group) (c : ℕ) → answers_to (h ++ more) c ≡ answers_to h c ++ answers_in (last_queue h) more c
answers_to-append h more c =
    let answers : answers_of (h ++ more) ≡ answers_of h ++ answers_from (last_queue h) (operations more) = ap (answers_from (unshut [])) (operations-append h more) ∙ answers_from-append (unshut []) (operations h) (operations more) in
    let pairs : given (h ++ more) ≡ given h ++ zip (callers_of more) (answers_from (last_queue h) (operations more)) =
    ap (λ cs. zip cs (answers_of (h ++ more))) (callers_of-append h more) ∙ ap (zip (callers_of h ++ callers_of more)) answers
    ∙ zip-append (callers_of h) (callers_of more) (answers_of h) (answers_from (last_queue h) (operations more)) (as_many h) in
    ap (λ ps. map (λ p. p.1) (filter (λ p. p.0 == c) ps)) pairs
    ∙ ap (map (λ p. p.1)) (filter-append (λ p. p.0 == c) (given h) (zip (callers_of more) (answers_from (last_queue h) (operations more))))
    ∙ map-append (λ (p : ℕ × Answer). p.1) (filter (λ p. p.0 == c) (given h)) (filter (λ p. p.0 == c) (zip (callers_of more) (answers_from (last_queue h) (operations more))))

-- answers to one caller's operations
all_own : (n c d : ℕ) (cs : List ℕ) (xs ys : List Answer) → (d == c) ≡ true → length xs ≡ n → map (λ p. p.1) (filter (λ p. p.0 == c) (zip (replicate n d ++ cs) (xs ++ ys))) ≡ xs ++ map (λ p. p.1) (filter (λ p. p.0 == c) (zip cs ys))
all_own zero c d cs [] ys e l = refl
all_own zero c d cs (x ∷ xs) ys e l = absurd (omega (arith, l))
all_own (suc n) c d cs [] ys e l = absurd (omega (arith, l))
all_own (suc n) c d cs (x ∷ xs) ys e l = rw e (ap (λ zs. x ∷ zs) (all_own n c d cs xs ys e (omega (arith, l))))

no_own : (n c d : ℕ) (cs : List ℕ) (xs ys : List Answer) → (d == c) ≡ false → length xs ≡ n → map (λ p. p.1) (filter (λ p. p.0 == c) (zip (replicate n d ++ cs) (xs ++ ys))) ≡ map (λ p. p.1) (filter (λ p. p.0 == c) (zip cs ys))
no_own zero c d cs [] ys e l = refl
no_own zero c d cs (x ∷ xs) ys e l = absurd (omega (arith, l))
no_own (suc n) c d cs [] ys e l = absurd (omega (arith, l))
no_own (suc n) c d cs (x ∷ xs) ys e l = rw e (no_own n c d cs xs ys e (omega (arith, l)))

-- group by group
pub answers_in-own : (q : Queue) (g : Group) (h : List Group) (c : ℕ) → g.caller ≡ c → answers_in q (g ∷ h) c ≡ answers_from q g.ops ++ answers_in (queue_from q g.ops) h c
answers_in-own q g h c e =
    ap (λ as'. map (λ p. p.1) (filter (λ p. p.0 == c) (zip (replicate (length g.ops) g.caller ++ callers_of h) as'))) (answers_from-append q g.ops (operations h))
    ∙ all_own (length g.ops) c g.caller (callers_of h) (answers_from q g.ops) (answers_from (queue_from q g.ops) (operations h)) (eq-eqb g.caller c e) (length-answers_from q g.ops)

pub answers_in-other : (q : Queue) (g : Group) (h : List Group) (c : ℕ) → g.caller ≢ c → answers_in q (g ∷ h) c ≡ answers_in (queue_from q g.ops) h c
answers_in-other q g h c e =
    ap (λ as'. map (λ p. p.1) (filter (λ p. p.0 == c) (zip (replicate (length g.ops) g.caller ++ callers_of h) as'))) (answers_from-append q g.ops (operations h))
    ∙ no_own (length g.ops) c g.caller (callers_of h) (answers_from q g.ops) (answers_from (queue_from q g.ops) (operations h)) (ne_eqb g.caller c e) (length-answers_from q g.ops)

-- where none of the groups is the caller's
pub answers_in-none : (q : Queue) (h : List Group) (c : ℕ) → mine h c ≡ [] → answers_in q h c ≡ []
answers_in-none q [] c e = refl
answers_in-none q (g ∷ h) c e =
    elim (cases_eq g.caller c) [
      | inl same ↦
          let own : (g.caller == c) ≡ true = eq-eqb g.caller c same in
          let some : g ∷ mine h c ≡ [] = subst (λ b. cond b (g ∷ mine h c) (mine h c) ≡ []) own e in
          cc some
      | inr other ↦
          let off : (g.caller == c) ≡ false = ne_eqb g.caller c other in
          answers_in-other q g h c other ∙ answers_in-none (queue_from q g.ops) h c (subst (λ b. cond b (g ∷ mine h c) (mine h c) ≡ []) off e)
    ]

pub answers_to-later : (h more : List Group) (c : ℕ) → mine more c ≡ [] → answers_to (h ++ more) c ≡ answers_to h c
answers_to-later h more c e = answers_to-append h more c ∙ ap (λ xs. answers_to h c ++ xs) (answers_in-none (last_queue h) more c e) ∙ append-nil (answers_to h c)

pub caught-later : (h more : List Group) (c : ℕ) → mine more c ≡ [] → caught (h ++ more) c ≡ caught h c
caught-later h more c e = ap (caught_from 0) (answers_to-later h more c e)
