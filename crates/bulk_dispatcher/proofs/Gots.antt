-- What all callers got is what the whole history got.
use Rattle.std.proofs.Common.{◌≡◌, ℕ, zero, suc, ◌+◌, ◌<◌, List, [], ◌∷◌, ◌++◌, length, map, replicate, refl, sym, ap, subst, ◌∙◌}
use Rattle.std.specs.List.{flat_map, range_with_len, zip, AllByRecursion}
use Rattle.std.specs.List.Sorted.{IsPermutation}
use Rattle.bq_model.specs.declared.op.Answer.{Answer}
use Rattle.bq_model.specs.declared.op.Answer.TheVariants.{Done, Got, Empty, Refused}
use Rattle.bq_model.specs.declared.group.Group.{Group}
use Rattle.bq_model.specs.History.{answers_of}
use Rattle.bq_model.specs.Own.{callers_of}
use Rattle.bulk_dispatcher.specs.Hands.{given, answers_to, Catch, caught_from, caught}
use Rattle.bulk_dispatcher.proofs.Parts.{part, IsPermutation-parts, flat_map-agree_within}
use Rattle.bulk_dispatcher.proofs.Catches.{seconds-zip, as_many}
use Rattle.bq_model.specs.Values.{got}

-- the values of what was caught
pub values_caught : (n : ℕ) (answers : List Answer) → map (λ (x : Catch). x.value) (caught_from n answers) ≡ got answers
values_caught n [] = refl
values_caught n (Done ∷ answers) = values_caught (n + 1) answers
values_caught n (Got v ∷ answers) = ap (λ vs. v ∷ vs) (values_caught (n + 1) answers)
values_caught n (Empty ∷ answers) = values_caught (n + 1) answers
values_caught n (Refused ∷ answers) = values_caught (n + 1) answers

pub got-append : (xs ys : List Answer) → got (xs ++ ys) ≡ got xs ++ got ys
got-append [] ys = refl
got-append (Done ∷ xs) ys = got-append xs ys
got-append (Got v ∷ xs) ys = ap (λ vs. v ∷ vs) (got-append xs ys)
got-append (Empty ∷ xs) ys = got-append xs ys
got-append (Refused ∷ xs) ys = got-append xs ys

-- answer by answer
abbrev value_of : ℕ × Answer → List ℕ
value_of p = got (p.1 ∷ [])

one_by_one : (ps : List (ℕ × Answer)) → flat_map value_of ps ≡ got (map (λ p. p.1) ps)
one_by_one [] = refl
one_by_one (p ∷ ps) = ap (λ vs. value_of p ++ vs) (one_by_one ps) ∙ sym (got-append (p.1 ∷ []) (map (λ q. q.1) ps))

replicated : (P : ℕ → Type 0) (n c : ℕ) (cs : List ℕ) → P c → AllByRecursion P cs → AllByRecursion P (replicate n c ++ cs)
replicated P zero c cs p h = h
replicated P (suc n) c cs p h = (p, replicated P n c cs p h)

callers_all : (P : ℕ → Type 0) (h : List Group) → AllByRecursion (λ g. P g.caller) h → AllByRecursion P (callers_of h)
callers_all P [] h = tt
callers_all P (g ∷ gs) h = replicated P (length g.ops) g.caller (callers_of gs) h.0 (callers_all P gs h.1)

zipped : {Y : Type 0} (P : ℕ → Type 0) (cs : List ℕ) (ys : List Y) → AllByRecursion P cs → AllByRecursion (λ p. P p.0) (zip cs ys)
zipped P [] ys h = tt
zipped P (c ∷ cs) [] h = tt
zipped P (c ∷ cs) (y ∷ ys) h = (h.0, zipped P cs ys h.1)

-- What the hands got together is what was got.
pub got_by_all : (hands : ℕ) (h : List Group) → AllByRecursion (λ g. g.caller < hands) h
    → IsPermutation (flat_map (λ c. map (λ (x : Catch). x.value) (caught h c)) (range_with_len 0 hands)) (got (answers_of h))
got_by_all hands h known =
    let parts = IsPermutation-parts (λ (p : ℕ × Answer). p.0) value_of hands (given h) (zipped (λ c. c < hands) (callers_of h) (answers_of h) (callers_all (λ c. c < hands) h known)) in
    let whole : flat_map value_of (given h) ≡ got (answers_of h) = one_by_one (given h) ∙ ap got (seconds-zip (callers_of h) (answers_of h) (as_many h)) in
    let same : flat_map (λ c. flat_map value_of (part (λ (p : ℕ × Answer). p.0) (given h) c)) (range_with_len 0 hands) ≡ flat_map (λ c. map (λ (x : Catch). x.value) (caught h c)) (range_with_len 0 hands) =
    flat_map-agree_within _ _ 0 hands (λ c _ _. one_by_one (part (λ (p : ℕ × Answer). p.0) (given h) c) ∙ sym (values_caught 0 (answers_to h c))) in
    subst (λ vs. IsPermutation (flat_map (λ c. map (λ (x : Catch). x.value) (caught h c)) (range_with_len 0 hands)) vs) whole (subst (λ vs. IsPermutation vs (flat_map value_of (given h))) same parts)
