-- How many rows a batch links.
use Rattle.std.proofs.Common.{◌≡◌, ℕ, suc, ◌+◌, ◌<◌, ◌≤◌, eqb, ltb, ◌&&◌, Bool, true, false, cond, refl, ap, ◌∙◌, arith, eq-eqb, ne_eqb}
use Rattle.std.proofs.lemmas.Bool.{lt-ltb, ltb-true, ltb-false, eqb-true, and_from}
use mathlib.Core.Logic.{dite}
use native.Mathlib.Decide.{ℕ_discrete, dec_le}
use Rattle.excess_count.specs.declared.counts.Counts.{Counts}
use Rattle.lane_steps.specs.Stopper.{chain_rows, is_stopped, stoppers, linked_rows}

-- a row of an enqueue is one of the chain
pub enqs_chain : (k : Counts) (l : ℕ) → l < k.enqs → l < chain_rows k
enqs_chain k l below = omega arith

module _ (k : Counts) where
  pub chain_some : 0 < k.enqs → chain_rows k ≡ k.enqs
  chain_some some = ap (λ (b : Bool). k.enqs + cond b 1 0) (ne_eqb k.enqs 0 (λ e. omega arith)) ∙ (let e : k.enqs + 0 ≡ k.enqs = omega arith in e)

  pub chain_none : k.enqs ≡ 0 → chain_rows k ≡ 1
  chain_none none = ap (λ (b : Bool). k.enqs + cond b 1 0) (eq-eqb k.enqs 0 none) ∙ (let e : k.enqs + 1 ≡ 1 = omega arith in e)

  pub chain_pos : 0 < chain_rows k
  chain_pos = dite (ℕ_discrete k.enqs 0) (λ none. let one = chain_none none in omega arith) (λ some. omega arith)

  -- where a stopper is wanted it is linked
  stopped : (n : ℕ) → k.enqs ≡ 0 → n < k.deqs → is_stopped k n ≡ true
  stopped n none few = and_from (eqb k.enqs 0) (ltb n k.deqs) (eq-eqb k.enqs 0 none) (lt-ltb n k.deqs few)

  -- what is wanted is linked
  pub linked_all : (n : ℕ) → (k.enqs ≡ 0 → n < k.deqs) → linked_rows k n ≡ chain_rows k
  linked_all n few = by (eqb k.enqs 0) (ltb n k.deqs) refl refl where
    by : (a b : Bool) → eqb k.enqs 0 ≡ a → ltb n k.deqs ≡ b → k.enqs + cond (a && b) 1 0 ≡ k.enqs + cond a 1 0
    by true true _ _ = refl
    by true false ea eb = let le = ltb-false n k.deqs eb in let less = few (eqb-true k.enqs 0 ea) in absurd (omega arith)
    by false b _ _ = refl

  -- where nothing is linked, there is no enqueue, and enough is there
  pub linked_none : (n : ℕ) → linked_rows k n ≡ 0 → (k.enqs ≡ 0) × (k.deqs ≤ n)
  linked_none n none = let enqs : k.enqs ≡ 0 = omega arith in (enqs, dite (dec_le k.deqs n) (λ l. l) (λ no. let one = ap (λ (b : Bool). k.enqs + cond b 1 0) (stopped n enqs (omega arith)) in absurd (omega arith)))

  -- dequeues alone that get too few link a stopper, and all others none
  pub stopper_one : (n : ℕ) → k.enqs ≡ 0 → n < k.deqs → stoppers k n ≡ 1
  stopper_one n none few = ap (λ (b : Bool). cond b 1 0) (stopped n none few)

  pub stopper_none : (n : ℕ) → (k.enqs ≡ 0 → k.deqs ≤ n) → stoppers k n ≡ 0
  stopper_none n enough = by (eqb k.enqs 0) (ltb n k.deqs) refl refl where
    by : (a b : Bool) → eqb k.enqs 0 ≡ a → ltb n k.deqs ≡ b → ◌≡◌ {A = ℕ} (cond (a && b) 1 0) 0
    by true true ea eb = let less = ltb-true n k.deqs eb in let le = enough (eqb-true k.enqs 0 ea) in absurd (omega arith)
    by true false _ _ = refl
    by false b _ _ = refl

  -- where dequeues alone link a stopper, they find too few
  pub linked_few : (n : ℕ) → k.enqs ≡ 0 → 0 < linked_rows k n → n < k.deqs
  linked_few n none some = dite (dec_le (suc n) k.deqs) (λ l. l) (λ no. let zero = stopper_none n (λ _. let le : k.deqs ≤ n = omega arith in le) in absurd (omega arith))
