-- Numbers of several callers, and their sum.
use Rattle.std.proofs.Common.{◌≡◌, ◌≢◌, ℕ, zero, suc, ◌+◌, ◌<◌, ◌≤◌, Bool, cond, List, [], ◌∷◌, length, take, get_or, sum_by, refl, sym, ap, ◌∙◌, subst, arith, eq-eqb, ne_eqb}
use Rattle.std.proofs.Math.Seq.{take-length}
use Rattle.std.proofs.lemmas.List.Sums.{sum_by_more}
use mathlib.Core.Logic.{dite}
use native.Mathlib.Decide.{ℕ_discrete}
use Rattle.std.specs.List.{AllByRecursion}
use Rattle.bq_model.specs.declared.group.Group.{Group}
use Rattle.bq_model.specs.Own.{mine}

pub total : ℕ → (ℕ → ℕ) → ℕ
total zero f = 0
total (suc n) f = total n f + f n

pub total_le : (n : ℕ) (f g : ℕ → ℕ) → ((c : ℕ) → c < n → f c ≤ g c) → total n f ≤ total n g
unfolding total
total_le zero f g le = omega arith
total_le (suc n) f g le = let rest = total_le n f g (λ c below. le c (omega arith)) in let last = le n (omega arith) in omega arith

pub total_same : (n : ℕ) (f g : ℕ → ℕ) → ((c : ℕ) → c < n → f c ≡ g c) → total n f ≡ total n g
unfolding total
total_same zero f g same = refl
total_same (suc n) f g same = let rest = total_same n f g (λ c below. same c (omega arith)) in let last = same n (omega arith) in omega arith

-- one of them rises by one
pub total_bump : (n x : ℕ) (f g : ℕ → ℕ) → x < n → g x ≡ suc (f x) → ((c : ℕ) → c ≢ x → g c ≡ f c) → total n g ≡ suc (total n f)
unfolding total
total_bump zero x f g below here else = absurd (omega arith)
total_bump (suc n) x f g below here else = dite (ℕ_discrete x n)
    (λ same. let rest = total_same n g f (λ c less. else c (λ e. absurd (omega arith))) in let last = subst (λ (i : ℕ). g i ≡ suc (f i)) same here in omega arith)
    (λ apart. let rest = total_bump n x f g (omega arith) here else in let last = else n (λ e. apart (sym e)) in omega arith)

-- each of them rises by one
pub total_all : (n : ℕ) (f g : ℕ → ℕ) → ((c : ℕ) → c < n → g c ≤ suc (f c)) → total n g ≤ total n f + n
unfolding total
total_all zero f g le = omega arith
total_all (suc n) f g le = let rest = total_all n f g (λ c below. le c (omega arith)) in let last = le n (omega arith) in omega arith

none_made : (n : ℕ) → total n (λ c. length (mine [] c)) ≡ 0
unfolding total
none_made zero = refl
none_made (suc n) = let rest = none_made n in omega arith

-- the groups of a history are those of its callers
pub total_groups : (n : ℕ) (h : List Group) → AllByRecursion (λ (g : Group). g.caller < n) h → total n (λ c. length (mine h c)) ≡ length h
total_groups n [] all = none_made n
total_groups n (g ∷ h) all = total_bump n g.caller (λ c. length (mine h c)) (λ c. length (mine (g ∷ h) c)) all.0
    (ap (λ (b : Bool). length (cond b (g ∷ mine h g.caller) (mine h g.caller))) (eq-eqb g.caller g.caller refl))
    (λ c apart. ap (λ (b : Bool). length (cond b (g ∷ mine h c) (mine h c))) (ne_eqb g.caller c (λ e. apart (sym e))))
    ∙ ap suc (total_groups n h all.1)

-- a sum over a list, by the places of its elements
total_take : {A : Type 0} → (f : A → ℕ) (d : A) (xs : List A) (n : ℕ) → n ≤ length xs → total n (λ c. f (get_or xs c d)) ≡ sum_by f (take n xs)
unfolding total
total_take f d xs zero le = refl
total_take f d xs (suc n) le = let rest = total_take f d xs n (omega arith) in let more = sum_by_more f xs n d (omega arith) in
    let e : sum_by f (take (n + 1) xs) ≡ sum_by f (take (suc n) xs) = ap (λ (m : ℕ). sum_by f (take m xs)) (let one : n + 1 ≡ suc n = omega arith in one) in omega arith

pub total_list : {A : Type 0} → (f : A → ℕ) (d : A) (xs : List A) (n : ℕ) → n ≡ length xs → total n (λ c. f (get_or xs c d)) ≡ sum_by f xs
total_list f d xs n is = total_take f d xs n (omega arith) ∙ ap (sum_by f) (ap (λ (m : ℕ). take m xs) is ∙ take-length xs)
