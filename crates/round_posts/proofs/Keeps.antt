-- Each step of the parker keeps its rule.
use Rattle.std.proofs.Common.{◌≡◌, ℕ, zero, suc, ◌+◌, ◌≤◌, Bool, true, false, List, [], ◌∷◌, set, refl, sym, ap, arith}
use mathlib.Core.Option.{some, some-injective, some-ne-none}
use lib.ListN.{get_elem?}
use Rattle.std.specs.List.{sum_by}
use Rattle.std.proofs.lemmas.List.Sums.{sum_by-cons, sum_by_push}
use Rattle.crossbeam_utils.specs.Register.{Turns, TurnsAt, Forks}
use Rattle.round_posts.specs.declared.law.Tally.{Tally}
use Rattle.round_posts.specs.Law.{IsPosted, tally, worth}

-- a sum over the passes after one of them changed
sum_set : {A : Type 0} (f : A → ℕ) (passes : List A) (i : ℕ) (v w : A) → get_elem? passes i ≡ some v → sum_by f (set passes i w) + f v ≡ sum_by f passes + f w
sum_set f [] i v w e = absurd (some-ne-none v (sym e))
sum_set f (x ∷ xs) zero v w e =
    let a = sum_by-cons f w xs in
    let b = sum_by-cons f x xs in
    let h : f x ≡ f v = ap f (some-injective x v e) in
    omega (arith, a, b, h)
sum_set f (x ∷ xs) (suc i) v w e =
    let a = sum_by-cons f x (set xs i w) in
    let b = sum_by-cons f x xs in
    let h = sum_set f xs i v w e in
    omega (arith, a, b, h)

worth-le : (token : Bool) → 0 ≤ worth token
worth-le true = omega arith
worth-le false = omega arith

pub posts : (pass : ℕ) (v : Tally) → Turns IsPosted pass v (λ _. true) (λ before _ _ after. after ≡ tally (before.posts + 1) before.takes)
posts pass v token passes held at =
    let w : Tally = tally (v.posts + 1) v.takes in
    let p = sum_set (λ pass. pass.posts) passes pass v w at in
    let t = sum_set (λ pass. pass.takes) passes pass v w at in
    let z = worth-le token in
    (w, omega (arith, held, p, t, z), refl)

pub takes : (pass : ℕ) (v : Tally) → TurnsAt IsPosted pass v true false (λ before _ _ after. after ≡ tally before.posts (before.takes + 1))
takes pass v passes held at =
    let w : Tally = tally v.posts (v.takes + 1) in
    let p = sum_set (λ pass. pass.posts) passes pass v w at in
    let t = sum_set (λ pass. pass.takes) passes pass v w at in
    (w, omega (arith, held, p, t), refl)

pub forks : (pass : ℕ) (v : Tally) → Forks IsPosted pass v (tally v.posts 0) (tally 0 v.takes)
forks pass v token passes held at =
    let left : Tally = tally v.posts 0 in
    let right : Tally = tally 0 v.takes in
    let p = sum_set (λ pass. pass.posts) passes pass v left at in
    let t = sum_set (λ pass. pass.takes) passes pass v left at in
    let p' = sum_by_push (λ (pass : Tally). pass.posts) (set passes pass left) right in
    let t' = sum_by_push (λ (pass : Tally). pass.takes) (set passes pass left) right in
    omega (arith, held, p, t, p', t')
