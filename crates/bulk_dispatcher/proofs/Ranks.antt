-- What is told of the elements of a list beside their numbers, with one element more or less at its end.
use Rattle.std.proofs.Common.{◌≡◌, ℕ, suc, ◌+◌, List, [], ◌∷◌, ◌++◌, length, sym, subst, ◌∙◌, arith, add-zero}
use Rattle.std.specs.List.{AllZip, range_with_len}

zip_from : {X : Type 0} (R : ℕ → X → Type 0) (a : ℕ) (xs : List X) (x : X) → AllZip R (range_with_len a (length xs)) xs → R (a + length xs) x → AllZip R (range_with_len a (length (xs ++ x ∷ []))) (xs ++ x ∷ [])
zip_from R a [] x h r = (subst (λ k. R k x) (add-zero a) r, tt)
zip_from R a (y ∷ xs) x h r = (h.0, zip_from R (a + 1) xs x h.1 (subst (λ k. R k x) (omega arith) r))

pub one_more : {X : Type 0} (R : ℕ → X → Type 0) (hand : ℕ) (xs ys : List X) (x : X) → ys ≡ xs ++ x ∷ [] → length xs ≡ hand → AllZip R (range_with_len 0 (length xs)) xs → R hand x → AllZip R (range_with_len 0 (length ys)) ys
one_more R hand xs ys x e l h r =
    subst (λ zs. AllZip R (range_with_len 0 (length zs)) zs) (sym e) (zip_from R 0 xs x h (subst (λ k. R k x) (sym l ∙ omega arith) r))

zip_without : {X : Type 0} (R : ℕ → X → Type 0) (a : ℕ) (xs : List X) (x : X) → AllZip R (range_with_len a (length (xs ++ x ∷ []))) (xs ++ x ∷ []) → AllZip R (range_with_len a (length xs)) xs × R (a + length xs) x
zip_without R a [] x h = (tt, subst (λ k. R k x) (sym (add-zero a)) h.0)
zip_without R a (y ∷ xs) x h = let rest = zip_without R (a + 1) xs x h.1 in ((h.0, rest.0), subst (λ k. R k x) (let e : a + 1 + length xs ≡ a + suc (length xs) = omega arith in e) rest.1)

pub all_but_one : {X : Type 0} (R : ℕ → X → Type 0) (all xs : List X) (x : X) → all ≡ xs ++ x ∷ [] → AllZip R (range_with_len 0 (length all)) all → AllZip R (range_with_len 0 (length xs)) xs × R (length xs) x
all_but_one R all xs x e h =
    let both = zip_without R 0 xs x (subst (λ zs. AllZip R (range_with_len 0 (length zs)) zs) e h) in
    (both.0, subst (λ k. R k x) (let z : 0 + length xs ≡ length xs = omega arith in z) both.1)
