-- Texts put at the places of jobs, one after another.
use Rattle.std.proofs.Common.{◌≡◌, ◌≢◌, ℕ, zero, suc, ◌+◌, ◌<◌, ◌≤◌, List, [], ◌∷◌, length, get_or, drop, map, set, refl, sym, ap, subst, ◌∙◌, arith, All, Contains, ◌⊎◌, inl, inr, ⊎_elim, slice_index_or, slice_set, length-set, get_or-set_same, get_or-set_other}
use Rattle.std.specs.List.{AllZip}
use Rattle.std.proofs.lemmas.Bool.{cases_eq}
use Rattle.std.proofs.lemmas.List.{drop_more, drop_all}
use Rattle.std.proofs.lemmas.List.Elements.{All-head, All-tail, All-weaker}
use Rattle.dep_jobs.specs.Texts.{put_all}

pub length-put_all : (texts : List (List ℕ)) (numbers : List ℕ) (new : List (List ℕ)) → length (put_all texts numbers new) ≡ length texts
length-put_all texts [] new = refl
length-put_all texts (number ∷ numbers) [] = refl
length-put_all texts (number ∷ numbers) (text ∷ new) = length-put_all (set texts number text) numbers new ∙ length-set texts number text

Contains-cases : (x : ℕ) (xs : List ℕ) (q : ℕ) → Contains (x ∷ xs) q → (x ≡ q) ⊎ Contains xs q
Contains-cases x xs q (zero, within, same) = inl same
Contains-cases x xs q (suc k, within, same) = inr (k, omega arith, same)

-- where each text that is put is what the answers have at its place, so is each place that is put or had it before
pub put_all-at : (answers texts : List (List ℕ)) (numbers : List ℕ) (new : List (List ℕ)) (q : ℕ) → AllZip (λ k text. text ≡ get_or answers k []) numbers new → All (λ k. k < length texts) numbers
    → (get_or texts q [] ≡ get_or answers q []) ⊎ Contains numbers q → get_or (put_all texts numbers new) q [] ≡ get_or answers q []
put_all-at answers texts [] new q are within known = ⊎_elim (λ same. same) (λ among. (let none = among.1 in absurd (omega arith))) known
put_all-at answers texts (k ∷ numbers) [] q are within known = absurd are
put_all-at answers texts (k ∷ numbers) (text ∷ new) q are within known =
    let longer = length-set texts k text in
    let here = All-head (λ j. j < length texts) k numbers within in
    let rest = All-weaker (λ j. j < length texts) (λ j. j < length (set texts k text)) (λ j low. omega arith) numbers (All-tail (λ j. j < length texts) k numbers within) in
    let next = put_all-at answers (set texts k text) numbers new q are.1 rest in
    let put_here : k ≡ q → get_or (set texts k text) q [] ≡ get_or answers q [] =
    λ same. subst (λ j. get_or (set texts k text) j [] ≡ get_or answers j []) same (get_or-set_same texts k text [] here ∙ are.0) in
    ⊎_elim
    (λ before. ⊎_elim (λ (same : k ≡ q). next (inl (put_here same)))
    (λ (other : k ≢ q). next (inl (get_or-set_other texts k q text [] (λ e. other (sym e)) ∙ before))) (cases_eq k q))
    (λ among. ⊎_elim (λ same. next (inl (put_here same))) (λ later. next (inr later)) (Contains-cases k numbers q among))
    known

-- one text more
pub put_all-more : (texts : List (List ℕ)) (numbers : List ℕ) (new : List (List ℕ)) (i : ℕ) (all : List (List ℕ)) → i < length numbers → i < length new
    → put_all texts (drop i numbers) (drop i new) ≡ all → put_all (set texts (get_or numbers i 0) (get_or new i [])) (drop (i + 1) numbers) (drop (i + 1) new) ≡ all
put_all-more texts numbers new i all in_numbers in_new before =
    let number_is = drop_more numbers i 0 in_numbers in
    let text_is = drop_more new i [] in_new in
    sym (ap (λ (ks : List ℕ). put_all texts ks (drop i new)) number_is ∙ ap (put_all texts (get_or numbers i 0 ∷ drop (i + 1) numbers)) text_is) ∙ before

-- no text more
pub put_all-done : (texts : List (List ℕ)) (numbers : List ℕ) (new : List (List ℕ)) (i : ℕ) (all : List (List ℕ)) → length numbers ≤ i → put_all texts (drop i numbers) (drop i new) ≡ all → texts ≡ all
put_all-done texts numbers new i all past before = sym (ap (λ (ks : List ℕ). put_all texts ks (drop i new)) (drop_all i numbers past)) ∙ before
