-- One pass more is gathered.
use Rattle.std.proofs.Common.{◌≡◌, ◌<◌, suc, map, get_or, ℕ, ◌+◌, List, [], ◌∷◌, ◌++◌, length, sym, subst, arith, add-zero, zero-add}
use Rattle.std.specs.List.{AllZip, AllByRecursion, range_with_len}
use Rattle.bq_model.specs.declared.group.Group.{Group}
use Rattle.bq_model.specs.Grows.{SawMore}
use Rattle.bq_model.proofs.Growing.{SawMore-trans}

zip_with_all : {A B : Type 0} (P : A → Type 0) (R Q : A → B → Type 0) → ((x : A) (y : B) → P x → R x y → Q x y) → (xs : List A) (ys : List B) → AllByRecursion P xs → AllZip R xs ys → AllZip Q xs ys
zip_with_all P R Q f [] [] p h = tt
zip_with_all P R Q f [] (y ∷ ys) p h = absurd h
zip_with_all P R Q f (x ∷ xs) [] p h = absurd h
zip_with_all P R Q f (x ∷ xs) (y ∷ ys) p h = (f x y p.0 h.0, zip_with_all P R Q f xs ys p.1 h.1)

zip_more : {X : Type 0} (R : ℕ → X → Type 0) (a : ℕ) (xs : List X) (x : X) → AllZip R (range_with_len a (length xs)) xs → R (a + length xs) x → AllZip R (range_with_len a (length (xs ++ x ∷ []))) (xs ++ x ∷ [])
zip_more R a [] x h r = (subst (λ k. R k x) (add-zero a) r, tt)
zip_more R a (y ∷ xs) x h r = (h.0, zip_more R (a + 1) xs x h.1 (subst (λ k. R k x) (omega arith) r))

-- the histories that the passes of callers 0, 1 and so on have seen, all at the beginning of one
abbrev pub AllBegin : List (List Group) → List Group → Type 0
AllBegin seen all = AllZip (λ c h. SawMore c h all) (range_with_len 0 (length seen)) seen

-- what `gather` ensures, at the pass of the callers so far and that of the next one
pub gathered : (seen : List (List Group)) (front last all : List Group) → AllBegin seen front → AllByRecursion (λ c. SawMore c front all) (range_with_len 0 (length seen)) → SawMore (length seen) last all → AllBegin (seen ++ last ∷ []) all
gathered seen front last all h kept next =
    zip_more (λ c x. SawMore c x all) 0 seen last
    (zip_with_all (λ c. SawMore c front all) (λ c x. SawMore c x front) (λ c x. SawMore c x all) (λ c x more begun. SawMore-trans c x front all begun more) (range_with_len 0 (length seen)) seen kept h)
    (subst (λ k. SawMore k last all) (sym (zero-add (length seen))) next)

zip_from_places : {A B : Type 0} (R : A → B → Type 0) (d : A) (e : B) (xs : List A) (ys : List B) → length xs ≡ length ys → ((k : ℕ) → k < length ys → R (get_or xs k d) (get_or ys k e)) → AllZip R xs ys
zip_from_places R d e [] [] l h = tt
zip_from_places R d e [] (y ∷ ys) l h = absurd (omega (arith, l))
zip_from_places R d e (x ∷ xs) [] l h = absurd (omega (arith, l))
zip_from_places R d e (x ∷ xs) (y ∷ ys) l h = (h 0 (omega arith), zip_from_places R d e xs ys (omega (arith, l)) (λ k m. h (suc k) (omega (arith, m))))

-- what the callers from a on have seen of lane k, where each row is of one caller
abbrev pub column : List (List (List Group)) → ℕ → List (List Group)
column rows k = map (λ row. get_or row k []) rows

abbrev pub BeginFrom : ℕ → List (List Group) → List Group → Type 0
BeginFrom a seen all = AllZip (λ c h. SawMore c h all) (range_with_len a (length seen)) seen

-- From lane by lane to caller by caller.
pub by_caller : (a : ℕ) (rows : List (List (List Group))) (books : List (List Group)) → AllByRecursion (λ row. length row ≡ length books) rows → ((k : ℕ) → k < length books → BeginFrom a (column rows k) (get_or books k []))
    → AllZip (λ c row. AllZip (SawMore c) row books) (range_with_len a (length rows)) rows
by_caller a [] books l h = tt
by_caller a (row ∷ rows) books l h =
    (zip_from_places (SawMore a) [] [] row books l.0 (λ k m. (h k m).0), by_caller (a + 1) rows books l.1 (λ k m. (h k m).1))
