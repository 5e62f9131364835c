-- All rows get one element more, or give up their last one, and what this does to what is told of them.
use Rattle.std.proofs.Common.{◌≡◌, ℕ, zero, suc, ◌+◌, List, [], ◌∷◌, ◌++◌, Some, length, map, reverse, refl, sym, ap, subst, ◌∙◌, arith, append_assoc, length-append, All}
use Rattle.std.proofs.lemmas.List.{map-append, length-map, reverse-append, append-nil}
use Rattle.std.proofs.lemmas.List.FromFn.{length-map-range_with_len}
use Rattle.std.proofs.lemmas.List.Elements.{All-push, All-pop, All-nil, All-cons, All-head, All-tail}
use Rattle.std.specs.List.{range_with_len, AllZip}
use Rattle.job_lanes.specs.Rows.{AtEach, Longer, Ends}
use Rattle.job_lanes.proofs.Dealing.{last_of_both}

-- from what is told of the rows before, to what is told of them afterwards
pub zip_along : {X Y : Type 0} (P : ℕ → X → Type 0) (R : ℕ → X → Y → Type 0) (Q : ℕ → Y → Type 0) (c n : ℕ) (xs : List X) (ys : List Y) → ((k : ℕ) (x : X) (y : Y) → P k x → R k x y → Q k y) → AllZip P (range_with_len c n) xs → AtEach R c xs ys → AllZip Q (range_with_len c n) ys
zip_along P R Q c n [] [] f h r = none n h
  where
    none : (n : ℕ) → AllZip P (range_with_len c n) [] → AllZip Q (range_with_len c n) []
    none zero h = h
    none (suc n) h = absurd h
zip_along P R Q c n [] (y ∷ ys) f h r = absurd r
zip_along P R Q c n (x ∷ xs) [] f h r = absurd r
zip_along P R Q c zero (x ∷ xs) (y ∷ ys) f h r = absurd h
zip_along P R Q c (suc n) (x ∷ xs) (y ∷ ys) f h r = (f c x y h.0 r.0, zip_along P R Q (c + 1) n xs ys f h.1 r.1)

-- and back
pub zip_back : {X Y : Type 0} (P : ℕ → Y → Type 0) (R : ℕ → X → Y → Type 0) (Q : ℕ → X → Type 0) (c n : ℕ) (xs : List X) (ys : List Y) → ((k : ℕ) (x : X) (y : Y) → P k y → R k x y → Q k x) → AllZip P (range_with_len c n) ys → AtEach R c xs ys → AllZip Q (range_with_len c n) xs
zip_back P R Q c n [] [] f h r = none n h
  where
    none : (n : ℕ) → AllZip P (range_with_len c n) [] → AllZip Q (range_with_len c n) []
    none zero h = h
    none (suc n) h = absurd h
zip_back P R Q c n [] (y ∷ ys) f h r = absurd r
zip_back P R Q c n (x ∷ xs) [] f h r = absurd r
zip_back P R Q c zero (x ∷ xs) (y ∷ ys) f h r = absurd h
zip_back P R Q c (suc n) (x ∷ xs) (y ∷ ys) f h r = (f c x y h.0 r.0, zip_back P R Q (c + 1) n xs ys f h.1 r.1)

pub each_then : {X Y Z : Type 0} (A : ℕ → X → Y → Type 0) (B : ℕ → Y → Z → Type 0) (C : ℕ → X → Z → Type 0) (c : ℕ) (xs : List X) (ys : List Y) (zs : List Z) → ((k : ℕ) (x : X) (y : Y) (z : Z) → A k x y → B k y z → C k x z) → AtEach A c xs ys → AtEach B c ys zs → AtEach C c xs zs
each_then A B C c [] [] [] f a b = tt
each_then A B C c [] [] (z ∷ zs) f a b = absurd b
each_then A B C c [] (y ∷ ys) zs f a b = absurd a
each_then A B C c (x ∷ xs) [] zs f a b = absurd a
each_then A B C c (x ∷ xs) (y ∷ ys) [] f a b = absurd b
each_then A B C c (x ∷ xs) (y ∷ ys) (z ∷ zs) f a b = (f c x y z a.0 b.0, each_then A B C (c + 1) xs ys zs f a.1 b.1)

pub each_itself : {X : Type 0} (R : ℕ → X → X → Type 0) (c : ℕ) (xs : List X) → ((k : ℕ) (x : X) → R k x x) → AtEach R c xs xs
each_itself R c [] f = tt
each_itself R c (x ∷ xs) f = (f c x, each_itself R (c + 1) xs f)

pub each-length : {X Y : Type 0} (R : ℕ → X → Y → Type 0) (c : ℕ) (xs : List X) (ys : List Y) → AtEach R c xs ys → length ys ≡ length xs
each-length R c [] [] h = refl
each-length R c [] (y ∷ ys) h = absurd h
each-length R c (x ∷ xs) [] h = absurd h
each-length R c (x ∷ xs) (y ∷ ys) h = ap (λ n. suc n) (each-length R (c + 1) xs ys h.1)

pub map_longer : {X Y : Type 0} (f : X → Y) (xs ys : List X) (x : X) (vs : List Y) (v : Y) → ys ≡ xs ++ x ∷ [] → map f xs ≡ vs → f x ≡ v → map f ys ≡ vs ++ v ∷ []
map_longer f xs ys x vs v e h r = ap (map f) e ∙ map-append f xs (x ∷ []) ∙ (λ i. h i ++ r i ∷ [])

pub all_longer : {X : Type 0} (P : X → Type 0) (xs ys : List X) (x : X) → ys ≡ xs ++ x ∷ [] → All P xs → P x → All P ys
all_longer P xs ys x e h r = subst (All P) (sym e) (All-push P xs x h r)

-- a row of which f tells these values, the last of which is v
pub ends_like : {X Y : Type 0} (f : X → Y) (row : List X) (vs : List Y) (v : Y) → map f row ≡ vs ++ v ∷ [] → Ends (λ x. f x ≡ v) row
ends_like f [] [] v e = absurd (cc e)
ends_like f [] (w ∷ vs) v e = absurd (cc e)
ends_like f (x ∷ []) [] v e = record { rest = []; last = x; holds = cc e; stands = refl }
ends_like f (x ∷ y ∷ row) [] v e = absurd (cc e)
ends_like f (x ∷ row) (w ∷ vs) v e =
    let more = ends_like f row vs v (cc e) in
    record { rest = x ∷ more.rest; last = more.last; holds = more.holds; stands = ap (λ xs. x ∷ xs) more.stands }

-- what f tells of a row without its last element
pub map_shorter : {X Y : Type 0} (f : X → Y) (row rest : List X) (x : X) (vs : List Y) (v : Y) → row ≡ rest ++ x ∷ [] → map f row ≡ vs ++ v ∷ [] → map f rest ≡ vs
map_shorter f row rest x vs v e h =
    let both = sym (ap (map f) e ∙ map-append f rest (x ∷ [])) ∙ h in
    let count : length (map f rest) ≡ length vs = let one = ap length both in omega (arith, one, length-append (map f rest) (f x ∷ []), length-append vs (v ∷ [])) in
    (last_of_both (map f rest) vs (f x) v count both).0

-- The row has given up its last elements, each to the book that stands in this order among those that were made.
pub record Gone {S B : Type 0} (Q : S → B → Type 0) (books : List B) (old now : List S) : Type 0 where
  pub gone : List S
  pub parts : old ≡ now ++ gone
  pub kept : AllZip Q gone (reverse books)

pub gone-none : {S B : Type 0} {Q : S → B → Type 0} (books : List B) (row : List S) → books ≡ [] → Gone Q books row row
gone-none {Q = Q} books row e = record { gone = []; parts = sym (append-nil row); kept = subst (λ bs. AllZip Q [] (reverse bs)) (sym e) tt }

pub gone-more : {S B : Type 0} {Q : S → B → Type 0} (books all : List B) (book : B) (old now next : List S) → all ≡ books ++ book ∷ [] → Gone Q books old now → Longer (λ s. Q s book) now next → Gone Q all old next
gone-more {Q = Q} books all book old now next e g l = record {
  gone = l.last ∷ g.gone;
  parts = g.parts ∙ ap (λ xs. xs ++ g.gone) l.stands ∙ append_assoc next (l.last ∷ []) g.gone;
  kept = subst (AllZip Q (l.last ∷ g.gone)) (sym (ap reverse e ∙ reverse-append books (book ∷ []))) (l.holds, g.kept);
}

pub gone-all : {S B : Type 0} (Q : S → B → Type 0) (books : List B) (old now : List S) → Gone Q books old now → now ≡ [] → AllZip Q old (reverse books)
gone-all Q books old now g e = subst (λ xs. AllZip Q xs (reverse books)) (sym (g.parts ∙ ap (λ xs. xs ++ g.gone) e)) g.kept

pub zip_weaker : {X : Type 0} (P Q : ℕ → X → Type 0) (ns : List ℕ) (xs : List X) → ((k : ℕ) (x : X) → P k x → Q k x) → AllZip P ns xs → AllZip Q ns xs
zip_weaker P Q [] [] f h = tt
zip_weaker P Q [] (x ∷ xs) f h = absurd h
zip_weaker P Q (n ∷ ns) [] f h = absurd h
zip_weaker P Q (n ∷ ns) (x ∷ xs) f h = (f n x h.0, zip_weaker P Q ns xs f h.1)

pub zip_and : {X : Type 0} (P : ℕ → X → Type 0) (Q : X → Type 0) (ns : List ℕ) (xs : List X) → AllZip P ns xs → All Q xs → AllZip (λ k x. P k x × Q x) ns xs
zip_and P Q [] [] h a = tt
zip_and P Q [] (x ∷ xs) h a = absurd h
zip_and P Q (n ∷ ns) [] h a = absurd h
zip_and P Q (n ∷ ns) (x ∷ xs) h a = ((h.0, All-head Q x xs a), zip_and P Q ns xs h.1 (All-tail Q x xs a))

-- what is told beside numbers, without these
pub zip_all : {X : Type 0} (P : ℕ → X → Type 0) (Q : X → Type 0) (ns : List ℕ) (xs : List X) → ((k : ℕ) (x : X) → P k x → Q x) → AllZip P ns xs → All Q xs
zip_all P Q [] [] f h = All-nil Q
zip_all P Q [] (x ∷ xs) f h = absurd h
zip_all P Q (n ∷ ns) [] f h = absurd h
zip_all P Q (n ∷ ns) (x ∷ xs) f h = All-cons Q x xs (f n x h.0) (zip_all P Q ns xs f h.1)

pub zip_from_all : {X : Type 0} (P : ℕ → X → Type 0) (Q : X → Type 0) (a : ℕ) (xs : List X) → ((k : ℕ) (x : X) → Q x → P k x) → All Q xs → AllZip P (range_with_len a (length xs)) xs
zip_from_all P Q a [] f h = tt
zip_from_all P Q a (x ∷ xs) f h = (f a x (All-head Q x xs h), zip_from_all P Q (a + 1) xs f (All-tail Q x xs h))

pub ends_and : {X : Type 0} (P Q : X → Type 0) (row : List X) → Ends P row → All Q row → Ends (λ x. P x × Q x) row
ends_and P Q row e h = record { rest = e.rest; last = e.last; holds = (e.holds, (All-pop Q row e.rest (Some e.last) e.stands h).1); stands = e.stands }

pub all_shorter : {X : Type 0} (P : X → Type 0) (row rest : List X) (x : X) → row ≡ rest ++ x ∷ [] → All P row → All P rest
all_shorter P row rest x e h = (All-pop P row rest (Some x) e h).0

pub nothing_left : {X Y : Type 0} (f : X → Y) (xs : List X) → map f xs ≡ [] → xs ≡ []
nothing_left f [] e = refl
nothing_left f (x ∷ xs) e = absurd (cc e)

pub seats_end : {S L V : Type 0} (f : S → V) (g : L → V) (row : List S) (lanes rest : List L) (lane : L) → lanes ≡ rest ++ lane ∷ [] → map f row ≡ map g lanes → map f row ≡ map g rest ++ g lane ∷ []
seats_end f g row lanes rest lane e h = h ∙ ap (map g) e ∙ map-append g rest (lane ∷ [])

pub zip_count : {X : Type 0} (P : ℕ → X → Type 0) (a : ℕ) (xs : List X) (n m : ℕ) → n ≡ m → AllZip P (range_with_len a n) xs → AllZip P (range_with_len a m) xs
zip_count P a xs n m e h = subst (λ k. AllZip P (range_with_len a k) xs) e h

pub zip_books : {S B : Type 0} (Q : S → B → Type 0) (xs : List S) (bs cs : List B) → cs ≡ bs → AllZip Q xs bs → AllZip Q xs cs
zip_books Q xs bs cs e h = subst (AllZip Q xs) (sym e) h

pub nothing_in : {X : Type 0} (xs : List X) → length xs ≡ 0 → xs ≡ []
nothing_in [] e = refl
nothing_in (x ∷ xs) e = absurd (omega (arith, e))

pub All-reverse : {X : Type 0} (P : X → Type 0) (xs : List X) → All P xs → All P (reverse xs)
All-reverse P [] h = h
All-reverse P (x ∷ xs) h = subst (All P) (sym (reverse-append (x ∷ []) xs)) (All-push P (reverse xs) x (All-reverse P xs (All-tail P x xs h)) (All-head P x xs h))

-- how many there are, where f tells of them what g tells of the numbers below n
pub count_of : {X Y : Type 0} (f : X → Y) (g : ℕ → Y) (n : ℕ) (xs : List X) → map f xs ≡ map g (range_with_len 0 n) → length xs ≡ n
count_of f g n xs e = sym (length-map xs f) ∙ ap length e ∙ length-map-range_with_len g 0 n

pub zip_none : {A B : Type 0} (R : A → B → Type 0) (xs : List A) (ys : List B) → xs ≡ [] → ys ≡ [] → AllZip R xs ys
zip_none R [] [] e f = tt
zip_none R [] (y ∷ ys) e f = absurd (cc f)
zip_none R (x ∷ xs) ys e f = absurd (cc e)

pub zip_longer : {A B : Type 0} (R : A → B → Type 0) (xs us : List A) (a : A) (ys vs : List B) (b : B) → us ≡ xs ++ a ∷ [] → vs ≡ ys ++ b ∷ [] → AllZip R xs ys → R a b → AllZip R us vs
zip_longer R xs us a ys vs b e f h r = subst (λ zs. AllZip R zs vs) (sym e) (subst (AllZip R (xs ++ a ∷ [])) (sym f) (both R xs a ys b h r))
  where
    both : {A B : Type 0} (R : A → B → Type 0) (xs : List A) (a : A) (ys : List B) (b : B) → AllZip R xs ys → R a b → AllZip R (xs ++ a ∷ []) (ys ++ b ∷ [])
    both R [] a [] b k r = (r, tt)
    both R [] a (y ∷ ys) b k r = absurd k
    both R (x ∷ xs) a [] b k r = absurd k
    both R (x ∷ xs) a (y ∷ ys) b k r = (k.0, both R xs a ys b k.1 r)

pub zip_for : {A B : Type 0} (R : A → B → Type 0) (xs us : List A) (ys : List B) → xs ≡ us → AllZip R xs ys → AllZip R us ys
zip_for R xs us ys e h = subst (λ zs. AllZip R zs ys) e h
