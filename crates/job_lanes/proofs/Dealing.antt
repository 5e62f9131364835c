-- Rows that are changed one after another, from the last to the first.
use Rattle.std.proofs.Common.{◌≡◌, ℕ, zero, suc, ◌+◌, ◌-◌, ◌<◌, ◌≤◌, List, [], ◌∷◌, ◌++◌, Some, length, map, get_or, set, refl, sym, ap, subst, ◌∙◌, arith, add-zero, zero-add, length-append, All, Contains}
use Rattle.std.proofs.lemmas.List.{map-append, length-map, get_or_default}
use Rattle.std.proofs.lemmas.List.FromFn.{length-map-range_with_len, length-range_with_len, get_or-range_with_len}
use Rattle.std.proofs.lemmas.List.Elements.{All-pop, Contains-get_or}
use Rattle.std.specs.List.{range_with_len, AllZip}
use Rattle.bq_model.specs.declared.shape.Shape.{Shape}
use Rattle.bq_session.specs.Session.{SessionState}
use Rattle.bq_session.specs.Futures.{LiveFutures, live_count}
use Rattle.job_lanes.specs.Rest.{IsAtRest}
use Rattle.job_lanes.specs.Rows.{AtEach, Longer, Ends}
use Rattle.job_lanes.specs.Seats.{Seat, seat}

-- The first i rows are as they were, and R holds of the others, before and after.
abbrev pub From : {X : Type 0} → (ℕ → X → X → Type 0) → ℕ → ℕ → List X → List X → Type 0
From R c zero olds news = AtEach R c olds news
From R c (suc i) [] [] = Unit {0}
From R c (suc i) [] (y ∷ ys) = ⊥
From R c (suc i) (x ∷ xs) [] = ⊥
From R c (suc i) (x ∷ xs) (y ∷ ys) = (y ≡ x) × From R (c + 1) i xs ys

-- the same, said of rows that are numbered from 0
pub record Dealt {X : Type 0} (R : ℕ → X → X → Type 0) (i : ℕ) (olds news : List X) : Type 0 where
  pub from : From R 0 i olds news

From-start : {X : Type 0} (R : ℕ → X → X → Type 0) (c : ℕ) (xs : List X) → From R c (length xs) xs xs
From-start R c [] = tt
From-start R c (x ∷ xs) = (refl, From-start R (c + 1) xs)

From-next : {X : Type 0} (R : ℕ → X → X → Type 0) (c i : ℕ) (xs ys : List X) (d y : X) → i < length ys → From R c (suc i) xs ys → R (c + i) (get_or ys i d) y → From R c i xs (set ys i y)
From-next R c i xs [] d y l h r = absurd (omega (arith, l))
From-next R c zero [] (z ∷ ys) d y l h r = absurd h
From-next R c (suc i) [] (z ∷ ys) d y l h r = absurd h
From-next R c zero (x ∷ xs) (z ∷ ys) d y l h r = (subst (λ w. R c w y) h.0 (subst (λ k. R k z y) (add-zero c) r), h.1)
From-next R c (suc i) (x ∷ xs) (z ∷ ys) d y l h r = (h.0, From-next R (c + 1) i xs ys d y (omega (arith, l)) h.1 (subst (λ k. R k (get_or ys i d) y) (let e : c + suc i ≡ c + 1 + i = omega arith in e) r))

-- the relation may be weakened on the way
pub AtEach-weaker : {X Y : Type 0} (R Q : ℕ → X → Y → Type 0) (c : ℕ) (xs : List X) (ys : List Y) → ((k : ℕ) (x : X) (y : Y) → k < length xs → R (c + k) x y → Q (c + k) x y) → AtEach R c xs ys → AtEach Q c xs ys
AtEach-weaker R Q c [] [] f h = tt
AtEach-weaker R Q c [] (y ∷ ys) f h = absurd h
AtEach-weaker R Q c (x ∷ xs) [] f h = absurd h
AtEach-weaker R Q c (x ∷ xs) (y ∷ ys) f h = (
  subst (λ k. Q k x y) (add-zero c) (f 0 x y (omega arith) (subst (λ k. R k x y) (sym (add-zero c)) h.0)),
  AtEach-weaker R Q (c + 1) xs ys
      (λ k u v l r. let e : c + suc k ≡ c + 1 + k = omega arith in subst (λ n. Q n u v) e (f (suc k) u v (omega (arith, l)) (subst (λ n. R n u v) (sym e) r))) h.1,
)

From-length : {X : Type 0} (R : ℕ → X → X → Type 0) (c i : ℕ) (xs ys : List X) → From R c i xs ys → length ys ≡ length xs
From-length R c zero [] [] h = refl
From-length R c zero [] (y ∷ ys) h = absurd h
From-length R c zero (x ∷ xs) [] h = absurd h
From-length R c zero (x ∷ xs) (y ∷ ys) h = ap (λ n. suc n) (From-length R (c + 1) zero xs ys h.1)
From-length R c (suc i) [] [] h = refl
From-length R c (suc i) [] (y ∷ ys) h = absurd h
From-length R c (suc i) (x ∷ xs) [] h = absurd h
From-length R c (suc i) (x ∷ xs) (y ∷ ys) h = ap (λ n. suc n) (From-length R (c + 1) i xs ys h.1)

-- a list with one element more, beside another one
pub last_of_both : {X : Type 0} (xs ys : List X) (x y : X) → length xs ≡ length ys → xs ++ x ∷ [] ≡ ys ++ y ∷ [] → (xs ≡ ys) × (x ≡ y)
last_of_both [] [] x y l e = (refl, cc e)
last_of_both [] (z ∷ ys) x y l e = absurd (omega (arith, l))
last_of_both (z ∷ xs) [] x y l e = absurd (omega (arith, l))
last_of_both (z ∷ xs) (w ∷ ys) x y l e =
    let rest = last_of_both xs ys x y (omega (arith, l)) (cc e) in
    let head : z ≡ w = cc e in
    ((λ i. head i ∷ rest.0 i), rest.1)

pub range-last : (a n : ℕ) → range_with_len a (suc n) ≡ range_with_len a n ++ (a + n) ∷ []
range-last a zero = ap (λ (x : ℕ). x ∷ []) (omega arith)
range-last a (suc n) = ap (λ (xs : List ℕ). a ∷ xs) (range-last (a + 1) n ∙ ap (λ (x : ℕ). range_with_len (a + 1) n ++ x ∷ []) (omega arith))

-- what f tells of the elements is what g tells of their numbers, without the last one, and at it
pub numbered_last : {X Y : Type 0} (f : X → Y) (g : ℕ → Y) (all xs : List X) (x : X) → all ≡ xs ++ x ∷ [] → map f all ≡ map g (range_with_len 0 (length all)) → (map f xs ≡ map g (range_with_len 0 (length xs))) × (f x ≡ g (length xs))
numbered_last f g all xs x e h =
    let count : length all ≡ suc (length xs) = ap length e ∙ length-append xs (x ∷ []) ∙ omega arith in
    let left : map f xs ++ f x ∷ [] ≡ map f all = sym (ap (map f) e ∙ map-append f xs (x ∷ [])) in
    let right : map g (range_with_len 0 (length all)) ≡ map g (range_with_len 0 (length xs)) ++ g (length xs) ∷ [] =
    ap (λ n. map g (range_with_len 0 n)) count ∙ ap (map g) (range-last 0 (length xs)) ∙ map-append g (range_with_len 0 (length xs)) ((0 + length xs) ∷ []) ∙ ap (λ n. map g (range_with_len 0 (length xs)) ++ g n ∷ []) (zero-add (length xs)) in
    last_of_both (map f xs) (map g (range_with_len 0 (length xs))) (f x) (g (length xs)) (length-map xs f ∙ sym (length-map-range_with_len g 0 (length xs))) (left ∙ h ∙ right)

pub all_before_last : {X : Type 0} (P : X → Type 0) (all xs : List X) (x : X) → all ≡ xs ++ x ∷ [] → All P all → All P xs × P x
all_before_last P all xs x e h = All-pop P all xs (Some x) e h

pub Dealt-start : {X : Type 0} {R : ℕ → X → X → Type 0} (n : ℕ) (xs : List X) → length xs ≡ n → Dealt R n xs xs
Dealt-start {R = R} n xs e = subst (λ i. Dealt R i xs xs) e (record { from = From-start R 0 xs })

pub Dealt-length : {X : Type 0} {R : ℕ → X → X → Type 0} (i : ℕ) (xs ys : List X) → Dealt R i xs ys → length ys ≡ length xs
Dealt-length {R = R} i xs ys h = From-length R 0 i xs ys h.from

-- row i is changed next
pub Dealt-next : {X : Type 0} {R : ℕ → X → X → Type 0} (n i : ℕ) (xs ys zs : List X) (d y : X) → n ≡ suc i → i < length ys → zs ≡ set ys i y → Dealt R n xs ys → R i (get_or ys i d) y → Dealt R i xs zs
Dealt-next {R = R} n i xs ys zs d y e l s h r = record {
  from = subst (From R 0 i xs) (sym s) (From-next R 0 i xs ys d y l (subst (λ k. From R 0 k xs ys) e h.from) (subst (λ k. R k (get_or ys i d) y) (sym (zero-add i)) r));
}

pub Dealt-end : {X : Type 0} {R : ℕ → X → X → Type 0} (n : ℕ) (xs ys : List X) → n ≡ 0 → Dealt R n xs ys → AtEach R 0 xs ys
Dealt-end {R = R} n xs ys e h = subst (λ k. From R 0 k xs ys) e h.from

pub same_seat : {I : Type 0} {a b : I} {s t : Shape} {cs ds : List ℕ} → a ≡ b → s ≡ t → cs ≡ ds → seat a s cs ≡ seat b t ds
same_seat i s c = λ k. seat (i k) (s k) (c k)

-- the rows that are as they were
From-same : {X : Type 0} (R : ℕ → X → X → Type 0) (c i : ℕ) (xs ys : List X) (k : ℕ) (d : X) → k < i → From R c i xs ys → get_or ys k d ≡ get_or xs k d
From-same R c zero xs ys k d l h = absurd (omega (arith, l))
From-same R c (suc i) [] [] k d l h = refl
From-same R c (suc i) [] (y ∷ ys) k d l h = absurd h
From-same R c (suc i) (x ∷ xs) [] k d l h = absurd h
From-same R c (suc i) (x ∷ xs) (y ∷ ys) zero d l h = h.0
From-same R c (suc i) (x ∷ xs) (y ∷ ys) (suc k) d l h = From-same R (c + 1) i xs ys k d (omega (arith, l)) h.1

pub Dealt-same : {X : Type 0} {R : ℕ → X → X → Type 0} (i : ℕ) (xs ys : List X) (k : ℕ) (d : X) → k < i → Dealt R i xs ys → get_or ys k d ≡ get_or xs k d
Dealt-same {R = R} i xs ys k d l h = From-same R 0 i xs ys k d l h.from

From-weaker : {X : Type 0} (R Q : ℕ → X → X → Type 0) (c i : ℕ) (xs ys : List X) → ((k : ℕ) (x y : X) → i ≤ k → k < length xs → R (c + k) x y → Q (c + k) x y) → From R c i xs ys → From Q c i xs ys
From-weaker R Q c zero xs ys f h = AtEach-weaker R Q c xs ys (λ k x y l r. f k x y (omega arith) l r) h
From-weaker R Q c (suc i) [] [] f h = tt
From-weaker R Q c (suc i) [] (y ∷ ys) f h = absurd h
From-weaker R Q c (suc i) (x ∷ xs) [] f h = absurd h
From-weaker R Q c (suc i) (x ∷ xs) (y ∷ ys) f h = (
  h.0,
  From-weaker R Q (c + 1) i xs ys
      (λ k u v l m r. let e : c + suc k ≡ c + 1 + k = omega arith in subst (λ n. Q n u v) e (f (suc k) u v (omega (arith, l)) (omega (arith, m)) (subst (λ n. R n u v) (sym e) r))) h.1,
)

pub Dealt-weaker : {X : Type 0} {R Q : ℕ → X → X → Type 0} (i : ℕ) (xs ys : List X) → ((k : ℕ) (x y : X) → i ≤ k → k < length xs → R k x y → Q k x y) → Dealt R i xs ys → Dealt Q i xs ys
Dealt-weaker {R = R} {Q = Q} i xs ys f h = record {
  from = From-weaker R Q 0 i xs ys (λ k x y l m r. subst (λ n. Q n x y) (sym (zero-add k)) (f k x y l m (subst (λ n. R n x y) (zero-add k) r))) h.from;
}

range_has : (a n c : ℕ) → a ≤ c → c < a + n → Contains (range_with_len a n) c
range_has a n c l m =
    let found : get_or (range_with_len a n) (c - a) 0 ≡ c = get_or-range_with_len a n (c - a) 0 (omega (arith, l, m)) ∙ omega (arith, l) in
    subst (Contains (range_with_len a n)) found (Contains-get_or (range_with_len a n) (c - a) 0 (rw length-range_with_len (omega (arith, l, m))))

-- a caller of a pass that holds those from a on
pub held : (callers : List ℕ) (a n c : ℕ) → callers ≡ range_with_len a n → a ≤ c → c < a + n → Contains callers c
held callers a n c e l m = subst (λ cs. Contains cs c) (sym e) (range_has a n c l m)

-- what is told of each number beside an element
pub at_number : {X : Type 0} (R : ℕ → X → Type 0) (a : ℕ) (xs : List X) (k : ℕ) (d : X) → k < length xs → AllZip R (range_with_len a (length xs)) xs → R (a + k) (get_or xs k d)
at_number R a [] k d l h = absurd (omega (arith, l))
at_number R a (x ∷ xs) zero d l h = subst (λ n. R n x) (sym (add-zero a)) h.0
at_number R a (x ∷ xs) (suc k) d l h = subst (λ n. R n (get_or xs k d)) (let e : a + 1 + k ≡ a + suc k = omega arith in e) (at_number R (a + 1) xs k d (omega (arith, l)) h.1)

pub at_place : {X : Type 0} (R : ℕ → X → Type 0) (xs : List X) (k : ℕ) (d : X) → k < length xs → AllZip R (range_with_len 0 (length xs)) xs → R k (get_or xs k d)
at_place R xs k d l h = subst (λ n. R n (get_or xs k d)) (zero-add k) (at_number R 0 xs k d l h)

-- the last element of a row that is told of twice
pub both_last : {X : Type 0} {P Q : X → Type 0} (row rest : List X) → Ends P row → (h : Longer Q row rest) → P h.last
both_last {P = P} row rest e h =
    let same = sym e.stands ∙ h.stands in
    let count : length e.rest ≡ length rest = let one = ap length same in omega (arith, one, length-append e.rest (e.last ∷ []), length-append rest (h.last ∷ [])) in
    subst P (last_of_both e.rest rest e.last h.last count same).1 e.holds

pub Ends-weaker : {X : Type 0} {P Q : X → Type 0} {row : List X} → ((x : X) → P x → Q x) → Ends P row → Ends Q row
Ends-weaker f e = record { rest = e.rest; last = e.last; holds = f e.last e.holds; stands = e.stands }

pub Longer-weaker : {X : Type 0} {P Q : X → Type 0} {row rest : List X} → ((x : X) → P x → Q x) → Longer P row rest → Longer Q row rest
Longer-weaker f h = record { last = h.last; holds = f h.last h.holds; stands = h.stands }

pub seat_parts : {I : Type 0} {a b : I} {s t : Shape} {cs ds : List ℕ} → seat a s cs ≡ seat b t ds → (a ≡ b) × (s ≡ t) × (cs ≡ ds)
seat_parts {I = I} e = (ap (λ (x : Seat I). x.identity) e, ap (λ (x : Seat I). x.shape) e, ap (λ (x : Seat I). x.callers) e)

-- an element that was read is the one at its place, whatever stands for a missing one
pub same_at : {X Y : Type 0} (xs : List X) (k : ℕ) (d x : X) (f : X → Y) → k < length xs → x ≡ get_or xs k x → f (get_or xs k d) ≡ f x
same_at xs k d x f l e = ap f (get_or_default xs k d x l ∙ sym e)

-- a session that was just made
pub fresh_rests : {P : Type 0} (number c : ℕ) (s : SessionState P) {d : ℕ} → d ≡ c → s.pending ≡ [] → s.futures ≡ record { lane = number; caller = d; batch = 256; tickets = 256; made = 0; waiting = 0; live = [] } → IsAtRest number c s
fresh_rests number c s same none f = record {
  lane = ap (λ (x : LiveFutures). x.lane) f;
  caller = ap (λ (x : LiveFutures). x.caller) f ∙ same;
  batch = ap (λ (x : LiveFutures). x.batch) f;
  tickets = ap (λ (x : LiveFutures). x.tickets) f;
  nothing_pending = none;
  nobody_waits = ap (λ (x : LiveFutures). x.waiting) f;
  none_live = ap live_count f;
}
