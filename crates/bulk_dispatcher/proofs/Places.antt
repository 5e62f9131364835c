-- What was read at a place, and what stands there afterwards.
use Rattle.std.proofs.Common.{◌≡◌, ℕ, zero, suc, ◌<◌, List, [], ◌∷◌, length, map, get_or, set, refl, sym, ap, subst, ◌∙◌, arith, Result, Ok, Err, OnOk, IfOk, All}
use Rattle.std.proofs.Math.Seq.{map-set_same}
use Rattle.std.proofs.lemmas.List.Elements.{All-get_or}
use Rattle.std.specs.List.{AllZip}
use Rattle.bq_session.specs.Session.{SessionState}
use Rattle.job_lanes.specs.Rest.{IsAtRest}
use Rattle.bulk_dispatcher.proofs.Updates.{zip_update}
use Rattle.bulk_dispatcher.proofs.Zips.{zip_at}

pub ok_then : {T E A B : Type 0} (r : Result T E) → (A → B) → OnOk r A → OnOk r B
ok_then (Ok t) f h = f h
ok_then (Err e) f h = tt

pub ok_both : {T E A B C : Type 0} (r : Result T E) → (A → B → C) → OnOk r A → OnOk r B → OnOk r C
ok_both (Ok t) f h k = f h k
ok_both (Err e) f h k = tt

pub at_map : {S V : Type 0} (f : S → V) (xs : List S) (k : ℕ) (d : V) (x : S) → k < length xs → x ≡ get_or xs k x → get_or (map f xs) k d ≡ f x
at_map f [] k d x l e = absurd (omega (arith, l))
at_map f (y ∷ xs) zero d x l e = ap f (sym e)
at_map f (y ∷ xs) (suc k) d x l e = at_map f xs k d x (omega (arith, l)) e

-- two lists of which the same is told, at one place
pub same_there : {S L V : Type 0} (f : S → V) (g : L → V) (xs : List S) (ys : List L) (k : ℕ) (x : S) (y : L) → map f xs ≡ map g ys → k < length xs → k < length ys → x ≡ get_or xs k x → y ≡ get_or ys k y → f x ≡ g y
same_there f g xs ys k x y e l m a b = sym (at_map f xs k (f x) x l a) ∙ ap (λ vs. get_or vs k (f x)) e ∙ at_map g ys k (f x) y m b

-- an element is replaced by one of which the same is told
pub still_told : {S V : Type 0} (f : S → V) (xs : List S) (vs : List V) (k : ℕ) (x y : S) → map f xs ≡ vs → x ≡ get_or xs k x → f y ≡ f x → map f (set xs k y) ≡ vs
still_told f xs vs k x y e a s = map-set_same f xs k y x (s ∙ ap f a) ∙ e

pub rest_there : {P : Type 0} (numbers : List ℕ) (c : ℕ) (xs : List (SessionState P)) (k : ℕ) (x : SessionState P) → AllZip (λ number s. IsAtRest number c s) numbers xs → k < length numbers → x ≡ get_or xs k x → IsAtRest (get_or numbers k 0) c x
rest_there numbers c xs k x h l a = subst (IsAtRest (get_or numbers k 0) c) (sym a) (zip_at (λ number s. IsAtRest number c s) numbers xs k 0 x h l)

-- a session at rest says itself on which lane it is
pub rest_own : {P : Type 0} {number c : ℕ} {s : SessionState P} → IsAtRest number c s → IsAtRest s.futures.lane c s
rest_own h = record {
  lane = refl;
  caller = h.caller;
  batch = h.batch;
  tickets = h.tickets;
  nothing_pending = h.nothing_pending;
  nobody_waits = h.nobody_waits;
  none_live = h.none_live;
}

pub rest_still : {P : Type 0} (numbers : List ℕ) (c : ℕ) (xs : List (SessionState P)) (k : ℕ) (x y : SessionState P) → AllZip (λ number s. IsAtRest number c s) numbers xs → k < length numbers → x ≡ get_or xs k x → IsAtRest x.futures.lane c y
    → AllZip (λ number s. IsAtRest number c s) numbers (set xs k y)
rest_still numbers c xs k x y h l a r =
    zip_update (λ number s. IsAtRest number c s) (λ number s. IsAtRest number c s) numbers xs k 0 y l (λ j z m n t. t)
    (subst (λ n. IsAtRest n c y) (rest_there numbers c xs k x h l a).lane r) h

pub nothing_queued : {X : Type 0} (xs : List X) → length xs ≡ 0 → xs ≡ []
nothing_queued [] e = refl
nothing_queued (x ∷ xs) e = absurd (omega (arith, e))

pub if_ok_then : {T E : Type 0} {A B : T → Type 0} (r : Result T E) → ((x : T) → A x → B x) → IfOk r A → IfOk r B
if_ok_then (Ok t) f h = f t h
if_ok_then (Err e) f h = tt

pub if_ok_both : {T E : Type 0} {A C : T → Type 0} {B : Type 0} (r : Result T E) → ((x : T) → A x → B → C x) → IfOk r A → OnOk r B → IfOk r C
if_ok_both (Ok t) f h k = f t h k
if_ok_both (Err e) f h k = tt

-- what is so of each element is so of one that was looked up
pub there : {X : Type 0} (P : X → Type 0) (xs : List X) (k : ℕ) (x : X) → k < length xs → x ≡ get_or xs k x → All P xs → P x
there P xs k x l e h = subst P (sym e) (All-get_or P xs k x l h)
