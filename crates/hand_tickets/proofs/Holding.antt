-- How what a hand holds changes with each call of its session.
use Rattle.std.proofs.Common.{◌≡◌, ◌≢◌, ℕ, zero, suc, ◌+◌, ◌-◌, ◌≤◌, ◌==◌, List, [], ◌∷◌, ◌++◌, length, map, get_or, set, Option, Some, None, is_some, true, false, cond, replicate, ne_eqb, eq-eqb, refl, sym, ap, subst, ◌∙◌, arith, length-append, append_assoc, zero-add}
use Rattle.std.specs.List.{AllZip, AllByRecursion, range_with_len, count_by}
use Rattle.std.proofs.lemmas.List.Sums.{sum_by-cons}
use Rattle.std.proofs.lemmas.List.{map-append, get_or-set_other}
use Rattle.bq_model.specs.declared.op.Op.{Op}
use Rattle.bq_model.specs.declared.op.Op.TheVariants.{Enq}
use Rattle.bq_model.specs.History.{operations}
use Rattle.bq_model.specs.Grows.{SawMore}
use Rattle.bq_model.proofs.Growing.{Grew-after}
use Rattle.std.proofs.lemmas.List.FromFn.{length-map-range_with_len}
use Rattle.bq_model.specs.declared.op.Answer.{Answer}
use Rattle.bq_model.specs.declared.op.Answer.TheVariants.{Done}
use Rattle.bq_model.specs.declared.group.Group.{Group}
use Rattle.bq_model.specs.Grows.{Grew}
use Rattle.bq_session.specs.declared.ticket.Ticket.{Ticket}
use Rattle.bq_session.specs.declared.future.Future.{Future}
use Rattle.bq_session.specs.declared.future.Standing.{Standing}
use Rattle.bq_session.specs.declared.future.Standing.TheVariants.{Pending, Kept, Withdrawn}
use Rattle.bq_session.specs.declared.claim.Outcome.{Outcome}
use Rattle.bq_session.specs.Outcome.{outcome_of, made_by}
use Rattle.bq_session.specs.Session.{SessionState, IsMade, IsMadeWith}
use Rattle.bq_session.specs.Futures.{LiveFutures, under, Stands, IsIssued, live_count, spent, settled, keeping, restand, last_withdrawn, withdrawing}
use Rattle.bq_session.proofs.Evaluated.{Stands-settled}
use Rattle.bq_session.proofs.Names.{length-grew}
use Rattle.std.proofs.Math.ListN.{get_or-map}
use Rattle.hand_tickets.specs.Holds.{Holds, IsMadeOfAll, Apart, all_pending, all_kept, some_withdrawn}

range-last : (a n : ℕ) → range_with_len a (suc n) ≡ range_with_len a n ++ (a + n) ∷ []
range-last a zero = ap (λ (x : ℕ). x ∷ []) (omega arith)
range-last a (suc n) = ap (λ (xs : List ℕ). a ∷ xs) (range-last (a + 1) n ∙ ap (λ (x : ℕ). range_with_len (a + 1) n ++ x ∷ []) (omega arith))

zip_push : {A B : Type 0} (R : A → B → Type 0) (xs : List A) (a : A) (ys : List B) (b : B) → AllZip R xs ys → R a b → AllZip R (xs ++ a ∷ []) (ys ++ b ∷ [])
zip_push R [] a [] b k r = (r, tt)
zip_push R [] a (y ∷ ys) b k r = absurd k
zip_push R (x ∷ xs) a [] b k r = absurd k
zip_push R (x ∷ xs) a (y ∷ ys) b k r = (k.0, zip_push R xs a ys b k.1 r)

some_not_none : {X : Type 0} (x : X) (o : Option X) → o ≡ Some x → o ≡ None → ⊥
some_not_none x o e f = cc (sym e ∙ f)

-- a ticket that is issued has a key of its own
fresh_key : (f : LiveFutures) (t u : Ticket) (x : Standing) → Stands f u x → under f.live t.key ≡ None → u.key ≢ t.key
fresh_key f t u x s fresh e = some_not_none _ (under f.live t.key) (ap (under f.live) (sym e) ∙ s.future) fresh

still : (old new : LiveFutures) (t u : Ticket) (x : Standing) → IsIssued t old new → Stands old u x → Stands new u x
still old new t u x i s = record {
  lane = s.lane ∙ sym (ap (λ (f : LiveFutures). f.lane) i.rest);
  caller = s.caller ∙ sym (ap (λ (f : LiveFutures). f.caller) i.rest);
  future = i.others u.key (fresh_key old t u x s i.fresh) ∙ s.future;
}

all_still : (old new : LiveFutures) (t : Ticket) (us : List Ticket) (xs : List Standing) → IsIssued t old new → AllZip (Stands old) us xs → AllZip (Stands new) us xs
all_still old new t [] [] i h = tt
all_still old new t [] (x ∷ xs) i h = absurd h
all_still old new t (u ∷ us) [] i h = absurd h
all_still old new t (u ∷ us) (x ∷ xs) i h = (still old new t u x i h.0, all_still old new t us xs i h.1)

keys_apart : (f : LiveFutures) (t : Ticket) (us : List Ticket) (xs : List Standing) → under f.live t.key ≡ None → AllZip (Stands f) us xs → AllByRecursion (λ u. u.key ≢ t.key) us
keys_apart f t [] [] fresh h = tt
keys_apart f t [] (x ∷ xs) fresh h = absurd h
keys_apart f t (u ∷ us) [] fresh h = absurd h
keys_apart f t (u ∷ us) (x ∷ xs) fresh h = (fresh_key f t u x h.0 fresh, keys_apart f t us xs fresh h.1)

apart_push : (ts : List Ticket) (t : Ticket) → AllByRecursion (λ u. u.key ≢ t.key) ts → Apart ts → Apart (ts ++ t ∷ [])
apart_push [] t h a = (tt, tt)
apart_push (u ∷ ts) t h a = (push ts h.0 a.0, apart_push ts t h.1 a.1)
  where
    push : (vs : List Ticket) → u.key ≢ t.key → AllByRecursion (λ v. v.key ≢ u.key) vs → AllByRecursion (λ v. v.key ≢ u.key) (vs ++ t ∷ [])
    push [] n k = ((λ e. n (sym e)), tt)
    push (v ∷ vs) n k = (k.0, push vs n k.1)

-- one operation more is deferred
pub held-issued : {P : Type 0} (number c : ℕ) (ops : List Op) (op : Op) (held news : List Ticket) (t : Ticket) (old new : SessionState P) → Holds number c ops (all_pending (length ops)) held old → new.pending ≡ old.pending ++ op ∷ [] → IsIssued t old.futures new.futures → news ≡ held ++ t ∷ []
    → Holds number c (ops ++ op ∷ []) (all_pending (length (ops ++ op ∷ []))) news new
held-issued {P = P} number c ops op held news t old new h pending i e =
    let count : length (ops ++ op ∷ []) ≡ suc (length ops) = length-append ops (op ∷ []) ∙ omega arith in
    let standings : all_pending (length (ops ++ op ∷ [])) ≡ all_pending (length ops) ++ Pending (length ops) ∷ [] =
    ap all_pending count ∙ ap (map Pending) (range-last 0 (length ops)) ∙ map-append Pending (range_with_len 0 (length ops)) ((0 + length ops) ∷ []) ∙ ap (λ (n : ℕ). map Pending (range_with_len 0 (length ops)) ++ Pending n ∷ []) (zero-add (length ops)) in
    let own : Stands new.futures t (Pending (length ops)) = subst (λ (n : ℕ). Stands new.futures t (Pending n)) h.waiting i.stands in
    subst (λ (ts : List Ticket). Holds number c (ops ++ op ∷ []) (all_pending (length (ops ++ op ∷ []))) ts new) (sym e) (record {
      lane = ap (λ (f : LiveFutures). f.lane) i.rest ∙ h.lane;
      caller = ap (λ (f : LiveFutures). f.caller) i.rest ∙ h.caller;
      batch = ap (λ (f : LiveFutures). f.batch) i.rest ∙ h.batch;
      tickets = ap (λ (f : LiveFutures). f.tickets) i.rest ∙ h.tickets;
      pending = pending ∙ ap (λ (os : List Op). os ++ op ∷ []) h.pending;
      waiting = ap (λ (f : LiveFutures). f.waiting) i.rest ∙ ap (λ (n : ℕ). n + 1) h.waiting ∙ (let one : length ops + 1 ≡ suc (length ops) = omega arith in one) ∙ sym count;
      live = i.counted ∙ ap (λ (n : ℕ). n + 1) h.live ∙ sym (length-append held (t ∷ []));
      each = subst (AllZip (Stands new.futures) (held ++ t ∷ [])) (sym standings) (zip_push (Stands new.futures) held t (all_pending (length ops)) (Pending (length ops)) (all_still old.futures new.futures t held (all_pending (length ops)) i h.each) own);
      apart = apart_push held t (keys_apart old.futures t held (all_pending (length ops)) i.fresh h.each) h.apart;
    })

zip_map : {A B : Type 0} (R Q : A → B → Type 0) (f : B → B) (xs : List A) (ys : List B) → ((x : A) (y : B) → R x y → Q x (f y)) → AllZip R xs ys → AllZip Q xs (map f ys)
zip_map R Q f [] [] g h = tt
zip_map R Q f [] (y ∷ ys) g h = absurd h
zip_map R Q f (x ∷ xs) [] g h = absurd h
zip_map R Q f (x ∷ xs) (y ∷ ys) g h = (g x y h.0, zip_map R Q f xs ys g h.1)

here_is : {X : Type 0} (before xs : List X) (x d : X) → get_or (before ++ x ∷ xs) (length before) d ≡ x
here_is [] xs x d = refl
here_is (y ∷ before) xs x d = here_is before xs x d

kept_list : (first : ℕ) (before answers : List Answer) → map (keeping (before ++ answers) first) (map Pending (range_with_len (length before) (length answers))) ≡ all_kept (first + length before) answers
kept_list first before [] = refl
kept_list first before (a ∷ answers) =
    let next : (before ++ a ∷ []) ++ answers ≡ before ++ a ∷ answers = append_assoc before (a ∷ []) answers in
    let count : length (before ++ a ∷ []) ≡ length before + 1 = length-append before (a ∷ []) in
    (λ i. Kept (here_is before answers a Done i) (first + length before) ∷ map (keeping (before ++ a ∷ answers) first) (map Pending (range_with_len (length before + 1) (length answers))))
    ∙ ap (λ (xs : List Standing). Kept a (first + length before) ∷ xs)
    ((λ i. map (keeping (sym next i) first) (map Pending (range_with_len (sym count i) (length answers)))) ∙ kept_list first (before ++ a ∷ []) answers
    ∙ ap (λ (n : ℕ). all_kept n answers) (ap (λ (n : ℕ). first + n) count ∙ omega arith))

not_spent : (f : LiveFutures) (key : ℕ) (u : Ticket) (x : Standing) → u.key ≢ key → Stands f u x → Stands (spent key f) u x
not_spent f key u x n s = record { lane = s.lane; caller = s.caller; future = get_or-set_other f.live key u.key None None n ∙ s.future }

all_not_spent : (f : LiveFutures) (key : ℕ) (us : List Ticket) (xs : List Standing) → AllByRecursion (λ u. u.key ≢ key) us → AllZip (Stands f) us xs → AllZip (Stands (spent key f)) us xs
all_not_spent f key [] [] n h = tt
all_not_spent f key [] (x ∷ xs) n h = absurd h
all_not_spent f key (u ∷ us) [] n h = absurd h
all_not_spent f key (u ∷ us) (x ∷ xs) n h = (not_spent f key u x n.0 h.0, all_not_spent f key us xs n.1 h.1)

-- a ticket whose operation is not pending is spent
pub held-spent : {P : Type 0} (number c : ℕ) (ops : List Op) (x : Standing) (xs : List Standing) (t : Ticket) (ts : List Ticket) (old new : SessionState P) → Holds number c ops (x ∷ xs) (t ∷ ts) old → new.pending ≡ old.pending → new.futures ≡ spent t.key old.futures
    → live_count new.futures + 1 ≡ live_count old.futures → Holds number c ops xs ts new
held-spent number c ops x xs t ts old new h same e counted = record {
  lane = ap (λ (f : LiveFutures). f.lane) e ∙ h.lane;
  caller = ap (λ (f : LiveFutures). f.caller) e ∙ h.caller;
  batch = ap (λ (f : LiveFutures). f.batch) e ∙ h.batch;
  tickets = ap (λ (f : LiveFutures). f.tickets) e ∙ h.tickets;
  pending = same ∙ h.pending;
  waiting = ap (λ (f : LiveFutures). f.waiting) e ∙ h.waiting;
  live = let k = h.live in omega (arith, counted, k);
  each = subst (λ (f : LiveFutures). AllZip (Stands f) ts xs) (sym e) (all_not_spent old.futures t.key ts xs h.apart.0 h.each.1);
  apart = h.apart.1;
}

-- the whole group is made
pub held-made : {P : Type 0} (number c : ℕ) (ops : List Op) (t : Ticket) (ts : List Ticket) (outcome : Outcome) (before after : List Group) (old new : SessionState P) → Holds number c ops (all_pending (length ops)) (t ∷ ts) old
    → IsMade t 0 outcome old.pending old.futures new.futures before after → new.pending ≡ [] → live_count new.futures + 1 ≡ live_count old.futures → IsMadeOfAll number c ops ts outcome before after new
held-made {P = P} number c ops t ts outcome before after old new h m none counted =
    let e = m.evaluated in
    let grew : Grew c ops e.answers before after = subst (λ (d : ℕ). Grew d ops e.answers before after) h.caller (subst (λ (os : List Op). Grew old.futures.caller os e.answers before after) h.pending e.made) in
    let many : length e.answers ≡ length ops = length-grew c ops e.answers before after grew in
    let first : made_by before old.futures.caller ≡ made_by before c = ap (made_by before) h.caller in
    let kept : AllZip (Stands m.all) (t ∷ ts) (map (keeping e.answers (made_by before c)) (all_pending (length ops))) =
    subst (λ (f : LiveFutures). AllZip (Stands f) (t ∷ ts) (map (keeping e.answers (made_by before c)) (all_pending (length ops)))) (sym (e.kept ∙ ap (λ (n : ℕ). settled e.answers n old.futures) first))
    (zip_map (Stands old.futures) (Stands (settled e.answers (made_by before c) old.futures)) (keeping e.answers (made_by before c)) (t ∷ ts) (all_pending (length ops)) (λ u x s. Stands-settled old.futures u x e.answers (made_by before c) s) h.each) in
    let standings : map (keeping e.answers (made_by before c)) (all_pending (length ops)) ≡ all_kept (made_by before c) e.answers =
    ap (λ (n : ℕ). map (keeping e.answers (made_by before c)) (all_pending n)) (sym many) ∙ kept_list (made_by before c) [] e.answers ∙ ap (λ (n : ℕ). all_kept n e.answers) (omega arith) in
    let rest : new.futures ≡ spent t.key (settled e.answers (made_by before c) old.futures) = m.rest ∙ ap (spent t.key) (e.kept ∙ ap (λ (n : ℕ). settled e.answers n old.futures) first) in
    let all : AllZip (Stands m.all) (t ∷ ts) (all_kept (made_by before c) e.answers) = subst (AllZip (Stands m.all) (t ∷ ts)) standings kept in
    split e.answers grew all (m.own ∙ (λ i. outcome_of (h.lane i) (h.caller i) (made_by before (h.caller i) + 0) (get_or e.answers 0 Done))) rest
  where
    split : (answers : List Answer) → Grew c ops answers before after → AllZip (Stands m.all) (t ∷ ts) (all_kept (made_by before c) answers) → outcome ≡ outcome_of number c (made_by before c + 0) (get_or answers 0 Done)
        → new.futures ≡ spent t.key (settled m.evaluated.answers (made_by before c) old.futures) → IsMadeOfAll number c ops ts outcome before after new
    split [] g z o r = absurd z
    split (a ∷ answers) g z o r = record {
      answer = a;
      answers = answers;
      made = g;
      own = o ∙ ap (λ (n : ℕ). outcome_of number c n a) (omega arith);
      holds = record {
        lane = ap (λ (f : LiveFutures). f.lane) r ∙ h.lane;
        caller = ap (λ (f : LiveFutures). f.caller) r ∙ h.caller;
        batch = ap (λ (f : LiveFutures). f.batch) r ∙ h.batch;
        tickets = ap (λ (f : LiveFutures). f.tickets) r ∙ h.tickets;
        pending = none;
        waiting = ap (λ (f : LiveFutures). f.waiting) r;
        live = let k = h.live in omega (arith, counted, k);
        each = subst (λ (f : LiveFutures). AllZip (Stands f) ts (all_kept (made_by before c + 1) answers)) (sym m.rest) (all_not_spent m.all t.key ts (all_kept (made_by before c + 1) answers) h.apart.0 z.1);
        apart = h.apart.1;
      };
    }

-- the last pending operation is withdrawn
stands_withdrawn : (f : LiveFutures) (t : Ticket) (x : Standing) → Stands f t x → Stands (last_withdrawn f) t (withdrawing (f.waiting - 1) x)
stands_withdrawn f t x s = record {
  lane = s.lane;
  caller = s.caller;
  future = get_or-map (restand (withdrawing (f.waiting - 1))) f.live t.key None ∙ ap (restand (withdrawing (f.waiting - 1))) s.future;
}

below_stay : (a m n : ℕ) → a + m ≤ n → map (withdrawing n) (map Pending (range_with_len a m)) ≡ map Pending (range_with_len a m)
below_stay a zero n l = refl
below_stay a (suc m) n l =
    let off : (a == n) ≡ false = ne_eqb a n (λ e. absurd (omega (arith, e, l))) in
    (λ i. cond (off i) Withdrawn (Pending a) ∷ map (withdrawing n) (map Pending (range_with_len (a + 1) m))) ∙ ap (λ (xs : List Standing). Pending a ∷ xs) (below_stay (a + 1) m n (omega (arith, l)))

gone_stay : (n k : ℕ) → map (withdrawing n) (replicate k Withdrawn) ≡ replicate k Withdrawn
gone_stay n zero = refl
gone_stay n (suc k) = ap (λ (xs : List Standing). Withdrawn ∷ xs) (gone_stay n k)

one_withdrawn : (n k : ℕ) → map (withdrawing n) (some_withdrawn (suc n) k) ≡ some_withdrawn n (suc k)
one_withdrawn n k =
    let last : all_pending (suc n) ≡ all_pending n ++ Pending n ∷ [] = ap (map Pending) (range-last 0 n) ∙ map-append Pending (range_with_len 0 n) ((0 + n) ∷ []) ∙ ap (λ (m : ℕ). all_pending n ++ Pending m ∷ []) (zero-add n) in
    let on : (n == n) ≡ true = eq-eqb n n refl in
    map-append (withdrawing n) (all_pending (suc n)) (replicate k Withdrawn)
    ∙ ap (λ (xs : List Standing). map (withdrawing n) xs ++ map (withdrawing n) (replicate k Withdrawn)) last
    ∙ (λ i. map-append (withdrawing n) (all_pending n) (Pending n ∷ []) i ++ gone_stay n k i)
    ∙ (λ i. (below_stay 0 n n (omega arith) i ++ cond (on i) Withdrawn (Pending n) ∷ []) ++ replicate k Withdrawn)
    ∙ append_assoc (all_pending n) (Withdrawn ∷ []) (replicate k Withdrawn)

pub held-withdrawn : {P : Type 0} (number c k : ℕ) (ops all : List Op) (op : Op) (ts : List Ticket) (old new : SessionState P) → all ≡ ops ++ op ∷ [] → Holds number c all (some_withdrawn (length all) k) ts old → new.pending ≡ ops → new.futures ≡ last_withdrawn old.futures
    → live_count new.futures ≡ live_count old.futures → Holds number c ops (some_withdrawn (length ops) (suc k)) ts new
held-withdrawn number c k ops all op ts old new last h pending e counted =
    let count : length all ≡ suc (length ops) = ap length last ∙ length-append ops (op ∷ []) ∙ omega arith in
    let w = h.waiting in
    let place : old.futures.waiting - 1 ≡ length ops = omega (arith, w, count) in
    record {
      lane = ap (λ (f : LiveFutures). f.lane) e ∙ h.lane;
      caller = ap (λ (f : LiveFutures). f.caller) e ∙ h.caller;
      batch = ap (λ (f : LiveFutures). f.batch) e ∙ h.batch;
      tickets = ap (λ (f : LiveFutures). f.tickets) e ∙ h.tickets;
      pending = pending;
      waiting = ap (λ (f : LiveFutures). f.waiting) e ∙ place;
      live = counted ∙ h.live;
      each = subst (λ (f : LiveFutures). AllZip (Stands f) ts (some_withdrawn (length ops) (suc k))) (sym e)
          (subst (AllZip (Stands (last_withdrawn old.futures)) ts) (ap (λ (n : ℕ). map (withdrawing n) (some_withdrawn (length all) k)) place ∙ ap (λ (n : ℕ). map (withdrawing (length ops)) (some_withdrawn n k)) count ∙ one_withdrawn (length ops) k)
          (zip_map (Stands old.futures) (Stands (last_withdrawn old.futures)) (withdrawing (old.futures.waiting - 1)) ts (some_withdrawn (length all) k) (λ u x s. stands_withdrawn old.futures u x s) h.each));
      apart = h.apart;
    }

-- one fewer is live
pub fewer_live : (live : List (Option Future)) (key : ℕ) (x : Future) → under live key ≡ Some x → count_by is_some (set live key None) + 1 ≡ count_by is_some live
fewer_live [] key x e = absurd (some_not_none x None e refl)
fewer_live (None ∷ live) zero x e = absurd (some_not_none x None e refl)
fewer_live (Some y ∷ live) zero x e =
    let now = sum_by-cons (λ (o : Option Future). cond (is_some o) 1 0) None live in
    let was = sum_by-cons (λ (o : Option Future). cond (is_some o) 1 0) (Some y) live in
    omega (arith, now, was)
fewer_live (o ∷ live) (suc key) x e =
    let rest = fewer_live live key x e in
    let now = sum_by-cons (λ (p : Option Future). cond (is_some p) 1 0) o (set live key None) in
    let was = sum_by-cons (λ (p : Option Future). cond (is_some p) 1 0) o live in
    omega (arith, rest, now, was)

zip_many : {A B : Type 0} (R : A → B → Type 0) (xs : List A) (ys : List B) → AllZip R xs ys → length xs ≡ length ys
zip_many R [] [] h = refl
zip_many R [] (y ∷ ys) h = absurd h
zip_many R (x ∷ xs) [] h = absurd h
zip_many R (x ∷ xs) (y ∷ ys) h = ap (λ n. suc n) (zip_many R xs ys h.1)

pub held-count : {P : Type 0} {number c : ℕ} {ops : List Op} {held : List Ticket} {s : SessionState P} → Holds number c ops (all_pending (length ops)) held s → length held ≡ length ops
held-count {ops = ops} {held = held} {s = s} h = zip_many (Stands s.futures) held (all_pending (length ops)) h.each ∙ length-map-range_with_len Pending 0 (length ops)

pub held-next : {P : Type 0} {number c : ℕ} {ops : List Op} {xs : List Standing} {held : List Ticket} {old new : SessionState P} (more : List Op) (op : Op) (news : List Ticket) → Holds number c ops xs held old
    → Holds old.futures.lane old.futures.caller (old.pending ++ op ∷ []) (all_pending (length (old.pending ++ op ∷ []))) news new → more ≡ ops ++ op ∷ [] → Holds number c more (all_pending (length more)) news new
held-next {number = number} {c = c} {old = old} {new = new} more op news h k e =
    let same : old.pending ++ op ∷ [] ≡ more = ap (λ (os : List Op). os ++ op ∷ []) h.pending ∙ sym e in
    subst (λ (os : List Op). Holds number c os (all_pending (length os)) news new) same
    (subst (λ (n : ℕ). Holds n c (old.pending ++ op ∷ []) (all_pending (length (old.pending ++ op ∷ []))) news new) h.lane
    (subst (λ (n : ℕ). Holds old.futures.lane n (old.pending ++ op ∷ []) (all_pending (length (old.pending ++ op ∷ []))) news new) h.caller k))

pub replicate_last : {X : Type 0} (n : ℕ) (x : X) → replicate (n + 1) x ≡ replicate n x ++ x ∷ []
replicate_last {X = X} n x = ap (λ (k : ℕ). replicate k x) (let e : n + 1 ≡ suc n = omega arith in e) ∙ last n
  where
    last : (k : ℕ) → replicate (suc k) x ≡ replicate k x ++ x ∷ []
    last zero = refl
    last (suc k) = ap (λ (xs : List X). x ∷ xs) (last k)

pub enqueues_last : (first n v : ℕ) → v ≡ first + n → map Enq (range_with_len first (n + 1)) ≡ map Enq (range_with_len first n) ++ Enq v ∷ []
enqueues_last first n v e =
    ap (λ (k : ℕ). map Enq (range_with_len first k)) (let s : n + 1 ≡ suc n = omega arith in s) ∙ ap (map Enq) (range-last first n) ∙ map-append Enq (range_with_len first n) ((first + n) ∷ []) ∙ ap (λ (w : ℕ). map Enq (range_with_len first n) ++ Enq w ∷ []) (sym e)

pub held-same : {P : Type 0} {number c : ℕ} {ops : List Op} {xs : List Standing} {held : List Ticket} (old new : SessionState P) → Holds number c ops xs held old → new.pending ≡ old.pending → new.futures ≡ old.futures → Holds number c ops xs held new
held-same {number = number} {c = c} {ops = ops} {xs = xs} {held = held} old new h p f = record {
  lane = ap (λ (g : LiveFutures). g.lane) f ∙ h.lane;
  caller = ap (λ (g : LiveFutures). g.caller) f ∙ h.caller;
  batch = ap (λ (g : LiveFutures). g.batch) f ∙ h.batch;
  tickets = ap (λ (g : LiveFutures). g.tickets) f ∙ h.tickets;
  pending = p ∙ h.pending;
  waiting = ap (λ (g : LiveFutures). g.waiting) f ∙ h.waiting;
  live = ap live_count f ∙ h.live;
  each = subst (λ (g : LiveFutures). AllZip (Stands g) held xs) (sym f) h.each;
  apart = h.apart;
}

first_stands : (f : LiveFutures) (n : ℕ) (t : Ticket) (ts : List Ticket) → AllZip (Stands f) (t ∷ ts) (all_pending n) → Stands f t (Pending 0)
first_stands f zero t ts z = absurd z
first_stands f (suc n) t ts z = z.0

pub first_pending : {P : Type 0} {number c : ℕ} {ops : List Op} {t : Ticket} {ts : List Ticket} (s : SessionState P) → Holds number c ops (all_pending (length ops)) (t ∷ ts) s → Stands s.futures t (Pending 0)
first_pending {ops = ops} {t = t} {ts = ts} s h = first_stands s.futures (length ops) t ts h.each

pub made_later : {P : Type 0} {number c : ℕ} {ops : List Op} {ts : List Ticket} {o : Outcome} {s : SessionState P} (one two three : List Group) → SawMore c one two → IsMadeOfAll number c ops ts o two three s → IsMadeOfAll number c ops ts o one three s
made_later {number = number} {c = c} {ops = ops} {ts = ts} {s = s} one two three more m =
    let same : made_by two c ≡ made_by one c = ap (λ (gs : List Group). length (operations gs)) more.own in
    record {
      answer = m.answer;
      answers = m.answers;
      made = Grew-after c ops (m.answer ∷ m.answers) one two three more m.made;
      own = m.own ∙ ap (λ (n : ℕ). outcome_of number c n m.answer) same;
      holds = subst (λ (n : ℕ). Holds number c [] (all_kept (n + 1) m.answers) ts s) same m.holds;
    }

pub spent_withdrawn : {P : Type 0} {number c : ℕ} (n : ℕ) (t : Ticket) (ts : List Ticket) (old new : SessionState P) → Holds number c [] (Withdrawn ∷ replicate n Withdrawn) (t ∷ ts) old → new ≡ record old { futures = spent t.key old.futures } → Holds number c [] (replicate n Withdrawn) ts new
spent_withdrawn {number = number} {c = c} n t ts old new h e =
    let f : new.futures ≡ spent t.key old.futures = ap (λ (s : SessionState _). s.futures) e in
    held-spent number c [] Withdrawn (replicate n Withdrawn) t ts old new h (ap (λ (s : SessionState _). s.pending) e) f
    (ap (λ (g : LiveFutures). live_count g + 1) f ∙ fewer_live old.futures.live t.key _ h.each.0.future)

-- a dequeue is made where nothing is held
pub held-dequeued : {P : Type 0} (number c : ℕ) (op : Op) (outcome : Outcome) (before after : List Group) (old new : SessionState P) → Holds number c [] [] [] old → IsMadeWith outcome op old.pending old.futures new.futures before after → new.pending ≡ [] → live_count new.futures ≡ live_count old.futures
    → IsMadeOfAll number c (op ∷ []) [] outcome before after new
held-dequeued number c op outcome before after old new h m none counted =
    let e = m.evaluated in
    let ops : old.pending ++ op ∷ [] ≡ op ∷ [] = ap (λ (os : List Op). os ++ op ∷ []) h.pending in
    let grew : Grew c (op ∷ []) e.answers before after = subst (λ (d : ℕ). Grew d (op ∷ []) e.answers before after) h.caller (subst (λ (os : List Op). Grew old.futures.caller os e.answers before after) ops e.made) in
    let many : length e.answers ≡ 1 = length-grew c (op ∷ []) e.answers before after grew in
    let place : length old.pending ≡ 0 = ap length h.pending in
    split e.answers grew many (m.own ∙ (λ i. outcome_of (h.lane i) (h.caller i) (made_by before (h.caller i) + place i) (get_or e.answers (place i) Done)))
  where
    f : new.futures ≡ settled m.evaluated.answers (made_by before old.futures.caller) old.futures
    f = m.evaluated.kept

    split : (answers : List Answer) → Grew c (op ∷ []) answers before after → length answers ≡ 1 → outcome ≡ outcome_of number c (made_by before c + 0) (get_or answers 0 Done) → IsMadeOfAll number c (op ∷ []) [] outcome before after new
    split [] g l o = absurd (omega (arith, l))
    split (a ∷ b ∷ answers) g l o = absurd (omega (arith, l))
    split (a ∷ []) g l o = record {
      answer = a;
      answers = [];
      made = g;
      own = o ∙ ap (λ (n : ℕ). outcome_of number c n a) (omega arith);
      holds = record {
        lane = ap (λ (x : LiveFutures). x.lane) f ∙ h.lane;
        caller = ap (λ (x : LiveFutures). x.caller) f ∙ h.caller;
        batch = ap (λ (x : LiveFutures). x.batch) f ∙ h.batch;
        tickets = ap (λ (x : LiveFutures). x.tickets) f ∙ h.tickets;
        pending = none;
        waiting = ap (λ (x : LiveFutures). x.waiting) f;
        live = counted ∙ h.live;
        each = tt;
        apart = tt;
      };
    }
