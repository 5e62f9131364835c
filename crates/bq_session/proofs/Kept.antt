-- What a session keeps stays what the operations got, whatever is done to its futures.
use Rattle.std.proofs.Common.{◌≡◌, ◌≢◌, All, ℕ, ◌+◌, ◌-◌, ◌<◌, ◌≤◌, ◌==◌, Bool, true, false, cond, List, length, map, get_or, set, Option, Some, None, is_some, Result, Ok, Err, IfOk, refl, sym, ap, subst, ◌∙◌, arith, ◌⊎◌, inl, inr}
use Rattle.std.proofs.lemmas.Bool.{cases_eq}
use Rattle.std.proofs.lemmas.List.{get_or-set_same, get_or-set_other}
use Rattle.std.proofs.Math.ListN.{get_or-map}
use Rattle.bq_model.specs.declared.op.Op.{Op}
use Rattle.bq_model.specs.declared.op.Answer.{Answer}
use Rattle.bq_model.specs.declared.op.Answer.TheVariants.{Done, Got, Empty, Refused}
use Rattle.bq_model.specs.declared.group.Group.{Group}
use Rattle.bq_model.specs.History.{operations}
use Rattle.bq_model.specs.Own.{GotAnswer}
use Rattle.bq_model.specs.Grows.{Grew, SawMore}
use Rattle.bq_session.specs.declared.future.Future.{Future}
use Rattle.bq_session.specs.declared.future.Standing.{Standing}
use Rattle.bq_session.specs.declared.future.Standing.TheVariants.{Pending, Kept, Withdrawn}
use Rattle.bq_session.specs.declared.ticket.Ticket.{Ticket}
use Rattle.bq_session.specs.declared.claim.Outcome.{Outcome}
use Rattle.bq_session.specs.declared.claim.Outcome.TheVariants as outcome
use Rattle.bq_session.specs.Futures.{LiveFutures, under, Stands, IsIssued, place_of, restand, keeping, settled, withdrawing, last_withdrawn, spent, HavePlaces}
use Rattle.bq_session.specs.Outcome.{KeepsAnswers, WasGiven, ClaimsOwn, outcome_of, made_by}
use Rattle.bq_session.specs.Session.{IsEvaluated}
use Rattle.bq_model.proofs.OpenQueues.{accepted-at}
use Rattle.bq_session.proofs.Pending.{within_live}
use Rattle.bq_session.proofs.Names.{GotAnswer-saw_more, GotAnswer-grew, GotAnswer-made, serial_below, made_by-grew}

-- a future that stands so
abbrev pub standing_so : ℕ → Standing → Future
standing_so number x = record { number = number; standing = x }

-- what is kept under a key afterwards was kept there before
abbrev pub KeptBefore : List (Option Future) → List (Option Future) → Type 0
KeptBefore old new = (key number serial : ℕ) (answer : Answer) → under new key ≡ Some (standing_so number (Kept answer serial)) → under old key ≡ Some (standing_so number (Kept answer serial))

pub KeepsAnswers-before : (seen : List Group) (old new : LiveFutures) → new.caller ≡ old.caller → KeptBefore old.live new.live → KeepsAnswers seen old → KeepsAnswers seen new
KeepsAnswers-before seen old new caller before k = record {
  got = λ key number serial answer e. subst (λ (c : ℕ). GotAnswer seen c serial answer) (sym caller) (k.got key number serial answer (before key number serial answer e));
  accepted = λ key number serial answer e. k.accepted key number serial answer (before key number serial answer e);
  apart = λ key other m n serial a b e f. k.apart key other m n serial a b (before key m serial a e) (before other n serial b f);
}

WasGiven-before : (serial : ℕ) (seen : List Group) (old new : LiveFutures) → new.caller ≡ old.caller → KeptBefore old.live new.live → WasGiven serial seen old → WasGiven serial seen new
WasGiven-before serial seen old new caller before was = record {
  made = (let below = was.made in let same = ap (made_by seen) caller in omega arith);
  gone = λ key number answer e. was.gone key number answer (before key number serial answer e);
}

kept_before_issue : (t : Ticket) (old new : LiveFutures) → IsIssued t old new → KeptBefore old.live new.live
kept_before_issue t old new issued key number serial answer e = elim (cases_eq key t.key) [
  | inl same ↦
      let pending : Some (standing_so t.number (Pending old.waiting)) ≡ Some (standing_so number (Kept answer serial)) =
      sym issued.stands.future ∙ ap (under new.live) (sym same) ∙ e in
      (let places : Some old.waiting ≡ None = ap place_of pending in cc places)
  | inr apart ↦ sym (issued.others key apart) ∙ e
]

pub KeepsAnswers-issued : (seen : List Group) (t : Ticket) (old new : LiveFutures) → IsIssued t old new → KeepsAnswers seen old → KeepsAnswers seen new
KeepsAnswers-issued seen t old new issued k = KeepsAnswers-before seen old new (ap (λ (f : LiveFutures). f.caller) issued.rest) (kept_before_issue t old new issued) k

pub WasGiven-issued : (serial : ℕ) (seen : List Group) (t : Ticket) (old new : LiveFutures) → IsIssued t old new → WasGiven serial seen old → WasGiven serial seen new
WasGiven-issued serial seen t old new issued was = WasGiven-before serial seen old new (ap (λ (f : LiveFutures). f.caller) issued.rest) (kept_before_issue t old new issued) was

restand_kept : (change : Standing → Standing) → ((x : Standing) (answer : Answer) (serial : ℕ) → change x ≡ Kept answer serial → x ≡ Kept answer serial) → (o : Option Future) (number serial : ℕ) (answer : Answer)
    → restand change o ≡ Some (standing_so number (Kept answer serial)) → o ≡ Some (standing_so number (Kept answer serial))
restand_kept change h None number serial answer e = cc e
restand_kept change h (Some future) number serial answer e =
    let same : standing_so future.number (change future.standing) ≡ standing_so number (Kept answer serial) = cc e in
    (λ i. Some (standing_so (same i).number (h future.standing answer serial (ap (λ (f : Future). f.standing) same) i)))

withdrawing_kept : (last : ℕ) (x : Standing) (answer : Answer) (serial : ℕ) → withdrawing last x ≡ Kept answer serial → x ≡ Kept answer serial
withdrawing_kept last (Pending place) answer serial e = by_cases (place == last) e where
  by_cases : (b : Bool) → cond b Withdrawn (Pending place) ≡ Kept answer serial → Pending place ≡ Kept answer serial
  by_cases true e = cc e
  by_cases false e = e
withdrawing_kept last (Kept a s) answer serial e = e
withdrawing_kept last Withdrawn answer serial e = e

kept_before_withdrawal : (f : LiveFutures) → KeptBefore f.live (last_withdrawn f).live
kept_before_withdrawal f key number serial answer e =
    restand_kept (withdrawing (f.waiting - 1)) (withdrawing_kept (f.waiting - 1)) (under f.live key) number serial answer (sym (get_or-map (restand (withdrawing (f.waiting - 1))) f.live key None) ∙ e)

pub KeepsAnswers-withdrawn : (seen : List Group) (f : LiveFutures) → KeepsAnswers seen f → KeepsAnswers seen (last_withdrawn f)
KeepsAnswers-withdrawn seen f k = KeepsAnswers-before seen f (last_withdrawn f) refl (kept_before_withdrawal f) k

pub WasGiven-withdrawn : (serial : ℕ) (seen : List Group) (f : LiveFutures) → WasGiven serial seen f → WasGiven serial seen (last_withdrawn f)
WasGiven-withdrawn serial seen f was = WasGiven-before serial seen f (last_withdrawn f) refl (kept_before_withdrawal f) was

gone : (live : List (Option Future)) (key : ℕ) → is_some (under live key) ≡ true → under (set live key None) key ≡ None
gone live key there = get_or-set_same live key None None (within_live live key there)

kept_before_spending : (f : LiveFutures) (t : Ticket) (x : Standing) → Stands f t x → KeptBefore f.live (spent t.key f).live
kept_before_spending f t x stood other number serial answer e = elim (cases_eq other t.key) [
  | inl same ↦ (let none : under (set f.live t.key None) other ≡ None = ap (under (set f.live t.key None)) same ∙ gone f.live t.key (ap is_some stood.future) in cc (e, none))
  | inr apart ↦ sym (get_or-set_other f.live t.key other None None apart) ∙ e
]

pub KeepsAnswers-spent : (seen : List Group) (f : LiveFutures) (t : Ticket) (x : Standing) → Stands f t x → KeepsAnswers seen f → KeepsAnswers seen (spent t.key f)
KeepsAnswers-spent seen f t x stood k = KeepsAnswers-before seen f (spent t.key f) refl (kept_before_spending f t x stood) k

pub WasGiven-spent : (serial : ℕ) (seen : List Group) (f : LiveFutures) (t : Ticket) (x : Standing) → Stands f t x → WasGiven serial seen f → WasGiven serial seen (spent t.key f)
WasGiven-spent serial seen f t x stood was = WasGiven-before serial seen f (spent t.key f) refl (kept_before_spending f t x stood) was

pub WasGiven-saw_more : (serial : ℕ) (old new : List Group) (f : LiveFutures) → SawMore f.caller old new → WasGiven serial old f → WasGiven serial new f
WasGiven-saw_more serial old new f s was = record {
  made = (let below = was.made in let same = ap (λ (gs : List Group). length (operations gs)) s.own in omega arith);
  gone = was.gone;
}

pub KeepsAnswers-saw_more : (old new : List Group) (f : LiveFutures) → SawMore f.caller old new → KeepsAnswers old f → KeepsAnswers new f
KeepsAnswers-saw_more old new f s k = record {
  got = λ key number serial answer e. GotAnswer-saw_more old new f.caller serial answer s (k.got key number serial answer e);
  accepted = k.accepted;
  apart = k.apart;
}

-- what is kept after an evaluation was kept before, or was pending
keeping_kept : (answers : List Answer) (first number : ℕ) (x : Standing) (answer : Answer) (serial : ℕ) → keeping answers first x ≡ Kept answer serial
    → (x ≡ Kept answer serial) ⊎ ((place : ℕ) × (x ≡ Pending place) × (get_or answers place Done ≡ answer) × (first + place ≡ serial))
keeping_kept answers first number (Pending place) answer serial e = inr (place, refl, cc e, cc e)
keeping_kept answers first number (Kept a s) answer serial e = inl e
keeping_kept answers first number Withdrawn answer serial e = cc e

-- where an answer that is kept comes from
abbrev KeptFrom : List Answer → ℕ → Option Future → ℕ → ℕ → Answer → Type 0
KeptFrom answers first o number serial answer = (o ≡ Some (standing_so number (Kept answer serial)))
    ⊎ ((place : ℕ) × (place_of o ≡ Some place) × (get_or answers place Done ≡ answer) × (first + place ≡ serial))

kept_from : (answers : List Answer) (first : ℕ) (o : Option Future) (number serial : ℕ) (answer : Answer)
    → restand (keeping answers first) o ≡ Some (standing_so number (Kept answer serial)) → KeptFrom answers first o number serial answer
kept_from answers first None number serial answer e = cc e
kept_from answers first (Some future) number serial answer e =
    let same : standing_so future.number (keeping answers first future.standing) ≡ standing_so number (Kept answer serial) = cc e in
    elim (keeping_kept answers first number future.standing answer serial (ap (λ (f : Future). f.standing) same)) [
      | inl kept ↦ inl (λ i. Some (standing_so (same i).number (kept i)))
      | inr pending ↦ inr (pending.0, ap (λ (x : Standing). place_of (Some (standing_so future.number x))) pending.1, pending.2, pending.3)
    ]

pub KeepsAnswers-settled : (ops : List Op) (answers : List Answer) (old new : List Group) (f : LiveFutures) → Grew f.caller ops answers old new → All (λ answer. answer ≢ Refused) answers → HavePlaces f.waiting f.live
    → f.waiting ≤ length ops → KeepsAnswers old f → KeepsAnswers new (settled answers (made_by old f.caller) f)
KeepsAnswers-settled ops answers old new f g all places enough k = record {
  got = λ key number serial answer e. got (under f.live key) key refl number serial answer (from key number serial answer e);
  accepted = λ key number serial answer e. accepted key number serial answer (from key number serial answer e);
  apart = λ key other m n serial a b e h. apart key other m n serial a b (from key m serial a e) (from other n serial b h);
} where
  from : (key number serial : ℕ) (answer : Answer) → under (map (restand (keeping answers (made_by old f.caller))) f.live) key ≡ Some (standing_so number (Kept answer serial))
      → KeptFrom answers (made_by old f.caller) (under f.live key) number serial answer
  from key number serial answer e = kept_from answers (made_by old f.caller) (under f.live key) number serial answer
      (sym (get_or-map (restand (keeping answers (made_by old f.caller))) f.live key None) ∙ e)

  got : (o : Option Future) (key : ℕ) → under f.live key ≡ o → (number serial : ℕ) (answer : Answer) → KeptFrom answers (made_by old f.caller) (under f.live key) number serial answer → GotAnswer new f.caller serial answer
  got o key is number serial answer (inl kept) = GotAnswer-grew old new f.caller serial ops answers answer g (k.got key number serial answer kept)
  got o key is number serial answer (inr pending) =
      let within : pending.0 < length ops = (let below = places.below key pending.0 pending.1 in omega arith) in
      subst (λ (n : ℕ). GotAnswer new f.caller n answer) pending.3
      (subst (λ (a : Answer). GotAnswer new f.caller (made_by old f.caller + pending.0) a) pending.2 (GotAnswer-made f.caller ops answers old new pending.0 g within))

  accepted : (key number serial : ℕ) (answer : Answer) → KeptFrom answers (made_by old f.caller) (under f.live key) number serial answer → answer ≢ Refused
  accepted key number serial answer (inl kept) = k.accepted key number serial answer kept
  accepted key number serial answer (inr pending) = subst (λ (a : Answer). a ≢ Refused) pending.2 (accepted-at answers pending.0 all)

  apart : (key other m n serial : ℕ) (a b : Answer) → KeptFrom answers (made_by old f.caller) (under f.live key) m serial a → KeptFrom answers (made_by old f.caller) (under f.live other) n serial b → key ≡ other
  apart key other m n serial a b (inl x) (inl y) = k.apart key other m n serial a b x y
  apart key other m n serial a b (inl x) (inr y) = (let below = serial_below old f.caller serial a (k.got key m serial a x) in let e = y.3 in absurd (omega arith))
  apart key other m n serial a b (inr x) (inl y) = (let below = serial_below old f.caller serial b (k.got other n serial b y) in let e = x.3 in absurd (omega arith))
  apart key other m n serial a b (inr x) (inr y) =
      let same : y.0 ≡ x.0 = (let d = x.3 in let e = y.3 in omega arith) in
      places.apart key other x.0 x.1 (y.1 ∙ ap (λ (p : ℕ). Some p) same)

-- what was given stays so where more operations are made
pub WasGiven-settled : (serial : ℕ) (ops : List Op) (answers : List Answer) (old new : List Group) (f : LiveFutures) → Grew f.caller ops answers old new → WasGiven serial old f
    → WasGiven serial new (settled answers (made_by old f.caller) f)
WasGiven-settled serial ops answers old new f g was = record {
  made = (let below = was.made in let more = made_by-grew f.caller ops answers old new g in omega arith);
  gone = λ key number answer e. elim (kept_from answers (made_by old f.caller) (under f.live key) number serial answer (sym (get_or-map (restand (keeping answers (made_by old f.caller))) f.live key None) ∙ e)) [
    | inl kept ↦ was.gone key number answer kept
    | inr pending ↦ (let below = was.made in let at = pending.3 in absurd (omega arith))
  ];
}

pub WasGiven-evaluated : (serial : ℕ) (ops : List Op) (old new : LiveFutures) (before after : List Group) → IsEvaluated ops old new before after → WasGiven serial before old → WasGiven serial after new
WasGiven-evaluated serial ops old new before after e was =
    subst (λ (f : LiveFutures). WasGiven serial after f) (sym e.kept) (WasGiven-settled serial ops e.answers before after old e.made was)

-- the ticket's future, where it was kept
pub ClaimsOwn-spent : (seen : List Group) (f : LiveFutures) (t : Ticket) (answer : Answer) (serial : ℕ) → Stands f t (Kept answer serial) → KeepsAnswers seen f
    → ClaimsOwn (outcome_of f.lane f.caller serial answer) seen f seen (spent t.key f)
ClaimsOwn-spent seen f t Done serial s k = tt
ClaimsOwn-spent seen f t Empty serial s k = tt
ClaimsOwn-spent seen f t Refused serial s k = tt
ClaimsOwn-spent seen f t (Got v) serial s k = record {
  lane = refl;
  caller = refl;
  got = k.got t.key t.number serial (Got v) s.future;
  fresh = λ was. was.gone t.key t.number (Got v) s.future;
  given = record {
    made = serial_below seen f.caller serial (Got v) (k.got t.key t.number serial (Got v) s.future);
    gone = λ key number answer e. elim (cases_eq key t.key) [
      | inl same ↦
          let none : under (set f.live t.key None) key ≡ None = ap (under (set f.live t.key None)) same ∙ gone f.live t.key (ap is_some s.future) in
          cc (e, none)
      | inr apart ↦ absurd (apart (k.apart key t.key number t.number serial answer (Got v) (sym (get_or-set_other f.live t.key key None None apart) ∙ e) s.future))
    ];
  };
}

-- the last of a group, which no future waits for
pub ClaimsOwn-made : (ops : List Op) (answers : List Answer) (old new : List Group) (f : LiveFutures) (place : ℕ) → Grew f.caller ops answers old new → HavePlaces f.waiting f.live
    → f.waiting ≤ place → place < length ops → KeepsAnswers old f
    → ClaimsOwn (outcome_of f.lane f.caller (made_by old f.caller + place) (get_or answers place Done)) old f new (settled answers (made_by old f.caller) f)
ClaimsOwn-made ops answers old new f place g places behind within k = by_answer (get_or answers place Done) refl where
  by_answer : (answer : Answer) → get_or answers place Done ≡ answer → ClaimsOwn (outcome_of f.lane f.caller (made_by old f.caller + place) answer) old f new (settled answers (made_by old f.caller) f)
  by_answer Done is = tt
  by_answer Empty is = tt
  by_answer Refused is = tt
  by_answer (Got v) is = record {
    lane = refl;
    caller = refl;
    got = subst (λ (a : Answer). GotAnswer new f.caller (made_by old f.caller + place) a) is (GotAnswer-made f.caller ops answers old new place g within);
    fresh = λ was. (let below = was.made in omega arith);
    given = record {
      made = (let more = made_by-grew f.caller ops answers old new g in omega arith);
      gone = λ key number answer e. elim (kept_from answers (made_by old f.caller) (under f.live key) number (made_by old f.caller + place) answer
          (sym (get_or-map (restand (keeping answers (made_by old f.caller))) f.live key None) ∙ e)) [
            | inl kept ↦ (let below = serial_below old f.caller (made_by old f.caller + place) answer (k.got key number (made_by old f.caller + place) answer kept) in absurd (omega arith))
            | inr pending ↦ (let below = places.below key pending.0 pending.1 in let at = pending.3 in absurd (omega arith))
          ];
    };
  }

-- the same, where the outcome is made of the ticket's future
pub ClaimsOwn-taken : (seen : List Group) (f new : LiveFutures) (t : Ticket) (lane caller serial : ℕ) (answer : Answer) (outcome : Outcome) → lane ≡ f.lane → caller ≡ f.caller
    → outcome ≡ outcome_of lane caller serial answer → new ≡ spent t.key f → Stands f t (Kept answer serial) → KeepsAnswers seen f → ClaimsOwn outcome seen f seen new
ClaimsOwn-taken seen f new t lane caller serial answer outcome of_lane of_caller is rest stood k =
    let made : outcome ≡ outcome_of f.lane f.caller serial answer = is ∙ (λ i. outcome_of (of_lane i) (of_caller i) serial answer) in
    subst (λ (o : Outcome). ClaimsOwn o seen f seen new) (sym made)
    (subst (λ (g : LiveFutures). ClaimsOwn (outcome_of f.lane f.caller serial answer) seen f seen g) (sym rest) (ClaimsOwn-spent seen f t answer serial stood k))

-- a claim that is given after an evaluation is given after what was before it
pub ClaimsOwn-earlier : (outcome : Outcome) (ops : List Op) (old mid new : LiveFutures) (before between after : List Group) → IsEvaluated ops old mid before between → ClaimsOwn outcome between mid after new
    → ClaimsOwn outcome before old after new
ClaimsOwn-earlier outcome.Done ops old mid new before between after e own = tt
ClaimsOwn-earlier outcome.Empty ops old mid new before between after e own = tt
ClaimsOwn-earlier (outcome.Got claim) ops old mid new before between after e own =
    let caller : mid.caller ≡ old.caller = ap (λ (f : LiveFutures). f.caller) e.kept in
    record {
      lane = own.lane ∙ ap (λ (f : LiveFutures). f.lane) e.kept;
      caller = own.caller ∙ caller;
      got = subst (λ (c : ℕ). GotAnswer after c claim.serial (Got claim.value)) caller own.got;
      fresh = λ was. own.fresh (WasGiven-evaluated claim.serial ops old mid before between e was);
      given = own.given;
    }

pub ok_is : {T E : Type 0} (P : T → Type 0) (r : Result T E) (x : T) → r ≡ Ok x → P x → IfOk r P
ok_is {T} {E} P r x is h = let Q : Result T E → Type 0 = λ s. IfOk s P in subst Q (sym is) h

pub err_is : {T E : Type 0} (P : T → Type 0) (r : Result T E) (e : E) → r ≡ Err e → IfOk r P
err_is {T} {E} P r e is = let Q : Result T E → Type 0 = λ s. IfOk s P in subst Q (sym is) tt

pub if_ok : {T E : Type 0} (P Q : T → Type 0) (r : Result T E) → ((x : T) → P x → Q x) → IfOk r P → IfOk r Q
if_ok P Q (Ok x) f h = f x h
if_ok P Q (Err e) f h = tt
