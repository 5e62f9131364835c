-- What a loop over tickets keeps: they were made in order, and are evaluated in order.
use Rattle.std.proofs.Common.{◌≡◌, ◌≢◌, ℕ, ◌+◌, ◌-◌, ◌<◌, Bool, cond, List, [], ◌∷◌, ◌++◌, length, get_or, Some, None, refl, sym, ap, subst, ◌∙◌, arith, inl, inr, eq-eqb, ne_eqb, length-append}
use Rattle.std.specs.List.{slice_get}
use Rattle.std.proofs.lemmas.Bool.{cases_lt}
use Rattle.std.proofs.lemmas.List.{get_or-set_other}
use Rattle.std.proofs.lemmas.Option.{slice_get_within}
use Rattle.std.proofs.Math.ListN.{get_or-map}
use Rattle.bq_model.specs.declared.op.Op.{Op}
use Rattle.bq_model.specs.declared.op.Answer.{Answer}
use Rattle.bq_model.specs.declared.op.Answer.TheVariants.{Done}
use Rattle.bq_model.specs.declared.group.Group.{Group}
use Rattle.bq_session.specs.declared.claim.Outcome.{Outcome}
use Rattle.bq_session.specs.declared.future.Standing.{Standing}
use Rattle.bq_session.specs.declared.future.Standing.TheVariants.{Pending, Kept, Withdrawn}
use Rattle.bq_session.specs.declared.ticket.Ticket.{Ticket}
use Rattle.bq_session.specs.Futures.{LiveFutures, Stands, IsLive, IsIssued, under, place_of, restand, withdrawing, last_withdrawn, spent}
use Rattle.bq_session.specs.Outcome.{made_by}
use Rattle.bq_session.specs.Session.{IsMade}
use Rattle.bq_session.specs.Tickets.{AreApart, WaitInOrder, KeepInOrder, AreWithdrawn}
use Rattle.bq_session.proofs.Pending.{front_or_last}
use Rattle.bq_session.proofs.Evaluated.{Stands-evaluated}

-- a ticket that is live stays so, and stands as it stood, where another one is made
pub Stands-issued : (t u : Ticket) (x : Standing) (old new : LiveFutures) → IsIssued t old new → Stands old u x → Stands new u x
Stands-issued t u x old new issued s = record {
  lane = s.lane ∙ sym (ap (λ (f : LiveFutures). f.lane) issued.rest);
  caller = s.caller ∙ sym (ap (λ (f : LiveFutures). f.caller) issued.rest);
  future = issued.others u.key (λ same. (let none : under old.live u.key ≡ None = ap (under old.live) same ∙ issued.fresh in let some = s.future in cc (none, some))) ∙ s.future;
}

-- or where another one is spent
pub Stands-spent : (f : LiveFutures) (t u : Ticket) (x : Standing) → u.key ≢ t.key → Stands f u x → Stands (spent t.key f) u x
Stands-spent f t u x apart s = record {
  lane = s.lane;
  caller = s.caller;
  future = get_or-set_other f.live t.key u.key None None apart ∙ s.future;
}

-- or where a pending operation of another one is withdrawn
Stands-withdrawn : (f : LiveFutures) (t : Ticket) (x y : Standing) → Stands f t x → withdrawing (f.waiting - 1) x ≡ y → Stands (last_withdrawn f) t y
Stands-withdrawn f t x y s is = record {
  lane = s.lane;
  caller = s.caller;
  future = get_or-map (restand (withdrawing (f.waiting - 1))) f.live t.key None ∙ ap (restand (withdrawing (f.waiting - 1))) s.future
      ∙ ap (λ (z : Standing). restand (λ _. z) (Some (record { number = t.number; standing = x }))) is;
}

-- where nothing is pending, no ticket waits
pub WaitInOrder-none : (f : LiveFutures) → WaitInOrder [] f
WaitInOrder-none f k t at = cc at

-- a ticket more waits at the end
pub WaitInOrder-issued : (tickets : List Ticket) (t : Ticket) (old new : LiveFutures) → WaitInOrder tickets old → old.waiting ≡ length tickets → IsIssued t old new → WaitInOrder (tickets ++ t ∷ []) new
WaitInOrder-issued tickets t old new wait many issued k u at = elim (front_or_last tickets t k u at) [
  | inl front ↦
      let below : k < length tickets = slice_get_within tickets k u front in
      let stood : Stands new u (Pending k) = Stands-issued t u (Pending k) old new issued ((wait k u front).0 (omega arith)) in
      (λ _. stood, λ beyond. (let more = ap (λ (f : LiveFutures). f.waiting) issued.rest in absurd (omega arith)))
  | inr last ↦
      let place : old.waiting ≡ k = many ∙ sym last.0 in
      let stood : Stands new u (Pending k) =
      (let P : Ticket → Type 0 = λ v. Stands new v (Pending k) in
      subst P (sym last.1) (let Q : ℕ → Type 0 = λ n. Stands new t (Pending n) in subst Q place issued.stands)) in
      (λ _. stood, λ beyond. (let more = ap (λ (f : LiveFutures). f.waiting) issued.rest in absurd (omega arith)))
]

pub waiting-issued : (tickets : List Ticket) (t : Ticket) (old new : LiveFutures) → old.waiting ≡ length tickets → IsIssued t old new → new.waiting ≡ length (tickets ++ t ∷ [])
waiting-issued tickets t old new many issued = (let more = ap (λ (f : LiveFutures). f.waiting) issued.rest in let longer = length-append tickets (t ∷ []) in omega arith)

same_place : (f : LiveFutures) (t u : Ticket) (i j : ℕ) → t.key ≡ u.key → Stands f t (Pending i) → Stands f u (Pending j) → i ≡ j
same_place f t u i j same s r =
    let places : Some i ≡ Some j = sym (ap place_of s.future) ∙ ap (λ (key : ℕ). place_of (under f.live key)) same ∙ ap place_of r.future in
    cc places

-- while all of them wait, each has a place of its own, and so a key of its own
pub AreApart-waiting : (tickets : List Ticket) (f : LiveFutures) → WaitInOrder tickets f → f.waiting ≡ length tickets → AreApart tickets
AreApart-waiting tickets f wait many i j t u at_i at_j same =
    let below_i : i < length tickets = slice_get_within tickets i t at_i in
    let below_j : j < length tickets = slice_get_within tickets j u at_j in
    same_place f t u i j same ((wait i t at_i).0 (omega arith)) ((wait j u at_j).0 (omega arith))

-- ticket k is live
pub live_while_waiting : (tickets : List Ticket) (f : LiveFutures) (k : ℕ) (t : Ticket) → WaitInOrder tickets f → slice_get tickets k ≡ Some t → IsLive f t
live_while_waiting tickets f k t wait at = elim (cases_lt k f.waiting) [ inl below ↦ (Pending k, (wait k t at).0 below) | inr beyond ↦ (Withdrawn, (wait k t at).1 beyond) ]

-- ticket j was evaluated first, while all waited: from any place on, the others keep their own answers
pub KeepInOrder-made : (tickets : List Ticket) (t : Ticket) (place from : ℕ) (outcome : Outcome) (ops : List Op) (old new : LiveFutures) (before after : List Group)
    → (m : IsMade t place outcome ops old new before after) → WaitInOrder tickets old → old.waiting ≡ length tickets → slice_get tickets place ≡ Some t → place < from
    → KeepInOrder from tickets m.evaluated.answers (made_by before old.caller) new
KeepInOrder-made tickets t place from outcome ops old new before after m wait many here behind k u at beyond =
    let below : k < length tickets = slice_get_within tickets k u at in
    let kept : Stands m.all u (Kept (get_or m.evaluated.answers k Done) (made_by before old.caller + k)) =
    Stands-evaluated ops old m.all before after u (Pending k) m.evaluated ((wait k u at).0 (omega arith)) in
    let apart : u.key ≢ t.key = (λ same. (let one = AreApart-waiting tickets old wait many k place u t at here same in omega arith)) in
    subst (λ (f : LiveFutures). Stands f u (Kept (get_or m.evaluated.answers k Done) (made_by before old.caller + k))) (sym m.rest) (Stands-spent m.all t u _ apart kept)

-- the next one is spent
pub KeepInOrder-spent : (j : ℕ) (tickets : List Ticket) (answers : List Answer) (first : ℕ) (f : LiveFutures) (t : Ticket) → AreApart tickets → slice_get tickets j ≡ Some t
    → KeepInOrder j tickets answers first f → KeepInOrder (j + 1) tickets answers first (spent t.key f)
KeepInOrder-spent j tickets answers first f t apart here keep k u at beyond =
    Stands-spent f t u _ (λ same. (let one = apart k j u t at here same in omega arith)) (keep k u at (omega arith))

pub AreWithdrawn-spent : (j : ℕ) (tickets : List Ticket) (f : LiveFutures) (t : Ticket) → AreApart tickets → slice_get tickets j ≡ Some t → AreWithdrawn j tickets f → AreWithdrawn (j + 1) tickets (spent t.key f)
AreWithdrawn-spent j tickets f t apart here gone k u at beyond = Stands-spent f t u Withdrawn (λ same. (let one = apart k j u t at here same in omega arith)) (gone k u at (omega arith))

-- the last operation is withdrawn
pub WaitInOrder-withdrawn : (tickets : List Ticket) (f : LiveFutures) → 0 < f.waiting → WaitInOrder tickets f → WaitInOrder tickets (last_withdrawn f)
WaitInOrder-withdrawn tickets f some wait k t at = (
  λ below. Stands-withdrawn f t (Pending k) (Pending k) ((wait k t at).0 (omega arith))
      (ap (λ (b : Bool). cond b Withdrawn (Pending k)) (ne_eqb k (f.waiting - 1) (λ e. omega arith))),
  λ beyond. elim (cases_lt k f.waiting) [
    | inl last ↦ Stands-withdrawn f t (Pending k) Withdrawn ((wait k t at).0 last)
        (ap (λ (b : Bool). cond b Withdrawn (Pending k)) (eq-eqb k (f.waiting - 1) (omega arith)))
    | inr gone ↦ Stands-withdrawn f t Withdrawn Withdrawn ((wait k t at).1 gone) refl
  ],
)

-- at last all are
pub AreWithdrawn-all : (tickets : List Ticket) (f : LiveFutures) → WaitInOrder tickets f → f.waiting ≡ 0 → AreWithdrawn 0 tickets f
AreWithdrawn-all tickets f wait none k t at beyond = (wait k t at).1 (omega arith)
