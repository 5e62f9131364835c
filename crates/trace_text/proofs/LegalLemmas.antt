-- The first wrong entry is where a history first is illegal.
use Rattle.std.proofs.Common.{◌≡◌, ◌≢◌, ℕ, suc, ◌<◌, true, false, cond, ◌&&◌, List, [], ◌∷◌, ◌++◌, length, map, flat_map, Option, None, Some, refl, sym, ap, subst, ◌∙◌, arith, All, nat_eq, nat_lt, ltb-true, eqb-true, append-nil, append_assoc}
use Rattle.std.specs.Cmp.Lexicographic.{pointwise}
use Rattle.std.proofs.lemmas.Bool.{and_parts, lt-ltb, eq-eqb}
use Rattle.std.proofs.lemmas.Grind.{flat_map-append}
use Rattle.std.proofs.lemmas.List.{map-append, length-map, append_cancel_left}
use Rattle.std.proofs.lemmas.List.Elements.{All-nil, All-head, All-tail}
use Rattle.bq_model.specs.declared.op.Op.{Op}
use Rattle.bq_model.specs.declared.op.Answer.{Answer}
use Rattle.bq_model.specs.declared.op.Answer.TheVariants.{Done, Got, Empty, Refused}
use Rattle.bq_model.specs.declared.group.Group.{Group}
use Rattle.bq_model.specs.Queue.{Queue, unshut, queue_after}
use Rattle.bq_model.specs.Replay.{answers_from, queue_from}
use Rattle.bq_model.specs.History.{operations, answers_of, last_queue}
use Rattle.bq_model.specs.NoShut.{ShutAlone}
use Rattle.bq_model.specs.Own.{mine}
use Rattle.bq_model.specs.Proper.{IsProper}
use Rattle.bq_model.proofs.Histories.{answers_of-push, answers_from-append}
use Rattle.trace_text.specs.declared.claim.Claim.{Claim}
use Rattle.trace_text.specs.declared.claim.Entry.{Entry}
use Rattle.trace_text.specs.Claims.{group_of, claimed}
use Rattle.trace_text.specs.declared.verdict.Verdict.TheVariants.{Legal, Illegal}
use Rattle.trace_text.specs.HistoryText.{operation_count}
use Rattle.trace_text.specs.Verdicts.{same_answer, groups_of, is_right, first_wrong, verdict_with}
use Rattle.trace_text.specs.Legal.{IsLegal, IsFirstIllegal}
use Rattle.trace_text.proofs.HistoryLemmas.{IsProper-push, All-at, numbered-at}

-- ---- equal answers

same_answer-itself : (a : Answer) → same_answer a a ≡ true
same_answer-itself Done = refl
same_answer-itself Empty = refl
same_answer-itself Refused = refl
same_answer-itself (Got v) = eq-eqb v v refl

same_answer-true : (a b : Answer) → same_answer a b ≡ true → a ≡ b
same_answer-true Done Done e = refl
same_answer-true Done Empty e = cc e
same_answer-true Done (Got w) e = cc e
same_answer-true Done Refused e = cc e
same_answer-true Empty Done e = cc e
same_answer-true Empty Empty e = refl
same_answer-true Empty (Got w) e = cc e
same_answer-true Empty Refused e = cc e
same_answer-true (Got v) Done e = cc e
same_answer-true (Got v) Empty e = cc e
same_answer-true (Got v) Refused e = cc e
same_answer-true Refused Done e = cc e
same_answer-true Refused Empty e = cc e
same_answer-true Refused (Got w) e = cc e
same_answer-true Refused Refused e = refl
same_answer-true (Got v) (Got w) e = ap Got (eqb-true v w e)

same_answers-itself : (xs : List Answer) → pointwise same_answer xs xs ≡ true
same_answers-itself [] = refl
same_answers-itself (x ∷ xs) = let here = same_answer-itself x in rw here (same_answers-itself xs)

same_answers-true : (xs ys : List Answer) → pointwise same_answer xs ys ≡ true → xs ≡ ys
same_answers-true [] [] e = refl
same_answers-true [] (y ∷ ys) e = cc e
same_answers-true (x ∷ xs) [] e = cc e
same_answers-true (x ∷ xs) (y ∷ ys) e =
    let parts = and_parts (same_answer x y) (pointwise same_answer xs ys) e in
    let first : x ≡ y = same_answer-true x y parts.0 in
    let rest : xs ≡ ys = same_answers-true xs ys parts.1 in
    cc

-- ---- an entry behind others

record IsRight (callers : ℕ) (before : List Entry) (entry : Entry) : Type 0 where
  known : entry.caller < callers
  numbered : entry.batch ≡ length (mine (groups_of before) entry.caller)
  answered : claimed entry ≡ answers_from (last_queue (groups_of before)) (group_of entry).ops

IsRight-true : (callers : ℕ) (before : List Entry) (entry : Entry) → is_right callers before entry ≡ true → IsRight callers before entry
IsRight-true callers before entry e =
    let is_known = nat_lt entry.caller callers in
    let is_numbered = nat_eq entry.batch (length (mine (groups_of before) entry.caller)) in
    let is_answered = pointwise same_answer (claimed entry) (answers_from (last_queue (groups_of before)) (group_of entry).ops) in
    let outer = and_parts (is_known && is_numbered) is_answered e in
    let inner = and_parts is_known is_numbered outer.0 in
    record {
      known = ltb-true entry.caller callers inner.0;
      numbered = eqb-true entry.batch (length (mine (groups_of before) entry.caller)) inner.1;
      answered = same_answers-true (claimed entry) (answers_from (last_queue (groups_of before)) (group_of entry).ops) outer.1;
    }

true_from_IsRight : (callers : ℕ) (before : List Entry) (entry : Entry) → IsRight callers before entry → is_right callers before entry ≡ true
true_from_IsRight callers before entry r =
    let known = lt-ltb entry.caller callers r.known in
    let numbered = eq-eqb entry.batch (length (mine (groups_of before) entry.caller)) r.numbered in
    let answers = r.answered in
    let same = same_answers-itself (answers_from (last_queue (groups_of before)) (group_of entry).ops) in
    rw (known, numbered, answers) same

-- ---- legal histories

groups_of-append : (before more : List Entry) → groups_of (before ++ more) ≡ groups_of before ++ groups_of more
groups_of-append before more = map-append group_of before more

IsLegal-nil : (callers : ℕ) → IsLegal callers []
IsLegal-nil callers = record {
  proper = record { known = All-nil (λ (g : Group). g.caller < callers); filled = All-nil (λ (g : Group). g.ops ≢ []); shuts = All-nil (λ (g : Group). ShutAlone g.ops); numbered = λ _. refl };
  answered = refl;
}

-- an entry has an operation, and a Shut alone
abbrev pub IsFilled : Entry → Type 0
IsFilled entry = (entry.claims ≢ []) × ShutAlone (group_of entry).ops

filled_ops : (claims : List Claim) → claims ≢ [] → map (λ (c : Claim). c.op) claims ≢ []
filled_ops [] some none = some refl
filled_ops (claim ∷ claims) some none = cc none

IsLegal-push : (callers : ℕ) (before : List Entry) (entry : Entry) → IsLegal callers before → IsFilled entry → IsRight callers before entry → IsLegal callers (before ++ entry ∷ [])
IsLegal-push callers before entry legal filled right =
    let groups = groups_of-append before (entry ∷ []) in
    let P : List Group → Type 0 = IsProper callers in
    let answers = flat_map-append claimed before (entry ∷ []) ∙ ap (λ (answers : List Answer). flat_map claimed before ++ answers) (append-nil (claimed entry)) in
    record {
      proper = subst P (sym groups) (IsProper-push callers (groups_of before) (group_of entry) right.known (filled_ops entry.claims filled.0) filled.1 right.numbered legal.proper);
      answered = answers ∙ ((λ i. legal.answered i ++ right.answered i) ∙ (sym (answers_of-push (groups_of before) (group_of entry)) ∙ ap answers_of (sym groups)));
    }

-- fronts that are as long are the same
same_front : {X : Type 0} (xs ys us vs : List X) → length xs ≡ length ys → xs ++ us ≡ ys ++ vs → xs ≡ ys
same_front [] [] us vs as_long e = refl
same_front [] (y ∷ ys) us vs as_long e = absurd (omega arith)
same_front (x ∷ xs) [] us vs as_long e = absurd (omega arith)
same_front (x ∷ xs) (y ∷ ys) us vs as_long e =
    let first : x ≡ y = cc e in
    let rest : xs ++ us ≡ ys ++ vs = cc e in
    let shorter : length xs ≡ length ys = omega arith in
    let inner = same_front xs ys us vs shorter rest in
    cc

length-answers_from : (q : Queue) (ops : List Op) → length (answers_from q ops) ≡ length ops
length-answers_from q [] = refl
length-answers_from q (op ∷ ops) = ap suc (length-answers_from (queue_after q op) ops)

-- an entry of a legal history is right behind those before it
IsRight-in : (callers : ℕ) (before behind : List Entry) (entry : Entry) → IsLegal callers before → IsLegal callers (before ++ entry ∷ behind) → IsRight callers before entry
IsRight-in callers before behind entry start whole =
    let group = group_of entry in
    let earlier = groups_of before in
    let later = groups_of behind in
    let ops_of : Group → List Op = λ g. g.ops in
    let P : List Group → Type 0 = IsProper callers in
    let proper = subst P (groups_of-append before (entry ∷ behind)) whole.proper in
    let q = last_queue earlier in
    let rest = operations later in
    let claims_are : flat_map claimed (before ++ entry ∷ behind) ≡ answers_of earlier ++ (claimed entry ++ flat_map claimed behind) =
    flat_map-append claimed before (entry ∷ behind) ∙ ap (λ (answers : List Answer). answers ++ (claimed entry ++ flat_map claimed behind)) start.answered in
    let answers_are : answers_of (groups_of (before ++ entry ∷ behind)) ≡ answers_of earlier ++ (answers_from q group.ops ++ answers_from (queue_from q group.ops) rest) =
    ap answers_of (groups_of-append before (entry ∷ behind))
    ∙ (ap (answers_from (unshut [])) (flat_map-append ops_of earlier (group ∷ later))
    ∙ (answers_from-append (unshut []) (operations earlier) (group.ops ++ rest) ∙ ap (λ (answers : List Answer). answers_of earlier ++ answers) (answers_from-append q group.ops rest))) in
    let behind_both = append_cancel_left (answers_of earlier) (claimed entry ++ flat_map claimed behind) (answers_from q group.ops ++ answers_from (queue_from q group.ops) rest) (sym claims_are ∙ (whole.answered ∙ answers_are)) in
    let as_long : length (claimed entry) ≡ length (answers_from q group.ops) =
    length-map entry.claims (λ (c : Claim). c.answer) ∙ sym (length-answers_from q group.ops ∙ length-map entry.claims (λ (c : Claim). c.op)) in
    record {
      known = All-at (λ (g : Group). g.caller < callers) earlier later group proper.known;
      numbered = numbered-at callers earlier later group proper;
      answered = same_front (claimed entry) (answers_from q group.ops) (flat_map claimed behind) (answers_from (queue_from q group.ops) rest) as_long behind_both;
    }

-- ---- one entry after another

legal_if_none : (callers : ℕ) (before entries : List Entry) → IsLegal callers before → All IsFilled entries → first_wrong callers before entries ≡ None → IsLegal callers (before ++ entries)
legal_if_none callers before [] start filled none = let P : List Entry → Type 0 = IsLegal callers in subst P (sym (append-nil before)) start
legal_if_none callers before (entry ∷ entries) start filled none =
    elim (is_right callers before entry) as (λ b. is_right callers before entry ≡ b → cond b (first_wrong callers (before ++ entry ∷ []) entries) (Some entry.line) ≡ None → IsLegal callers (before ++ entry ∷ entries)) [
      | true ↦ λ right later.
          let P : List Entry → Type 0 = IsLegal callers in
          let longer = IsLegal-push callers before entry start (All-head IsFilled entry entries filled) (IsRight-true callers before entry right) in
          subst P (append_assoc before (entry ∷ []) entries) (legal_if_none callers (before ++ entry ∷ []) entries longer (All-tail IsFilled entry entries filled) later)
      | false ↦ λ wrong later. cc later
    ] refl none

none_if_legal : (callers : ℕ) (before entries : List Entry) → IsLegal callers before → IsLegal callers (before ++ entries) → first_wrong callers before entries ≡ None
none_if_legal callers before [] start legal = refl
none_if_legal callers before (entry ∷ entries) start legal =
    let right = IsRight-in callers before entries entry start legal in
    let here = true_from_IsRight callers before entry right in
    let P : List Entry → Type 0 = IsLegal callers in
    let Q : List Group → Type 0 = IsProper callers in
    let proper = subst Q (groups_of-append before (entry ∷ entries)) legal.proper in
    let some = All-at (λ (g : Group). g.ops ≢ []) (groups_of before) (groups_of entries) (group_of entry) proper.filled in
    let alone = All-at (λ (g : Group). ShutAlone g.ops) (groups_of before) (groups_of entries) (group_of entry) proper.shuts in
    let filled : IsFilled entry = ((λ none. some (ap (map (λ (c : Claim). c.op)) none)), alone) in
    rw here (none_if_legal callers (before ++ entry ∷ []) entries (IsLegal-push callers before entry start filled right) (subst P (sym (append_assoc before (entry ∷ []) entries)) legal))

illegal_if_some : (callers : ℕ) (before entries : List Entry) (line : ℕ) → IsLegal callers before → All IsFilled entries → first_wrong callers before entries ≡ Some line → IsFirstIllegal callers (before ++ entries) line
illegal_if_some callers before [] line start filled some = cc some
illegal_if_some callers before (entry ∷ entries) line start filled some =
    elim (is_right callers before entry) as (λ b. is_right callers before entry ≡ b → cond b (first_wrong callers (before ++ entry ∷ []) entries) (Some entry.line) ≡ Some line → IsFirstIllegal callers (before ++ entry ∷ entries) line) [
      | true ↦ λ right later.
          let P : List Entry → Type 0 = λ es. IsFirstIllegal callers es line in
          let longer = IsLegal-push callers before entry start (All-head IsFilled entry entries filled) (IsRight-true callers before entry right) in
          subst P (append_assoc before (entry ∷ []) entries) (illegal_if_some callers (before ++ entry ∷ []) entries line longer (All-tail IsFilled entry entries filled) later)
      | false ↦ λ wrong here. record {
        before = before;
        entry = entry;
        behind = entries;
        entries_are = refl;
        line_is = cc here;
        legal_before = start;
        illegal_here = λ legal. (let right = true_from_IsRight callers before entry (IsRight-in callers before [] entry start legal) in cc);
      }
    ] refl some

-- ---- the whole history

pub legal_from_none : (callers : ℕ) (entries : List Entry) → All IsFilled entries → first_wrong callers [] entries ≡ None → IsLegal callers entries
legal_from_none callers entries filled none = legal_if_none callers [] entries (IsLegal-nil callers) filled none

pub none_from_legal : (callers : ℕ) (entries : List Entry) → IsLegal callers entries → first_wrong callers [] entries ≡ None
none_from_legal callers entries legal = none_if_legal callers [] entries (IsLegal-nil callers) legal

pub illegal_from_some : (callers : ℕ) (entries : List Entry) (line : ℕ) → All IsFilled entries → first_wrong callers [] entries ≡ Some line → IsFirstIllegal callers entries line
illegal_from_some callers entries line filled some = illegal_if_some callers [] entries line (IsLegal-nil callers) filled some

pub none_from_verdict : (entries : List Entry) (wrong : Option ℕ) → verdict_with entries wrong ≡ Legal (length entries) (operation_count entries) → wrong ≡ None
none_from_verdict entries None e = refl
none_from_verdict entries (Some line) e = cc e

pub some_from_verdict : (entries : List Entry) (wrong : Option ℕ) (line : ℕ) → verdict_with entries wrong ≡ Illegal line → wrong ≡ Some line
some_from_verdict entries None line e = cc e
some_from_verdict entries (Some found) line e = let same : found ≡ line = cc e in ap Some same
