-- What the lines of a history keep, and texts that are too long.
use Rattle.std.proofs.Common.{◌≡◌, ◌≢◌, ℕ, ◌+◌, ◌==◌, Bool, true, cond, if◌then◌else◌, map, List, [], ◌∷◌, ◌++◌, length, take, Option, None, Some, Result, Ok, Err, refl, sym, ap, subst, ◌∙◌, arith, ⊎_elim, All, nat_le, leb-true, false, codes}
use Rattle.std.specs.Str.{bytes_eq}
use Rattle.std.specs.List.{list_all}
use Rattle.std.specs.Option.{option_map, option_and_then}
use Rattle.std.proofs.lemmas.Bool.{cases_lt, false_from_ne_true}
use Rattle.std.proofs.lemmas.Option.{option_and_then_some, same_Some, none-some}
use Rattle.std.proofs.lemmas.List.{take_all}
use Rattle.std.proofs.lemmas.List.Elements.{All-nil, All-push}
use Rattle.bq_model.specs.declared.op.Op.{Op}
use Rattle.bq_model.specs.declared.op.Op.TheVariants.{Enq, Deq, Shut}
use Rattle.bq_model.specs.declared.op.Answer.TheVariants.{Done, Got, Empty, Refused}
use Rattle.bq_model.specs.NoShut.{NoShut, ShutAlone}
use Rattle.bq_model.proofs.NoShuts.{NoShut-append}
use Rattle.bq_model.specs.declared.fault.TextCause.{TextCause}
use Rattle.bq_model.specs.declared.fault.TextFault.{TextFault}
use Rattle.text_lines.specs.Lines.{lines_of}
use Rattle.text_lines.specs.Number.{number_of}
use Rattle.bq_model.specs.declared.fault.TextCause.TheVariants.{TooLong}
use Rattle.text_lines.specs.Reading.{most_bytes, fault, text_state}
use Rattle.text_lines.proofs.ReadingLemmas.{text_state-keeps, text_state-take, if_ok}
use Rattle.trace_text.specs.declared.claim.Claim.{Claim}
use Rattle.trace_text.specs.declared.claim.Entry.{Entry}
use Rattle.text_lines.specs.Each.{each_of}
use Rattle.text_lines.specs.Parts.{or_bad_number, ◌>>=◌}
use Rattle.trace_text.specs.Claims.{claim, enqueue_of, refusal_of, dequeue_of, has_letter, claim_of, op_claims_of, shut_before, claims_of, entry_of}
use Rattle.trace_text.specs.HistoryText.{History, LinesSay, operation_count, most_operations, callers_in, entry_in, add_entry, group_line, line_in, meaning, nothing_yet, version_word, is_second, said_in, said_of, history_at_end, hist_of}
use Rattle.trace_text.specs.ScheduleText.{play_meaning, machine_at_end, play_of}
use Rattle.trace_text.proofs.LegalLemmas.{IsFilled}

-- ---- cases

behind_ok : {A B E P : Type 0} (first : Result A E) (next : A → Result B E) (value : B) → (first >>= next) ≡ Ok value → ((found : A) → first ≡ Ok found → next found ≡ Ok value → P) → P
behind_ok (Ok found) next value is found_is = found_is found refl is
behind_ok (Err error) next value is found_is = cc is

found_ok : {A P : Type 0} (found : Option A) (value : A) → or_bad_number found ≡ Ok value → (found ≡ Some value → P) → P
found_ok None value is found_is = cc is
found_ok (Some x) value is found_is = found_is (ap Some (let same : x ≡ value = cc is in same))

each_of-some : (words : List (List ℕ)) (word : List ℕ) (claims : List Claim) → each_of claim_of (word ∷ words) ≡ Some claims → claims ≢ []
each_of-some words word claims found none =
    option_and_then_some (λ y. option_map (λ ys. y ∷ ys) (each_of claim_of words)) (claim_of word) claims found (λ y _ rest.
    elim (each_of claim_of words) as (λ o. option_map (λ (ys : List Claim). y ∷ ys) o ≡ Some claims → ⊥) [
      | None ↦ λ e. none-some _ e
      | Some ys ↦ λ e. (let same : y ∷ ys ≡ claims = same_Some _ _ e in cc)
    ] rest)

-- ---- the operations that words claim are no Shut

mapped : (f : ℕ → Claim) → ((v : ℕ) → NoShut ((f v).op ∷ [])) → (o : Option ℕ) (c : Claim) → option_map f o ≡ Some c → NoShut (c.op ∷ [])
mapped f plain None c e = absurd (none-some _ e)
mapped f plain (Some v) c e = subst (λ (x : Claim). NoShut (x.op ∷ [])) (same_Some _ _ e) (plain v)

either : (b : Bool) (x y : Option Claim) (c : Claim) → (x ≡ Some c → NoShut (c.op ∷ [])) → (y ≡ Some c → NoShut (c.op ∷ [])) → cond b x y ≡ Some c → NoShut (c.op ∷ [])
either true x y c f g e = f e
either false x y c f g e = g e

claim_of-plain : (word : List ℕ) (c : Claim) → claim_of word ≡ Some c → NoShut (c.op ∷ [])
claim_of-plain [] c e = absurd (none-some _ e)
claim_of-plain (letter ∷ rest) c e =
    either (letter == 101) (enqueue_of rest) (if letter == 120 then refusal_of rest else dequeue_of rest) c (mapped (λ v. claim (Enq v) Done) (λ v. tt) (number_of rest) c)
    (either (letter == 120) (refusal_of rest) (dequeue_of rest) c (mapped (λ v. claim (Enq v) Refused) (λ v. tt) (number_of rest) c)
    (either (bytes_eq rest (codes "-")) (Some (claim Deq Empty)) (option_map (λ v. claim Deq (Got v)) (number_of rest)) c
    (λ is. subst (λ (x : Claim). NoShut (x.op ∷ [])) (same_Some _ _ is) tt) (mapped (λ v. claim Deq (Got v)) (λ v. tt) (number_of rest) c))) e

abbrev ops_in : List Claim → List Op
ops_in claims = map (λ c. c.op) claims

each_of-plain : (words : List (List ℕ)) (claims : List Claim) → each_of claim_of words ≡ Some claims → NoShut (ops_in claims)
each_of-plain [] claims found = subst (λ (cs : List Claim). NoShut (ops_in cs)) (same_Some _ _ found) tt
each_of-plain (word ∷ words) claims found =
    option_and_then_some (λ y. option_map (λ ys. y ∷ ys) (each_of claim_of words)) (claim_of word) claims found (λ y y_is rest.
    elim (each_of claim_of words) as (λ o. each_of claim_of words ≡ o → option_map (λ (ys : List Claim). y ∷ ys) o ≡ Some claims → NoShut (ops_in claims)) [
      | None ↦ λ _ e. absurd (none-some _ e)
      | Some ys ↦ λ is e. subst (λ (cs : List Claim). NoShut (ops_in cs)) (same_Some _ _ e) (NoShut-append (y.op ∷ []) (ops_in ys) (claim_of-plain word y y_is) (each_of-plain words ys is))
    ] refl rest)

-- ---- each entry has a claim, and a Shut alone

abbrev AreFilled : List Claim → Type 0
AreFilled claims = (claims ≢ []) × ShutAlone (ops_in claims)

op_claims_of-filled : (second : Bool) (words : List (List ℕ)) (claims : List Claim) → op_claims_of second words ≡ Ok claims → AreFilled claims
op_claims_of-filled second [] claims is = cc is
op_claims_of-filled second (word ∷ words) claims is =
    if_ok (list_all (has_letter second) (word ∷ words)) _ _ claims is
    (λ _ e. found_ok (each_of claim_of (word ∷ words)) claims e (λ some. (each_of-some words word claims some, λ _. each_of-plain (word ∷ words) claims some))) (λ _ e. cc e)

shut_before-filled : (words : List (List ℕ)) (claims : List Claim) → shut_before words ≡ Ok claims → AreFilled claims
shut_before-filled [] claims is =
    let same : claim Shut Done ∷ [] ≡ claims = cc is in
    subst AreFilled same ((λ none. cc none), (λ more. absurd (omega (arith, more))))
shut_before-filled (word ∷ words) claims is = cc is

claims_of-filled : (second : Bool) (words : List (List ℕ)) (claims : List Claim) → claims_of second words ≡ Ok claims → AreFilled claims
claims_of-filled false words claims is = op_claims_of-filled false words claims is
claims_of-filled true [] claims is = cc is
claims_of-filled true (word ∷ words) claims is =
    if_ok (bytes_eq word (codes "s")) _ _ claims is (λ _ e. shut_before-filled words claims e) (λ _ e. op_claims_of-filled true (word ∷ words) claims e)

entry_of-claims : (line : ℕ) (caller batch : List ℕ) (claims : List Claim) (entry : Entry) → entry_of line caller batch claims ≡ Some entry → entry.claims ≡ claims
entry_of-claims line caller batch claims entry is =
    option_and_then_some (λ by. option_and_then (λ number. Some (record { line = line; caller = by; batch = number; claims = claims })) (number_of batch)) (number_of caller) entry is (λ by _ rest.
    option_and_then_some (λ number. Some (record { line = line; caller = by; batch = number; claims = claims })) (number_of batch) entry rest (λ number _ here.
    ap (λ (e : Entry). e.claims) (sym (same_Some _ _ here))))

entry_in-filled : (second : Bool) (line : ℕ) (words : List (List ℕ)) (entry : Entry) → entry_in second line words ≡ Ok entry → IsFilled entry
entry_in-filled second line [] entry is = cc is
entry_in-filled second line (caller ∷ []) entry is = cc is
entry_in-filled second line (caller ∷ batch ∷ words) entry is =
    behind_ok (claims_of second words) (λ claims. or_bad_number (entry_of line caller batch claims)) entry is (λ claims claims_are here.
    found_ok (entry_of line caller batch claims) entry here (λ found.
    subst AreFilled (sym (entry_of-claims line caller batch claims entry found)) (claims_of-filled second words claims claims_are)))

group_line-keeps : (second : Bool) (line : ℕ) (callers : Option ℕ) (entries : List Entry) (next : LinesSay) (words : List (List ℕ)) → All IsFilled entries → group_line second line callers entries words ≡ Ok next → All IsFilled next.entries
group_line-keeps second line callers entries next [] filled is = cc is
group_line-keeps second line callers entries next (word ∷ words) filled is =
    if_ok (bytes_eq word (codes "group")) _ _ next is
    (λ _ e. behind_ok (entry_in second line words) (add_entry second callers entries) next e (λ entry entry_is added.
    if_ok (nat_le (operation_count entries + length entry.claims) most_operations) _ _ next added
    (λ _ done. (let same : record { second = second; callers = callers; entries = entries ++ entry ∷ [] } ≡ next = cc done in
    let P : LinesSay → Type 0 = λ s. All IsFilled s.entries in
    subst P same (All-push IsFilled entries entry filled (entry_in-filled second line words entry entry_is))))
    (λ _ fails. cc fails)))
    (λ _ e. cc e)

line_in-keeps : (second : Bool) (callers : Option ℕ) (line : ℕ) (entries : List Entry) (next : LinesSay) (words : List (List ℕ)) → All IsFilled entries → line_in second callers line entries words ≡ Ok next → All IsFilled next.entries
line_in-keeps second None line entries next words filled is =
    behind_ok (callers_in words) (λ callers. Ok (record { second = second; callers = Some callers; entries = entries })) next is (λ callers _ here.
    (let same : record { second = second; callers = Some callers; entries = entries } ≡ next = cc here in
    let P : LinesSay → Type 0 = λ s. All IsFilled s.entries in
    subst P same filled))
line_in-keeps second (Some callers) line entries next words filled is = group_line-keeps second line (Some callers) entries next words filled is

pub filled_in : (text : List ℕ) (history : History) → hist_of text ≡ Ok history → All IsFilled history.entries
filled_in text history is =
    behind_ok (said_of text) (λ say. history_at_end (length (lines_of text) + 1) say.callers say.entries) history is (λ say say_is here.
    at_end say.callers say.entries here
    (text_state-keeps (λ (s : LinesSay). All IsFilled s.entries) (codes "bqhist") (version_word (is_second text)) meaning (λ number state next words _ kept said. line_in-keeps state.second state.callers number state.entries next words kept said)
    (nothing_yet (is_second text)) say text (All-nil IsFilled) say_is))
  where
    at_end : (callers : Option ℕ) (entries : List Entry) → history_at_end (length (lines_of text) + 1) callers entries ≡ Ok history → All IsFilled entries → All IsFilled history.entries
    at_end None entries e filled = cc e
    at_end (Some callers) entries e filled =
        let same : record { callers = callers; entries = entries } ≡ history = cc e in
        let P : History → Type 0 = λ h. All IsFilled h.entries in
        subst P same filled

-- ---- a text that is too long

-- what follows from a text and from the number of its lines, and is the fault where there is one
module _ {S T : Type 0} (name version : List ℕ) (says : ℕ → S → List (List ℕ) → Result S TextCause) (start : S) (ended : ℕ → Result S TextFault → Result T TextFault) (fails : (line : ℕ) (found : TextFault) → ended line (Err found) ≡ Err found) where
  -- a text means what its first bytes do, one more than a text may have
  ended-take : (text : List ℕ)
      → ended (length (lines_of (take (most_bytes + 1) text)) + 1) (text_state name version says start (take (most_bytes + 1) text)) ≡ ended (length (lines_of text) + 1) (text_state name version says start text)
  ended-take text =
      ⊎_elim
      (λ long.
      let too_long : nat_le (length text) most_bytes ≡ false = false_from_ne_true _ (λ within. absurd (omega (arith, leb-true (length text) most_bytes within))) in
      let refused : text_state name version says start text ≡ Err (fault 0 TooLong) = rw too_long refl in
      let one = length (lines_of (take (most_bytes + 1) text)) + 1 in
      let other = length (lines_of text) + 1 in
      ap (ended one) (text_state-take name version says start text ∙ refused) ∙ (fails one (fault 0 TooLong) ∙ (sym (fails other (fault 0 TooLong)) ∙ ap (ended other) (sym refused))))
      (λ short. ap (λ t. ended (length (lines_of t) + 1) (text_state name version says start t)) (take_all (most_bytes + 1) text (omega arith)))
      (cases_lt most_bytes (length text))

pub hist_of-take : (text : List ℕ) → hist_of (take (most_bytes + 1) text) ≡ hist_of text
hist_of-take text =
    let cut = take (most_bytes + 1) text in
    ⊎_elim
    (λ long.
    let too_long : nat_le (length text) most_bytes ≡ false = false_from_ne_true _ (λ within. absurd (omega (arith, leb-true (length text) most_bytes within))) in
    let refused : (second : Bool) → said_in second text ≡ Err (fault 0 TooLong) = λ second. rw too_long refl in
    let ended : ℕ → Result LinesSay TextFault → Result History TextFault = λ line said. said >>= (λ say. history_at_end line say.callers say.entries) in
    ap (ended (length (lines_of cut) + 1)) (text_state-take (codes "bqhist") (version_word (is_second cut)) meaning (nothing_yet (is_second cut)) text ∙ refused (is_second cut))
    ∙ sym (ap (ended (length (lines_of text) + 1)) (refused (is_second text))))
    (λ short. ap hist_of (take_all (most_bytes + 1) text (omega arith)))
    (cases_lt most_bytes (length text))

pub play_of-take : (text : List ℕ) → play_of (take (most_bytes + 1) text) ≡ play_of text
play_of-take text = ended-take (codes "bqplay") (codes "1") play_meaning None (λ line said. said >>= machine_at_end line) (λ line found. refl) text
