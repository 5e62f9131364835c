-- A text's first fault, and its lines one after another.
use Rattle.std.proofs.Common.{◌≡◌, ◌≢◌, ℕ, ◌+◌, ◌<◌, ◌≤◌, true, false, Bool, List, [], ◌∷◌, ◌++◌, length, Result, Ok, Err, refl, sym, ap, subst, ◌∙◌, arith, ⊎_elim, add-zero, le-leb, leb-true, take, All, if◌then◌else◌, ◌==◌, nat_le}
use Rattle.std.specs.List.{slice_split, onto_first}
use Rattle.std.proofs.lemmas.Bool.{cases_Bool, cases_lt, false_from_ne_true}
use Rattle.std.proofs.lemmas.List.{length-take, take_all}
use Rattle.std.proofs.lemmas.List.Sums.{count_by-le-length}
use Rattle.std.proofs.lemmas.List.Splits.{slice_split-cons_yes, slice_split-cons_no, length-slice_split}
use Rattle.bq_model.specs.declared.fault.TextCause.{TextCause}
use Rattle.bq_model.specs.declared.fault.TextFault.{TextFault}
use Rattle.memchr.specs.Find.{is_byte}
use Rattle.text_lines.specs.Lines.{lines_of, is_text, without_empty_end}
use Rattle.text_lines.specs.Words.{words_of, IsWord, is_header, is_passed_over}
use Rattle.text_lines.proofs.IsWordLemmas.{IsWord-words_of}
use Rattle.text_lines.specs.Reading.{read_lines, behind_line, fault, words_line, text_line, whole_text, text_state, most_bytes, IsFirstFault}

module _ {S : Type 0} (take_line : ℕ → S → List ℕ → Result S TextCause) where
  -- a fault is found at a line that isn't taken, behind lines that are
  pub IsFirstFault-from_read_lines : (number : ℕ) (state : S) (lines : List (List ℕ)) (found : TextFault) → read_lines take_line number state lines ≡ Err found → IsFirstFault take_line number state lines found
  IsFirstFault-from_read_lines number state [] found fails = cc fails
  IsFirstFault-from_read_lines number state (line ∷ lines) found fails =
      elim (take_line number state line) as (λ r. take_line number state line ≡ r → behind_line number r (λ next. read_lines take_line (number + 1) next lines) ≡ Err found → IsFirstFault take_line number state (line ∷ lines) found) [
        | Ok next ↦ λ takes later.
            let rest = IsFirstFault-from_read_lines (number + 1) next lines found later in
            let at = rest.number_is in
            record {
              before = line ∷ rest.before;
              line = rest.line;
              behind = rest.behind;
              reached = rest.reached;
              lines_are = ap (λ (ls : List (List ℕ)). line ∷ ls) rest.lines_are;
              number_is = omega arith;
              taken = rw takes rest.taken;
              refused = rest.refused;
            }
        | Err cause ↦ λ takes here.
            let same : fault number cause ≡ found = cc here in
            let number_same : number ≡ found.line = ap (λ (f : TextFault). f.line) same in
            record {
              before = [];
              line = line;
              behind = lines;
              reached = state;
              lines_are = refl;
              number_is = omega arith;
              taken = refl;
              refused = subst (λ n. take_line n state line ≡ Err found.cause) number_same (takes ∙ ap (λ (f : TextFault). Err f.cause) same);
            }
      ] refl fails

  -- lines that are taken, and those behind them
  read_lines-append : (number : ℕ) (state reached : S) (before behind : List (List ℕ)) → read_lines take_line number state before ≡ Ok reached
      → read_lines take_line number state (before ++ behind) ≡ read_lines take_line (number + length before) reached behind
  read_lines-append number state reached [] behind taken =
      let same : state ≡ reached = cc taken in
      ap (λ (s : S). read_lines take_line number s behind) same ∙ ap (λ n. read_lines take_line n reached behind) (sym (add-zero number))
  read_lines-append number state reached (line ∷ before) behind taken =
      elim (take_line number state line) as (λ r. behind_line number r (λ next. read_lines take_line (number + 1) next before) ≡ Ok reached
      → behind_line number r (λ next. read_lines take_line (number + 1) next (before ++ behind)) ≡ read_lines take_line (number + length (line ∷ before)) reached behind) [
        | Ok next ↦ λ later.
            let same : number + 1 + length before ≡ number + length (line ∷ before) = omega arith in
            read_lines-append (number + 1) next reached before behind later ∙ ap (λ n. read_lines take_line n reached behind) same
        | Err cause ↦ λ later. cc later
      ] taken

  -- such a line's fault is that of the lines
  pub read_lines-from_IsFirstFault : (number : ℕ) (state : S) (lines : List (List ℕ)) (found : TextFault) → IsFirstFault take_line number state lines found → read_lines take_line number state lines ≡ Err found
  read_lines-from_IsFirstFault number state lines found first =
      let line_at : take_line (number + length first.before) first.reached first.line ≡ Err found.cause =
      subst (λ n. take_line n first.reached first.line ≡ Err found.cause) first.number_is first.refused in
      let here : read_lines take_line (number + length first.before) first.reached (first.line ∷ first.behind) ≡ Err (fault (number + length first.before) found.cause) = rw line_at refl in
      ap (read_lines take_line number state) first.lines_are
      ∙ (read_lines-append number state first.reached first.before (first.line ∷ first.behind) first.taken
      ∙ (here ∙ ap (λ n. Err (fault n found.cause)) (sym first.number_is)))

  -- one line of those that are left
  pub read_lines-more : (number : ℕ) (state next : S) (line : List ℕ) (left rest : List (List ℕ)) (all : Result S TextFault) → left ≡ line ∷ rest → take_line number state line ≡ Ok next
      → read_lines take_line number state left ≡ all → read_lines take_line (number + 1) next rest ≡ all
  read_lines-more number state next line left rest all left_is takes before =
      let here : read_lines take_line number state (line ∷ rest) ≡ read_lines take_line (number + 1) next rest = rw takes refl in
      sym here ∙ (ap (read_lines take_line number state) (sym left_is) ∙ before)

  pub read_lines-fails : (number : ℕ) (state : S) (cause : TextCause) (line : List ℕ) (left rest : List (List ℕ)) (all : Result S TextFault) → left ≡ line ∷ rest → take_line number state line ≡ Err cause
      → read_lines take_line number state left ≡ all → all ≡ Err (fault number cause)
  read_lines-fails number state cause line left rest all left_is takes before =
      let here : read_lines take_line number state (line ∷ rest) ≡ Err (fault number cause) = rw takes refl in
      sym before ∙ (ap (read_lines take_line number state) left_is ∙ here)

-- ---- a text with a byte has a line

without_empty_end-some : (byte : ℕ) (line : List ℕ) (parts : List (List ℕ)) → without_empty_end ((byte ∷ line) ∷ parts) ≡ [] → ⊥
without_empty_end-some byte line [] none = cc none
without_empty_end-some byte line (next ∷ others) none = cc none

without_empty_end-onto_first : (byte : ℕ) (parts : List (List ℕ)) → without_empty_end (onto_first byte parts) ≡ [] → ⊥
without_empty_end-onto_first byte [] none = cc none
without_empty_end-onto_first byte (line ∷ parts) none = without_empty_end-some byte line parts none

without_empty_end-two : (parts : List (List ℕ)) → 0 < length parts → without_empty_end ([] ∷ parts) ≡ [] → ⊥
without_empty_end-two [] some none = omega arith
without_empty_end-two (next ∷ others) some none = cc none

lines_of-some : (text : List ℕ) → text ≢ [] → lines_of text ≡ [] → ⊥
lines_of-some [] some none = some refl
lines_of-some (byte ∷ text) some none =
    ⊎_elim
    (λ feed. without_empty_end-two (slice_split (is_byte 10) text) (omega (arith, length-slice_split (is_byte 10) text)) (sym (ap without_empty_end (slice_split-cons_yes (is_byte 10) byte text feed)) ∙ none))
    (λ other. without_empty_end-onto_first byte (slice_split (is_byte 10) text) (sym (ap without_empty_end (slice_split-cons_no (is_byte 10) byte text other)) ∙ none))
    (cases_Bool (is_byte 10 byte))

module _ {S : Type 0} (name version : List ℕ) (meaning : ℕ → S → List (List ℕ) → Result S TextCause) where
  whole_text-some : (state : S) (lines : List (List ℕ)) → (lines ≡ [] → ⊥) → whole_text name version meaning state lines ≡ read_lines (text_line name version meaning) 1 state lines
  whole_text-some state [] some = absurd (some refl)
  whole_text-some state (line ∷ lines) some = refl

  -- a text that is neither too long nor empty is its lines
  pub text_state-lines : (state : S) (text : List ℕ) → length text ≤ most_bytes → text ≢ []
      → text_state name version meaning state text ≡ read_lines (text_line name version meaning) 1 state (lines_of text)
  text_state-lines state text short some =
      let within : nat_le (length text) most_bytes ≡ true = le-leb (length text) most_bytes short in
      rw within (whole_text-some state (lines_of text) (lines_of-some text some))

-- ---- there are at most as many lines as bytes, and one

length-without_empty_end : (parts : List (List ℕ)) → length (without_empty_end parts) ≤ length parts
length-without_empty_end [] = omega arith
length-without_empty_end ([] ∷ []) = omega arith
length-without_empty_end ((byte ∷ line) ∷ []) = omega arith
length-without_empty_end ([] ∷ next ∷ others) = omega (arith, length-without_empty_end (next ∷ others))
length-without_empty_end ((byte ∷ line) ∷ next ∷ others) = omega (arith, length-without_empty_end (next ∷ others))

pub length-lines_of : (text : List ℕ) → length (lines_of text) ≤ length text + 1
length-lines_of text = omega (arith, length-without_empty_end (slice_split (is_byte 10) text), length-slice_split (is_byte 10) text, count_by-le-length (is_byte 10) text)

-- ---- what each line keeps, a text keeps

-- either of two choices
pub if_ok : {A E P : Type 0} (b : Bool) (one other : Result A E) (value : A) → (if b then one else other) ≡ Ok value → (b ≡ true → one ≡ Ok value → P) → (b ≡ false → other ≡ Ok value → P) → P
if_ok true one other value is then_is else_is = then_is refl is
if_ok false one other value is then_is else_is = else_is refl is

module _ {S : Type 0} (Kept : S → Type 0) (take_line : ℕ → S → List ℕ → Result S TextCause) (keeps : (number : ℕ) (state next : S) (line : List ℕ) → Kept state → take_line number state line ≡ Ok next → Kept next) where
  read_lines-keeps : (number : ℕ) (state last : S) (lines : List (List ℕ)) → Kept state → read_lines take_line number state lines ≡ Ok last → Kept last
  read_lines-keeps number state last [] kept is =
      let same : state ≡ last = cc is in
      subst Kept same kept
  read_lines-keeps number state last (line ∷ lines) kept is =
      elim (take_line number state line) as (λ r. take_line number state line ≡ r → behind_line number r (λ next. read_lines take_line (number + 1) next lines) ≡ Ok last → Kept last) [
        | Ok next ↦ λ takes later. read_lines-keeps (number + 1) next last lines (keeps number state next line kept takes) later
        | Err cause ↦ λ takes later. cc later
      ] refl is

module _ {S : Type 0} (Kept : S → Type 0) (name version : List ℕ) (meaning : ℕ → S → List (List ℕ) → Result S TextCause) (keeps : (number : ℕ) (state next : S) (words : List (List ℕ)) → All IsWord words → Kept state → meaning number state words ≡ Ok next → Kept next) where
  words_line-keeps : (number : ℕ) (state next : S) (words : List (List ℕ)) → All IsWord words → Kept state → words_line name version meaning number state words ≡ Ok next → Kept next
  words_line-keeps number state next words are kept is =
      let stays : ◌≡◌ {A = Result S TextCause} (Ok state) (Ok next) → Kept next = λ e. (let same : state ≡ next = cc e in subst Kept same kept) in
      if_ok (number == 1) _ _ next is
      (λ _ first. if_ok (is_header name version words) _ _ next first (λ _ e. stays e) (λ _ e. cc e))
      (λ _ later. if_ok (is_passed_over words) _ _ next later (λ _ e. stays e) (λ _ e. keeps number state next words are kept e))

  text_line-keeps : (number : ℕ) (state next : S) (line : List ℕ) → Kept state → text_line name version meaning number state line ≡ Ok next → Kept next
  text_line-keeps number state next line kept is =
      if_ok (is_text line) _ _ next is (λ text says. words_line-keeps number state next (words_of line) (IsWord-words_of line text) kept says) (λ _ e. cc e)

  whole_text-keeps : (state last : S) (lines : List (List ℕ)) → Kept state → whole_text name version meaning state lines ≡ Ok last → Kept last
  whole_text-keeps state last [] kept is = cc is
  whole_text-keeps state last (line ∷ lines) kept is = read_lines-keeps Kept (text_line name version meaning) text_line-keeps 1 state last (line ∷ lines) kept is

  -- what the meaning of each line of words keeps holds behind a text, if it holds before
  pub text_state-keeps : (state last : S) (text : List ℕ) → Kept state → text_state name version meaning state text ≡ Ok last → Kept last
  text_state-keeps state last text kept is =
      if_ok (nat_le (length text) most_bytes) _ _ last is (λ _ says. whole_text-keeps state last (lines_of text) kept says) (λ _ e. cc e)

-- ---- a text that is too long

pub text_state-take : {S : Type 0} (name version : List ℕ) (meaning : ℕ → S → List (List ℕ) → Result S TextCause) (state : S) (text : List ℕ)
    → text_state name version meaning state (take (most_bytes + 1) text) ≡ text_state name version meaning state text
text_state-take name version meaning state text =
    let shown = take (most_bytes + 1) text in
    let too_long : (bytes : List ℕ) → most_bytes < length bytes → nat_le (length bytes) most_bytes ≡ false =
    λ bytes long. false_from_ne_true _ (λ within. absurd (omega (arith, leb-true (length bytes) most_bytes within))) in
    ⊎_elim
    (λ long.
    let shown_long : most_bytes < length shown = omega (arith, length-take (most_bytes + 1) text) in
    let here = too_long text long in
    let there = too_long shown shown_long in
    rw (here, there) refl)
    (λ short. ap (text_state name version meaning state) (take_all (most_bytes + 1) text (omega arith)))
    (cases_lt most_bytes (length text))
