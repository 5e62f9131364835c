-- Printed lines are read back, word by word.
use Rattle.std.proofs.Common.{◌≡◌, ◌≢◌, ℕ, ◌+◌, ◌≤◌, true, false, List, [], ◌∷◌, ◌++◌, length, Result, Ok, refl, sym, ap, ap₂, ◌∙◌, arith, append_assoc, append-nil, All, map, length-append, ◌==◌, eqb-true}
use Rattle.std.specs.List.{slice_split, join_with_byte, filter}
use Rattle.std.specs.Str.{bytes_eq}
use Rattle.std.proofs.lemmas.Bool.{false_from_ne_true}
use Rattle.std.proofs.lemmas.List.Elements.{All-cons, All-head, All-tail, All-nil, All-weaker}
use Rattle.std.proofs.lemmas.List.Splits.{slice_split_at, slice_split_none}
use Rattle.std.proofs.lemmas.Slice.Eq.{bytes_eq-Decides}
use Rattle.bq_model.specs.declared.fault.TextCause.{TextCause}
use Rattle.memchr.specs.Find.{is_byte}
use Rattle.text_lines.specs.Lines.{lines_of, without_empty_end}
use Rattle.text_lines.specs.Words.{words_of, IsWord, is_passed_over}
use Rattle.text_lines.specs.Printed.{printed_lines, spaced}
use Rattle.text_lines.specs.Reading.{read_lines, behind_line, words_line, text_line, text_state, most_bytes}
use Rattle.text_lines.proofs.IsWordLemmas.{InLine, InLine-joined, is_text-joined}
use Rattle.text_lines.proofs.LineLemmas.{without_empty_end-cons}
use Rattle.text_lines.proofs.WordLemmas.{has_byte, filter-kept}
use Rattle.text_lines.proofs.ReadingLemmas.{text_state-lines}

-- ---- words

-- a first word, and a blank before each of the others
pub join-spaced : (word : List ℕ) (words : List (List ℕ)) → join_with_byte 32 (word ∷ words) ≡ word ++ spaced words
join-spaced word [] = sym (append-nil word)
join-spaced word (next ∷ words) = ap (λ (rest : List ℕ). word ++ 32 ∷ rest) (join-spaced next words)

other_byte : (at byte : ℕ) → byte ≢ at → is_byte at byte ≡ false
other_byte at byte other = false_from_ne_true _ (λ same. other (eqb-true byte at same))

no_blank : (word : List ℕ) → IsWord word → All (λ byte. is_byte 32 byte ≡ false) word
no_blank word is =
    All-weaker (λ byte. (33 ≤ byte) × (byte ≤ 126)) (λ byte. is_byte 32 byte ≡ false) (λ byte seen. other_byte 32 byte (λ same. (let low = seen.0 in omega arith))) word is.visible

-- the words of a line that was made of words
pub words_of-joined : (words : List (List ℕ)) → All IsWord words → words_of (join_with_byte 32 words) ≡ words
words_of-joined [] are = refl
words_of-joined (word ∷ []) are =
    let first = All-head IsWord word [] are in
    ap (filter has_byte) (slice_split_none (is_byte 32) word (no_blank word first)) ∙ filter-kept word [] first.some
words_of-joined (word ∷ next ∷ words) are =
    let first = All-head IsWord word (next ∷ words) are in
    let rest = join_with_byte 32 (next ∷ words) in
    ap (filter has_byte) (slice_split_at (is_byte 32) word 32 rest (no_blank word first) refl)
    ∙ (filter-kept word (slice_split (is_byte 32) rest) first.some
    ∙ ap (λ (others : List (List ℕ)). word ∷ others) (words_of-joined (next ∷ words) (All-tail IsWord word (next ∷ words) are)))

-- ---- lines

-- lines whose words can be words
abbrev pub AreWords : List (List ℕ) → Type 0
AreWords words = All IsWord words

no_feed : (words : List (List ℕ)) → AreWords words → All (λ byte. is_byte 10 byte ≡ false) (join_with_byte 32 words)
no_feed words are =
    All-weaker InLine (λ byte. is_byte 10 byte ≡ false) (λ byte within. other_byte 10 byte (λ same. (let low = within.0 in omega arith))) (join_with_byte 32 words) (InLine-joined words are)

parts_of-printed : (lines : List (List (List ℕ))) → All AreWords lines → slice_split (is_byte 10) (printed_lines lines) ≡ map (join_with_byte 32) lines ++ [] ∷ []
parts_of-printed [] are = refl
parts_of-printed (words ∷ lines) are =
    let line = join_with_byte 32 words in
    let rest = printed_lines lines in
    ap (slice_split (is_byte 10)) (append_assoc line (10 ∷ []) rest)
    ∙ (slice_split_at (is_byte 10) line 10 rest (no_feed words (All-head AreWords words lines are)) refl
    ∙ ap (λ (parts : List (List ℕ)). line ∷ parts) (parts_of-printed lines (All-tail AreWords words lines are)))

without_empty_end-whole : (lines : List (List ℕ)) → without_empty_end (lines ++ [] ∷ []) ≡ lines
without_empty_end-whole [] = refl
without_empty_end-whole (line ∷ lines) =
    without_empty_end-cons line (lines ++ [] ∷ []) (omega (arith, length-append lines ([] ∷ []))) ∙ ap (λ (ls : List (List ℕ)). line ∷ ls) (without_empty_end-whole lines)

-- the lines of a text that was made of lines
pub lines_of-printed : (lines : List (List (List ℕ))) → All AreWords lines → lines_of (printed_lines lines) ≡ map (join_with_byte 32) lines
lines_of-printed lines are = ap without_empty_end (parts_of-printed lines are) ∙ without_empty_end-whole (map (join_with_byte 32) lines)

words_of-all : (lines : List (List (List ℕ))) → All AreWords lines → map words_of (map (join_with_byte 32) lines) ≡ lines
words_of-all [] are = refl
words_of-all (words ∷ lines) are =
    ap₂ (λ (first : List (List ℕ)) (others : List (List (List ℕ))). first ∷ others) (words_of-joined words (All-head AreWords words lines are)) (words_of-all lines (All-tail AreWords words lines are))

-- their words too
pub words_of-lines : (lines : List (List (List ℕ))) → All AreWords lines → map words_of (lines_of (printed_lines lines)) ≡ lines
words_of-lines lines are = ap (map words_of) (lines_of-printed lines are) ∙ words_of-all lines are

-- a line has its line feed
printed_some : (words : List (List ℕ)) (lines : List (List (List ℕ))) → printed_lines (words ∷ lines) ≢ []
printed_some words lines = λ none.
    let line = join_with_byte 32 words in
    let lines_length = length-append (line ++ 10 ∷ []) (printed_lines lines) in
    let line_length = length-append line (10 ∷ []) in
    omega (arith, ap (λ (text : List ℕ). length text) none)

-- ---- a text of words

module _ {S : Type 0} (name version : List ℕ) (meaning : ℕ → S → List (List ℕ) → Result S TextCause) where
  text_line-joined : (number : ℕ) (state : S) (words : List (List ℕ)) → AreWords words → text_line name version meaning number state (join_with_byte 32 words) ≡ words_line name version meaning number state words
  text_line-joined number state words are =
      rw (is_text-joined words are) (ap (words_line name version meaning number state) (words_of-joined words are))

  -- a line behind the header that isn't passed over
  pub read_lines-joined : (number : ℕ) (state next : S) (words : List (List ℕ)) (rest : List (List ℕ)) → AreWords words → 2 ≤ number → is_passed_over words ≡ false
      → meaning number state words ≡ Ok next
      → read_lines (text_line name version meaning) number state (join_with_byte 32 words ∷ rest) ≡ read_lines (text_line name version meaning) (number + 1) next rest
  read_lines-joined number state next words rest are behind not_passed said =
      let take_line = text_line name version meaning in
      let later : (number == 1) ≡ false = other_byte 1 number (λ same. omega arith) in
      let taken : words_line name version meaning number state words ≡ Ok next = rw (later, not_passed) said in
      ap (λ (r : Result S TextCause). behind_line number r (λ after. read_lines take_line (number + 1) after rest)) (text_line-joined number state words are ∙ taken)

  -- the header of a printed text is taken
  pub text_state-printed : (state : S) (lines : List (List (List ℕ))) → IsWord name → IsWord version → All AreWords lines → length (printed_lines ((name ∷ version ∷ []) ∷ lines)) ≤ most_bytes
      → text_state name version meaning state (printed_lines ((name ∷ version ∷ []) ∷ lines)) ≡ read_lines (text_line name version meaning) 2 state (map (join_with_byte 32) lines)
  text_state-printed state lines name_is version_is are short =
      let header : List (List ℕ) = name ∷ version ∷ [] in
      let header_are : AreWords header = All-cons IsWord name (version ∷ []) name_is (All-cons IsWord version [] version_is (All-nil IsWord)) in
      let text = printed_lines (header ∷ lines) in
      let take_line = text_line name version meaning in
      let rest = map (join_with_byte 32) lines in
      let cut : lines_of text ≡ join_with_byte 32 header ∷ rest = lines_of-printed (header ∷ lines) (All-cons AreWords header lines header_are are) in
      let first : bytes_eq name name ≡ true = (bytes_eq-Decides name name).1 refl in
      let second : bytes_eq version version ≡ true = (bytes_eq-Decides version version).1 refl in
      let taken : words_line name version meaning 1 state header ≡ Ok state = rw (first, second) refl in
      text_state-lines name version meaning state text short (printed_some header lines)
      ∙ (ap (read_lines take_line 1 state) cut
      ∙ ap (λ (r : Result S TextCause). behind_line 1 r (λ after. read_lines take_line 2 after rest)) (text_line-joined 1 state header header_are ∙ taken))
