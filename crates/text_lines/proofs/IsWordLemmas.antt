-- Bytes that can be a word, and lines of such words.
use Rattle.std.proofs.Common.{◌≡◌, ℕ, ◌<◌, ◌≤◌, Bool, true, false, ◌&&◌, List, [], ◌∷◌, length, sym, subst, arith, All, nat_le, nat_lt, ⊎_elim}
use Rattle.std.specs.List.{list_all, join_with_byte, slice_split, onto_first}
use Rattle.std.proofs.lemmas.Bool.{and_parts, cases_Bool}
use Rattle.std.proofs.lemmas.Bool.Decides.{nat_tests}
use Rattle.std.proofs.lemmas.List.Elements.{All-nil, All-cons, All-head, All-tail, All-append, All-weaker, All-filter, filter_passes}
use Rattle.std.proofs.lemmas.List.Sums.{AllPass-from_list_all, list_all-from_AllPass}
use Rattle.std.proofs.lemmas.List.Splits.{slice_split-cons_yes, slice_split-cons_no}
use Rattle.memchr.specs.Find.{is_byte}
use Rattle.text_lines.specs.Words.{IsWord, words_of}
use Rattle.text_lines.specs.Lines.{is_text}
use Rattle.text_lines.proofs.WordLemmas.{has_byte}

-- the test of a byte of a word, which computes
abbrev pub is_visible : ℕ → Bool
is_visible byte = nat_le 33 byte && nat_le byte 126

-- the test of a word
abbrev pub is_word : List ℕ → Bool
is_word word = nat_lt 0 (length word) && list_all is_visible word

visible_from_test : (byte : ℕ) → is_visible byte ≡ true → (33 ≤ byte) × (byte ≤ 126)
visible_from_test byte yes_is = (grind (arith, nat_tests), grind (arith, nat_tests))

pub visible_all : (bytes : List ℕ) → list_all is_visible bytes ≡ true → All (λ byte. (33 ≤ byte) × (byte ≤ 126)) bytes
visible_all bytes yes_is =
    All-weaker (λ byte. is_visible byte ≡ true) (λ byte. (33 ≤ byte) × (byte ≤ 126)) visible_from_test bytes (AllPass-from_list_all is_visible bytes yes_is)

-- a word that passes the test, as fixed words do by computing
pub IsWord-from_test : (word : List ℕ) → is_word word ≡ true → IsWord word
IsWord-from_test word yes_is =
    let parts = and_parts (nat_lt 0 (length word)) (list_all is_visible word) yes_is in
    let some : 0 < length word = grind (arith, nat_tests) in
    record { some = some; visible = visible_all word parts.1 }

-- ---- lines of words

-- a byte of a line
abbrev pub InLine : ℕ → Type 0
InLine byte = (32 ≤ byte) × (byte ≤ 126)

line_bytes : (word : List ℕ) → IsWord word → All InLine word
line_bytes word is = All-weaker (λ byte. (33 ≤ byte) × (byte ≤ 126)) InLine (λ byte seen. (let low = seen.0 in omega arith, seen.1)) word is.visible

-- each byte of a line of words is one of a line
pub InLine-joined : (words : List (List ℕ)) → All IsWord words → All InLine (join_with_byte 32 words)
InLine-joined [] are = All-nil InLine
InLine-joined (word ∷ []) are = line_bytes word (All-head IsWord word [] are)
InLine-joined (word ∷ next ∷ words) are =
    let rest = join_with_byte 32 (next ∷ words) in
    All-append InLine word (32 ∷ rest) (line_bytes word (All-head IsWord word (next ∷ words) are))
    (All-cons InLine 32 rest (omega arith, omega arith) (InLine-joined (next ∷ words) (All-tail IsWord word (next ∷ words) are)))

line_test : (byte : ℕ) → InLine byte → (nat_le 32 byte && nat_le byte 126) ≡ true
line_test byte within = let low = within.0 in let high = within.1 in grind (arith, nat_tests)

pub is_text-joined : (words : List (List ℕ)) → All IsWord words → is_text (join_with_byte 32 words) ≡ true
is_text-joined words are =
    let line = join_with_byte 32 words in
    list_all-from_AllPass (λ byte. nat_le 32 byte && nat_le byte 126) line
    (All-weaker InLine (λ byte. (nat_le 32 byte && nat_le byte 126) ≡ true) line_test line (InLine-joined words are))

-- ---- the words of a line

-- a byte of a word
abbrev InWord : ℕ → Type 0
InWord byte = (33 ≤ byte) × (byte ≤ 126)

abbrev InWords : List ℕ → Type 0
InWords run = All InWord run

longer_run : (byte : ℕ) (runs : List (List ℕ)) → InWord byte → All InWords runs → All InWords (onto_first byte runs)
longer_run byte [] seen are = All-cons InWords (byte ∷ []) [] (All-cons InWord byte [] seen (All-nil InWord)) (All-nil InWords)
longer_run byte (run ∷ runs) seen are =
    All-cons InWords (byte ∷ run) runs (All-cons InWord byte run seen (All-head InWords run runs are)) (All-tail InWords run runs are)

visible_beside_blank : (byte : ℕ) → InLine byte → is_byte 32 byte ≡ false → InWord byte
visible_beside_blank byte within other = let low = within.0 in let high = within.1 in (grind (arith, nat_tests), high)

runs_visible : (line : List ℕ) → All InLine line → All InWords (slice_split (is_byte 32) line)
runs_visible [] are = All-cons InWords [] [] (All-nil InWord) (All-nil InWords)
runs_visible (byte ∷ line) are =
    let runs = slice_split (is_byte 32) line in
    let rest = runs_visible line (All-tail InLine byte line are) in
    ⊎_elim
    (λ blank. subst (All InWords) (sym (slice_split-cons_yes (is_byte 32) byte line blank)) (All-cons InWords [] runs (All-nil InWord) rest))
    (λ other. subst (All InWords) (sym (slice_split-cons_no (is_byte 32) byte line other)) (longer_run byte runs (visible_beside_blank byte (All-head InLine byte line are) other) rest))
    (cases_Bool (is_byte 32 byte))

some_from_has_byte : (run : List ℕ) → has_byte run ≡ true → 0 < length run
some_from_has_byte run has = grind (arith, nat_tests)

in_line_from_test : (byte : ℕ) → (nat_le 32 byte && nat_le byte 126) ≡ true → InLine byte
in_line_from_test byte yes_is = (grind (arith, nat_tests), grind (arith, nat_tests))

-- the words of a line that is text
pub IsWord-words_of : (line : List ℕ) → is_text line ≡ true → All IsWord (words_of line)
IsWord-words_of line text = λ k d within.
    let in_line = All-weaker (λ byte. (nat_le 32 byte && nat_le byte 126) ≡ true) InLine in_line_from_test line (AllPass-from_list_all (λ byte. nat_le 32 byte && nat_le byte 126) line text) in
    let runs = slice_split (is_byte 32) line in
    record {
      some = some_from_has_byte _ (filter_passes has_byte runs k d within);
      visible = All-filter has_byte InWords runs (runs_visible line in_line) k d within;
    }
