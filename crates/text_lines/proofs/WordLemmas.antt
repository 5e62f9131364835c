-- The words of a line, the first one first.
use Rattle.std.proofs.Common.{◌≡◌, ◌≢◌, ℕ, zero, suc, ◌+◌, ◌-◌, ◌<◌, Bool, true, List, [], ◌∷◌, length, get_or, take, drop, Some, None, refl, sym, ap, ◌∙◌, arith, eq-eqb, eqb-true, add-one, nat_lt, ◌⊎◌, ⊎_elim, inl, inr}
use Rattle.std.specs.List.{slice_split, filter}
use Rattle.std.proofs.lemmas.List.Splits.{slice_split-cons_yes}
use Rattle.std.proofs.lemmas.List.{take_rest, length-take}
use Rattle.std.proofs.Math.Seq.{drop-cons}
use Rattle.std.proofs.lemmas.Bool.Decides.{nat_tests}
use Rattle.memchr.specs.Find.{IsFirstByte, is_byte}
use Rattle.text_lines.specs.Words.{words_of}
use Rattle.text_lines.proofs.LineLemmas.{slice_split-first_byte, slice_split-no_byte}

-- whether a run has a byte
abbrev pub has_byte : List ℕ → Bool
has_byte run = nat_lt 0 (length run)

has_byte-is : (run : List ℕ) → 0 < length run → has_byte run ≡ true
has_byte-is run some = grind (arith, nat_tests)

-- a run with a byte is kept
pub filter-kept : (run : List ℕ) (runs : List (List ℕ)) → 0 < length run → filter has_byte (run ∷ runs) ≡ run ∷ filter has_byte runs
filter-kept run runs some = rw (has_byte-is run some) refl

-- a blank before it changes no word
words_of-blank : (byte : ℕ) (line : List ℕ) → byte ≡ 32 → words_of (byte ∷ line) ≡ words_of line
words_of-blank byte line blank = ap (filter has_byte) (slice_split-cons_yes (is_byte 32) byte line (eq-eqb byte 32 blank))

-- blanks before it change no word
pub words_of-blanks : (line : List ℕ) (start : ℕ) → ((k : ℕ) → k < start → k < length line → get_or line k 0 ≡ 32) → words_of (drop start line) ≡ words_of line
words_of-blanks line zero blanks = refl
words_of-blanks [] (suc start) blanks = refl
words_of-blanks (byte ∷ line) (suc start) blanks =
    words_of-blanks line start (λ k below within. blanks (suc k) (omega arith) (omega arith)) ∙ sym (words_of-blank byte line (blanks 0 (omega arith) (omega arith)))

first_or_later : (n : ℕ) → (n ≡ 0) ⊎ (0 < n)
first_or_later zero = inl refl
first_or_later (suc n) = inr (omega arith)

-- the first word ends at the first blank
pub words_of-first : (line : List ℕ) (end : ℕ) → get_or line 0 0 ≢ 32 → IsFirstByte (is_byte 32) line (Some end)
    → words_of line ≡ take end line ∷ words_of (take (length line - end) (drop end line))
words_of-first line end no_blank first =
    let within : end < length line = first.0.high in
    let blank : get_or line end 0 ≡ 32 = eqb-true (get_or line end 0) 32 first.1 in
    let later : 0 < end = ⊎_elim (λ begins. absurd (no_blank (ap (λ k. get_or line k 0) (sym begins) ∙ blank))) (λ is. is) (first_or_later end) in
    let parted : slice_split (is_byte 32) line ≡ take end line ∷ slice_split (is_byte 32) (drop (end + 1) line) = slice_split-first_byte 32 line end first in
    let word_first : words_of line ≡ take end line ∷ words_of (drop (end + 1) line) =
    ap (filter has_byte) parted ∙ filter-kept (take end line) (slice_split (is_byte 32) (drop (end + 1) line)) (omega (arith, length-take end line)) in
    let behind : words_of (drop end line) ≡ words_of (drop (end + 1) line) =
    ap words_of (drop-cons line end 0 within) ∙ words_of-blank (get_or line end 0) (drop (suc end) line) blank ∙ ap (λ k. words_of (drop k line)) (sym (add-one end)) in
    rw (take_rest line end) (word_first ∙ ap (λ (words : List (List ℕ)). take end line ∷ words) (sym behind))

-- without a blank a line with a byte is one word
pub words_of-last : (line : List ℕ) → 0 < length line → IsFirstByte (is_byte 32) line None → words_of line ≡ line ∷ []
words_of-last line some nowhere = ap (filter has_byte) (slice_split-no_byte 32 line nowhere) ∙ filter-kept line [] some
