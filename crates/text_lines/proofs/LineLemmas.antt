-- The lines of a text, the first one first.
use Rattle.std.proofs.Common.{◌≡◌, ℕ, ◌+◌, ◌-◌, ◌<◌, Bool, false, List, [], ◌∷◌, length, take, drop, Some, None, refl, ap, ◌∙◌, arith}
use Rattle.std.specs.List.{position_or_len, slice_split}
use Rattle.std.proofs.lemmas.Bool.{false_from_ne_true}
use Rattle.std.proofs.lemmas.List.Splits.{slice_split_first, slice_split_none, length-slice_split}
use Rattle.std.proofs.lemmas.List.Sums.{position_or_len_is}
use Rattle.std.proofs.lemmas.List.Elements.{All-from_get_or}
use Rattle.std.proofs.lemmas.List.{take_rest}
use Rattle.memchr.specs.Find.{IsFirstByte, is_byte}
use Rattle.text_lines.specs.Lines.{lines_of, without_empty_end}

-- the first part ends where the byte first stands
pub slice_split-first_byte : (at : ℕ) (text : List ℕ) (end : ℕ) → IsFirstByte (is_byte at) text (Some end)
    → slice_split (is_byte at) text ≡ take end text ∷ slice_split (is_byte at) (drop (end + 1) text)
slice_split-first_byte at text end first =
    let p : ℕ → Bool = is_byte at in
    let end_is : position_or_len p text ≡ end =
    position_or_len_is p text end 0 (omega (arith, first.0.high)) (λ k below. false_from_ne_true _ (first.0.before k (omega arith) below)) (λ _. first.1) in
    let within : position_or_len p text < length text = omega (arith, first.0.high) in
    rw end_is at (slice_split_first p text 0 within)

-- without the byte there is one part
pub slice_split-no_byte : (at : ℕ) (text : List ℕ) → IsFirstByte (is_byte at) text None → slice_split (is_byte at) text ≡ text ∷ []
slice_split-no_byte at text nowhere =
    slice_split_none (is_byte at) text (All-from_get_or (λ x. is_byte at x ≡ false) text 0 (λ k below. false_from_ne_true _ (nowhere k (omega arith) below)))

pub without_empty_end-cons : (line : List ℕ) (parts : List (List ℕ)) → 0 < length parts → without_empty_end (line ∷ parts) ≡ line ∷ without_empty_end parts
without_empty_end-cons line [] some = absurd (omega arith)
without_empty_end-cons [] (next ∷ others) some = refl
without_empty_end-cons (byte ∷ line) (next ∷ others) some = refl

-- the first line ends at the first line feed
pub lines_of-first : (text : List ℕ) (end : ℕ) → IsFirstByte (is_byte 10) text (Some end)
    → lines_of text ≡ take end text ∷ lines_of (take (length text - (end + 1)) (drop (end + 1) text))
lines_of-first text end first =
    let parts = slice_split (is_byte 10) (drop (end + 1) text) in
    rw (take_rest text (end + 1)) (ap without_empty_end (slice_split-first_byte 10 text end first)
    ∙ without_empty_end-cons (take end text) parts (omega (arith, length-slice_split (is_byte 10) (drop (end + 1) text))))

-- without a line feed a text with a byte is one line
pub lines_of-last : (text : List ℕ) → 0 < length text → IsFirstByte (is_byte 10) text None → lines_of text ≡ text ∷ []
lines_of-last [] some nowhere = absurd (omega arith)
lines_of-last (byte ∷ text) some nowhere = ap without_empty_end (slice_split-no_byte 10 (byte ∷ text) nowhere)

-- there are at most as many lines as bytes
