-- Printed numbers and hex words are read back.
use Rattle.std.proofs.Common.{◌≡◌, ℕ, ◌/◌, ◌%◌, ◌^◌, ◌<◌, ◌≤◌, true, false, List, [], ◌∷◌, length, get_or, Some, refl, ap, ◌∙◌, arith, All, codes, ⊎_elim, rules}
use Rattle.std.specs.List.{list_all}
use Rattle.std.specs.Char.{is_ascii_digit}
use Rattle.std.specs.Fmt.{decimal}
use Rattle.std.specs.Str.Parse.{digits_value}
use Rattle.std.specs.Str.{bytes_eq}
use Rattle.std.specs.Option.{option_and_then}
use Rattle.std.specs.Result.{result_ok}
use Rattle.std.proofs.lemmas.Bool.{false_from_ne_true, cases_lt}
use Rattle.std.proofs.lemmas.Fmt.{decimal_nonempty, digits_decimal, digits_value-decimal}
use Rattle.std.proofs.lemmas.Str.Parse.{IsNumeralModel, numerals_by_value}
use Rattle.std.proofs.lemmas.List.{get_or_past}
use Rattle.std.proofs.lemmas.List.Elements.{All-nil, All-cons, All-head, All-tail, All-weaker}
use Rattle.std.proofs.lemmas.List.Sums.{AllPass-from_list_all}
use Rattle.std.proofs.lemmas.Slice.Eq.{bytes_eq-Decides}
use Rattle.hex.specs.Hex.{IsBytes, encode_with, encode_lower, lower_digits, decode_of}
use Rattle.hex.proofs.HexLemmas.{length-encode_with, decode_of-encode_lower}
use Rattle.text_lines.specs.Words.{IsWord}
use Rattle.text_lines.specs.Number.{number_of}
use Rattle.text_lines.specs.Hex.{hex_of, byte_of, pairs_of, only_byte}
use Rattle.text_lines.specs.Printed.{printed_hex, printed_byte}
use Rattle.text_lines.proofs.NumberLemmas.{number_of-some, IsAsciiDigit-from_test}
use Rattle.text_lines.proofs.IsWordLemmas.{IsWord-from_test, visible_all}

-- ---- numbers

abbrev AreDigits : List ℕ → Type 0
AreDigits word = list_all is_ascii_digit word ≡ true

digits_model : IsNumeralModel AreDigits (digits_value 10)
digits_model = numerals_by_value AreDigits (search rules)

-- a number in decimal is a word
pub IsWord-decimal : (n : ℕ) → n < 2 ^ 64 → IsWord (decimal n)
IsWord-decimal n small = record {
  some = decimal_nonempty n small;
  visible =
      All-weaker (λ byte. is_ascii_digit byte ≡ true) (λ byte. (33 ≤ byte) × (byte ≤ 126))
      (λ byte yes_is. (let digit = IsAsciiDigit-from_test byte yes_is in (omega arith, omega arith)))
      (decimal n) (AllPass-from_list_all is_ascii_digit (decimal n) (digits_decimal digits_model n small));
}

-- its number is read back
pub number_of-decimal : (n : ℕ) → n < 2 ^ 64 → number_of (decimal n) ≡ Some n
number_of-decimal n small =
    let value = digits_value-decimal digits_model n small in
    number_of-some (decimal n) (decimal_nonempty n small) (digits_decimal digits_model n small) (omega arith) ∙ ap Some value

-- ---- hex words

IsBytes-from_All : (bytes : List ℕ) → All (λ byte. byte < 256) bytes → IsBytes bytes
IsBytes-from_All bytes are = λ i.
    ⊎_elim (λ within. are i 0 within) (λ past. (let none = get_or_past bytes i 0 past in omega arith)) (cases_lt i (length bytes))

-- each digit of the table can stand in a word
abbrev Seen : ℕ → Type 0
Seen byte = (33 ≤ byte) × (byte ≤ 126)

digit_seen : (d : ℕ) → d < 16 → Seen (get_or lower_digits d 0)
digit_seen d small = visible_all lower_digits refl d 0 small

encoded_seen : (bytes : List ℕ) → All (λ byte. byte < 256) bytes → All Seen (encode_lower bytes)
unfolding encode_with
encoded_seen [] are = All-nil Seen
encoded_seen (byte ∷ bytes) are =
    let small : byte < 256 = All-head (λ b. b < 256) byte bytes are in
    let high : byte / 16 < 16 = omega arith in
    let low : byte % 16 < 16 = omega arith in
    let rest = encoded_seen bytes (All-tail (λ b. b < 256) byte bytes are) in
    All-cons Seen (get_or lower_digits (byte / 16) 0) (get_or lower_digits (byte % 16) 0 ∷ encode_lower bytes) (digit_seen (byte / 16) high)
    (All-cons Seen (get_or lower_digits (byte % 16) 0) (encode_lower bytes) (digit_seen (byte % 16) low) rest)

IsWord-encoded : (byte : ℕ) (bytes : List ℕ) → All (λ b. b < 256) (byte ∷ bytes) → IsWord (encode_lower (byte ∷ bytes))
IsWord-encoded byte bytes are =
    let len = length-encode_with lower_digits (byte ∷ bytes) in
    record { some = omega arith; visible = encoded_seen (byte ∷ bytes) are }

pub IsWord-printed_hex : (bytes : List ℕ) → All (λ b. b < 256) bytes → IsWord (printed_hex bytes)
IsWord-printed_hex [] are = IsWord-from_test (codes "-") refl
IsWord-printed_hex (byte ∷ bytes) are = IsWord-encoded byte bytes are

one_byte : (byte : ℕ) → byte < 256 → All (λ b. b < 256) (byte ∷ [])
one_byte byte small = All-cons (λ b. b < 256) byte [] small (All-nil (λ b. b < 256))

pub IsWord-printed_byte : (byte : ℕ) → byte < 256 → IsWord (printed_byte byte)
IsWord-printed_byte byte small = IsWord-encoded byte [] (one_byte byte small)

pairs_of-some : (word : List ℕ) → 0 < length word → pairs_of word ≡ result_ok (decode_of word)
pairs_of-some [] some = absurd (omega arith)
pairs_of-some (digit ∷ digits) some = refl

pairs_of-encoded : (byte : ℕ) (bytes : List ℕ) → All (λ b. b < 256) (byte ∷ bytes) → pairs_of (encode_lower (byte ∷ bytes)) ≡ Some (byte ∷ bytes)
pairs_of-encoded byte bytes are =
    let len = length-encode_with lower_digits (byte ∷ bytes) in
    pairs_of-some (encode_lower (byte ∷ bytes)) (omega arith) ∙ ap result_ok (decode_of-encode_lower (byte ∷ bytes) (IsBytes-from_All (byte ∷ bytes) are))

-- its bytes are read back
pub hex_of-printed_hex : (bytes : List ℕ) → All (λ b. b < 256) bytes → hex_of (printed_hex bytes) ≡ Some bytes
hex_of-printed_hex [] are = refl
hex_of-printed_hex (byte ∷ bytes) are =
    let word = encode_lower (byte ∷ bytes) in
    let len = length-encode_with lower_digits (byte ∷ bytes) in
    let no_dash : bytes_eq word (codes "-") ≡ false =
    false_from_ne_true _ (λ yes_is. (let same = ap (λ (w : List ℕ). length w) ((bytes_eq-Decides word (codes "-")).0 yes_is) in omega arith)) in
    rw no_dash (pairs_of-encoded byte bytes are)

pub byte_of-printed_byte : (byte : ℕ) → byte < 256 → byte_of (printed_byte byte) ≡ Some byte
byte_of-printed_byte byte small = ap (option_and_then only_byte) (pairs_of-encoded byte [] (one_byte byte small))
