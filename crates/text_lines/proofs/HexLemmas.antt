-- Words that are no byte, and the digits of bytes.
use Rattle.std.proofs.Common.{◌≡◌, ℕ, ◌+◌, ◌/◌, ◌%◌, ◌<◌, List, [], ◌∷◌, ◌++◌, length, get_or, take, Bool, true, false, All, Option, Some, codes, subst, if◌then◌else◌, Result, Ok, Err, None, refl, sym, ap, ◌∙◌, arith, MatchResult}
use Rattle.std.specs.Option.{option_and_then}
use Rattle.std.specs.Result.{result_ok}
use Rattle.std.proofs.lemmas.List.{take_more}
use Rattle.std.proofs.lemmas.List.Elements.{All-nil, All-head, All-from_get_or}
use Rattle.std.specs.Str.{bytes_eq}
use Rattle.hex.specs.Hex.{IsBytes, decode_of, decode_sized, encode_with, encode_lower, lower_digits}
use Rattle.hex.specs.declared.error.FromHexError.{FromHexError}
use Rattle.hex.proofs.HexLemmas.{decode_of-ok, decode_sized-twice}
use Rattle.text_lines.specs.Hex.{hex_of, pairs_of, only_byte, byte_of}
use Rattle.text_lines.specs.Printed.{printed_byte}

-- what a slice's decoding refused
pub decode_sized-refused : (said : Result (List ℕ) FromHexError) (answer : Result (Unit {0}) FromHexError) (error : FromHexError) (out : List ℕ) → answer ≡ Err error
    → MatchResult said (λ bytes. (answer ≡ Ok tt) × (out ≡ bytes)) (λ e. answer ≡ Err e) → said ≡ Err error
decode_sized-refused (Ok bytes) answer error out is match = cc (match.0)
decode_sized-refused (Err e) answer error out is match =
    let same : e ≡ error = cc (sym match ∙ is) in
    ap Err same

only_byte-none : (word bytes : List ℕ) (error : FromHexError) → decode_of word ≡ Ok bytes → decode_sized word 1 ≡ Err error → only_byte bytes ≡ None
only_byte-none word [] error ok refused = refl
only_byte-none word (byte ∷ []) error ok refused =
    let as_long = (decode_of-ok word (byte ∷ []) ok).2 in
    cc (sym refused ∙ (decode_sized-twice word 1 (omega arith) ∙ ok))
only_byte-none word (byte ∷ next ∷ others) error ok refused = refl

pub byte_of-refused : (word : List ℕ) (error : FromHexError) → decode_sized word 1 ≡ Err error → byte_of word ≡ None
byte_of-refused [] error refused = refl
byte_of-refused (digit ∷ digits) error refused =
    let word = digit ∷ digits in
    elim (decode_of word) as (λ r. decode_of word ≡ r → option_and_then only_byte (result_ok r) ≡ None) [
      | Ok bytes ↦ λ ok. only_byte-none word bytes error ok refused
      | Err e ↦ λ _. refl
    ] refl

-- ---- printed bytes, one after another

encode_with-append : (digits xs ys : List ℕ) → encode_with digits (xs ++ ys) ≡ encode_with digits xs ++ encode_with digits ys
unfolding encode_with
encode_with-append digits [] ys = refl
encode_with-append digits (x ∷ xs) ys = ap (λ (rest : List ℕ). get_or digits (x / 16) 0 ∷ get_or digits (x % 16) 0 ∷ rest) (encode_with-append digits xs ys)

pub encode_lower-more : (bytes : List ℕ) (i : ℕ) → i < length bytes → encode_lower (take (i + 1) bytes) ≡ encode_lower (take i bytes) ++ printed_byte (get_or bytes i 0)
encode_lower-more bytes i within =
    ap encode_lower (take_more bytes i 0 within) ∙ encode_with-append lower_digits (take i bytes) (get_or bytes i 0 ∷ [])

-- ---- what was read is bytes

AreBytes-from_IsBytes : (bytes : List ℕ) → IsBytes bytes → All (λ byte. byte < 256) bytes
AreBytes-from_IsBytes bytes are = All-from_get_or (λ byte. byte < 256) bytes 0 (λ i _. are i)

AreBytes-decoded : (word bytes : List ℕ) (said : Result (List ℕ) FromHexError) → decode_of word ≡ said → result_ok said ≡ Some bytes → All (λ byte. byte < 256) bytes
AreBytes-decoded word bytes (Ok found) said_is is =
    let same : found ≡ bytes = cc is in
    AreBytes-from_IsBytes bytes (decode_of-ok word bytes (said_is ∙ ap Ok same)).3
AreBytes-decoded word bytes (Err error) said_is is = cc is

pub AreBytes-pairs_of : (word bytes : List ℕ) → pairs_of word ≡ Some bytes → All (λ byte. byte < 256) bytes
AreBytes-pairs_of [] bytes is = cc is
AreBytes-pairs_of (digit ∷ digits) bytes is = AreBytes-decoded (digit ∷ digits) bytes (decode_of (digit ∷ digits)) refl is

either_bytes : (dash : Bool) (pairs : Option (List ℕ)) (bytes : List ℕ) → (if dash then Some [] else pairs) ≡ Some bytes → (pairs ≡ Some bytes → All (λ byte. byte < 256) bytes) → All (λ byte. byte < 256) bytes
either_bytes true pairs bytes is then_is =
    let same : [] ≡ bytes = cc is in
    subst (All (λ byte. byte < 256)) same (All-nil (λ byte. byte < 256))
either_bytes false pairs bytes is then_is = then_is is

pub AreBytes-hex_of : (word bytes : List ℕ) → hex_of word ≡ Some bytes → All (λ byte. byte < 256) bytes
AreBytes-hex_of word bytes is = either_bytes (bytes_eq word (codes "-")) (pairs_of word) bytes is (AreBytes-pairs_of word bytes)

only_byte-below : (pairs : Option (List ℕ)) (byte : ℕ) → ((bytes : List ℕ) → pairs ≡ Some bytes → All (λ b. b < 256) bytes) → option_and_then only_byte pairs ≡ Some byte → byte < 256
only_byte-below None byte are is = cc is
only_byte-below (Some []) byte are is = cc is
only_byte-below (Some (one ∷ [])) byte are is =
    let same : one ≡ byte = cc is in
    let below = All-head (λ b. b < 256) one [] (are (one ∷ []) refl) in
    omega arith
only_byte-below (Some (one ∷ next ∷ others)) byte are is = cc is

pub byte_of-below : (word : List ℕ) (byte : ℕ) → byte_of word ≡ Some byte → byte < 256
byte_of-below word byte is = only_byte-below (pairs_of word) byte (AreBytes-pairs_of word) is
