-- The bytes that hex words and byte words are.
use Rattle.std.specs.Prelude.{ℕ, List, [], ◌∷◌, Option, None, Some, option_and_then, codes, bytes_eq, if◌then◌else◌}
use Rattle.std.specs.Result.{result_ok}
use Rattle.hex.specs.Hex.{decode_of}

-- the bytes of pairs of hexadecimal digits in either case, of which there is at least one
abbrev pub pairs_of : List ℕ → Option (List ℕ)
pairs_of [] = None
pairs_of (digit ∷ digits) = result_ok (decode_of (digit ∷ digits))

-- the bytes that a hex word is: `-` is no bytes
abbrev pub hex_of : List ℕ → Option (List ℕ)
hex_of word = if bytes_eq word (codes "-") then Some [] else pairs_of word

-- the byte, if there is one and no other
abbrev pub only_byte : List ℕ → Option ℕ
only_byte (byte ∷ []) = Some byte
only_byte _ = None

-- the byte that a byte word is: exactly two hexadecimal digits
abbrev pub byte_of : List ℕ → Option ℕ
byte_of word = option_and_then only_byte (pairs_of word)
