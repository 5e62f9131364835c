-- Words as a text in its plainest form: single blanks, no leading zeros, hex words in lower case.
use Rattle.std.specs.Prelude.{ℕ, List, [], ◌∷◌, ◌++◌, codes, flat_map}
use Rattle.std.specs.List.{join_with_byte}
use Rattle.hex.specs.Hex.{encode_lower}

-- a line of these words: one blank between each two, and the line feed
abbrev pub printed_line : List (List ℕ) → List ℕ
printed_line words = join_with_byte 32 words ++ codes "\n"

-- lines of these words, one after another
abbrev pub printed_lines : List (List (List ℕ)) → List ℕ
printed_lines lines = flat_map printed_line lines

-- the hex word of these bytes
abbrev pub printed_hex : List ℕ → List ℕ
printed_hex [] = codes "-"
printed_hex (byte ∷ bytes) = encode_lower (byte ∷ bytes)

-- the byte word of this byte
abbrev pub printed_byte : ℕ → List ℕ
printed_byte byte = encode_lower (byte ∷ [])

-- words with a blank before each, as they stand behind a first one
abbrev pub spaced : List (List ℕ) → List ℕ
spaced words = flat_map (λ word. codes " " ++ word) words
