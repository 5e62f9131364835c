-- The words of a line.
use Rattle.std.specs.Prelude.{ℕ, ◌<◌, ◌≤◌, Bool, true, false, ◌&&◌, List, [], ◌∷◌, length, filter, All, ◌==◌, nat_lt, bytes_eq}
use Rattle.std.specs.List.{slice_split}

-- the longest runs of bytes other than the blank
abbrev pub words_of : List ℕ → List (List ℕ)
words_of line = filter (λ run. nat_lt 0 (length run)) (slice_split (λ byte. byte == 32) line)

-- whether these bytes can be a word of a line: there is one, and each is from 33 to 126
pub record IsWord (word : List ℕ) : Type 0 where
  pub some : 0 < length word
  pub visible : All (λ byte. (33 ≤ byte) × (byte ≤ 126)) word

-- whether a word begins with this byte
abbrev pub begins_with : ℕ → List ℕ → Bool
begins_with first [] = false
begins_with first (byte ∷ word) = byte == first

-- whether a line behind the header is passed over: it has no word, or its first one begins with `#`
abbrev pub is_passed_over : List (List ℕ) → Bool
is_passed_over [] = true
is_passed_over (word ∷ words) = begins_with 35 word

-- whether the words are these two
abbrev pub is_header : List ℕ → List ℕ → List (List ℕ) → Bool
is_header name version (first ∷ second ∷ []) = bytes_eq first name && bytes_eq second version
is_header name version _ = false
