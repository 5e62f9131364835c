-- The lines of a text.
use Rattle.std.specs.Prelude.{ℕ, Bool, ◌&&◌, List, [], ◌∷◌, ◌==◌, nat_le}
use Rattle.std.specs.List.{slice_split, list_all}

-- all parts but the last, and the last one too if it has a byte
abbrev pub without_empty_end : List (List ℕ) → List (List ℕ)
without_empty_end [] = []
without_empty_end ([] ∷ []) = []
without_empty_end ((byte ∷ line) ∷ []) = (byte ∷ line) ∷ []
without_empty_end (line ∷ next ∷ others) = line ∷ without_empty_end (next ∷ others)

-- the bytes up to each line feed; bytes behind the last line feed are a line too
abbrev pub lines_of : List ℕ → List (List ℕ)
lines_of text = without_empty_end (slice_split (λ byte. byte == 10) text)

-- whether each byte of a line is between 32 and 126
abbrev pub is_text : List ℕ → Bool
is_text line = list_all (λ byte. nat_le 32 byte && nat_le byte 126) line
