-- How a stream is cut at its `go` lines.
use Rattle.std.specs.Prelude.{ℕ, Bool, false, List, [], ◌∷◌, ◌++◌, ◌==◌, codes, bytes_eq, if◌then◌else◌}
use Rattle.std.specs.List.{slice_split}
use Rattle.text_lines.specs.Words.{words_of}

-- whether these words are `go` alone
abbrev pub are_go : List (List ℕ) → Bool
are_go (word ∷ []) = bytes_eq word (codes "go")
are_go _ = false

-- whether a line has the word `go` and no other
abbrev pub is_go : List ℕ → Bool
is_go line = are_go (words_of line)

-- what the `go` lines that have their line feed leave of a stream
pub record Cut : Type 0 where
  -- of each such line, the bytes between the one before it and itself
  pub texts : List (List ℕ)
  -- behind the last of them: the lines that have a line feed,
  pub text : List ℕ
  -- and the line that has none
  pub line : List ℕ

-- one more text before the others
abbrev pub behind_go : List ℕ → Cut → Cut
behind_go text cut = record cut { texts = text ∷ cut.texts }

-- Lines follow a text in which no line is `go`. The last of them has no line feed.
abbrev pub cut_behind : List ℕ → List (List ℕ) → Cut
cut_behind text [] = record { texts = []; text = text; line = [] }
cut_behind text (line ∷ []) = record { texts = []; text = text; line = line }
cut_behind text (line ∷ next ∷ others) =
    if is_go line then behind_go text (cut_behind [] (next ∷ others))
    else cut_behind (text ++ line ++ 10 ∷ []) (next ∷ others)

-- the bytes before each line feed, and those behind the last one
abbrev pub parts_of : List ℕ → List (List ℕ)
parts_of bytes = slice_split (λ byte. byte == 10) bytes

abbrev pub cut : List ℕ → Cut
cut bytes = cut_behind [] (parts_of bytes)

-- the texts of a stream that ends here: its last line may be `go` with no line feed
abbrev pub texts_at_end : Cut → List (List ℕ)
texts_at_end cut = if is_go cut.line then cut.texts ++ cut.text ∷ [] else cut.texts

-- and the bytes behind its last `go` line
abbrev pub rest_at_end : Cut → List ℕ
rest_at_end cut = if is_go cut.line then [] else cut.text ++ cut.line
