-- How often each different word stands in a list of words.
use Rattle.std.specs.Prelude.{ℕ, List, [], ◌∷◌, ◌++◌, map, count_by, codes, decimal}
use Rattle.std.specs.List.{join_with_byte}
use Rattle.std.specs.Cmp.Lexicographic.{slice_cmp}
use Rattle.std.specs.Ordering.{nat_cmp}
use Rattle.std.specs.declared.cmp.Ordering.{Ordering}
use Rattle.std.specs.Str.{bytes_eq}
use Rattle.std.specs.FinMap.{entries, from_entries}

-- the order of words by their bytes
abbrev pub byte_order : List ℕ → List ℕ → Ordering
byte_order = slice_cmp nat_cmp

-- how often a word stands there
abbrev pub places_of : List (List ℕ) → List ℕ → ℕ
places_of words word = count_by (bytes_eq word) words

-- each different word with how often it stands there, in byte order: the entries of the map from the words to that
abbrev pub word_counts : List (List ℕ) → List (List ℕ × ℕ)
word_counts words = entries (from_entries {R = byte_order} (map (λ word. (word, places_of words word)) words))

-- the different words, in byte order
abbrev pub different : List (List ℕ) → List (List ℕ)
different words = map (λ entry. entry.0) (word_counts words)

-- a word, `=` and its count
abbrev pub entry_text : List ℕ × ℕ → List ℕ
entry_text entry = entry.0 ++ codes "=" ++ decimal entry.1

-- entries, parted by one blank
abbrev pub entries_text : List (List ℕ × ℕ) → List ℕ
entries_text es = join_with_byte 32 (map entry_text es)

-- the counts, or `-` where there is no word
abbrev pub words_answer : List (List ℕ) → List ℕ
words_answer [] = codes "-"
words_answer (word ∷ words) = entries_text (word_counts (word ∷ words))
