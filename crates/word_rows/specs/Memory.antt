-- The words of a lane's table, and what they hold.
use Rattle.std.specs.Prelude.{◌≡◌, ◌≢◌, ℕ, List, length, slice_index, slice_set}
use Rattle.bq_model.specs.declared.shape.Shape.{Shape}
use Rattle.word_rows.specs.declared.location.Location.{Location}
use Rattle.word_rows.specs.declared.content.Content.{Content}
use Rattle.word_rows.specs.Sizes.{words_of}
use Rattle.word_rows.specs.Layout.{IsValid, index_of}
use Rattle.word_rows.specs.Contents.{coded}

-- the number that stands at a location
abbrev pub word_at : Shape → List ℕ → Location → ℕ
word_at s words l = slice_index words (index_of s l)

-- the words after a content was written at a location
abbrev pub words_after : Shape → List ℕ → Location → Content → List ℕ
words_after s words l x = slice_set words (index_of s l) (coded x)

-- the words are the lane's, and each is what its location holds, coded
pub record Shows (s : Shape) (words : List ℕ) (held : Location → Content) : Type 0 where
  pub long : length words ≡ words_of s
  pub each : (l : Location) → IsValid s l → word_at s words l ≡ coded (held l)

-- what the locations hold after a content was written at one of them
pub record Writes (old : Location → Content) (l : Location) (x : Content) (new : Location → Content) : Type 0 where
  pub here : new l ≡ x
  pub elsewhere : (k : Location) → k ≢ l → new k ≡ old k
