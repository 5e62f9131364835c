-- The causes that apply to a whole line of a text.
use Rattle.std.specs.Prelude.{ℕ, List, [], ◌∷◌, ◌++◌, ◌==◌, if◌then◌else◌}
use Rattle.bq_model.specs.declared.fault.TextCause.{TextCause}
use Rattle.bq_model.specs.declared.fault.TextCause.TheVariants.{NotText, NoHeader}
use Rattle.text_lines.specs.Lines.{is_text}
use Rattle.text_lines.specs.Words.{words_of, is_passed_over, is_header}

-- a byte is below 32 or above 126
abbrev pub byte_causes : List ℕ → List TextCause
byte_causes line = if is_text line then [] else NotText ∷ []

module _ {S : Type 0} (name version : List ℕ) (applying : ℕ → S → List (List ℕ) → List TextCause) where
  -- line 1 has other words than the header, and behind it those that are told of the words of a line that isn't passed over
  abbrev pub word_causes : ℕ → S → List (List ℕ) → List TextCause
  word_causes number state words =
      if number == 1 then (if is_header name version words then [] else NoHeader ∷ [])
      else if is_passed_over words then []
      else applying number state words

  -- any line
  abbrev pub line_causes : ℕ → S → List ℕ → List TextCause
  line_causes number state line = byte_causes line ++ word_causes number state (words_of line)
