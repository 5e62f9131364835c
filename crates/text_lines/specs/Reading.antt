-- What a text says, line by line, or its one fault. The lines behind the header have a meaning of their own in each
-- kind of text: what a state becomes by the words of the line with this number.
use Rattle.std.specs.Prelude.{◌≡◌, ℕ, ◌+◌, List, [], ◌∷◌, ◌++◌, length, Result, Ok, Err, ◌==◌, nat_le, if◌then◌else◌}
use Rattle.bq_model.specs.declared.fault.TextCause.{TextCause}
use Rattle.bq_model.specs.declared.fault.TextCause.TheVariants.{NotText, NoHeader, TooLong}
use Rattle.bq_model.specs.declared.fault.TextFault.{TextFault}
use Rattle.text_lines.specs.Lines.{lines_of, is_text}
use Rattle.text_lines.specs.Words.{words_of, is_passed_over, is_header}

-- the most bytes of a text
abbrev pub most_bytes : ℕ
most_bytes = 16777216

-- a cause at the line of this number
abbrev pub fault : ℕ → TextCause → TextFault
fault number cause = record { line = number; cause = cause }

-- what follows a line, or the line's fault
abbrev pub behind_line : {S T : Type 0} → ℕ → Result S TextCause → (S → Result T TextFault) → Result T TextFault
behind_line number (Ok state) next = next state
behind_line number (Err cause) next = Err (fault number cause)

-- the state behind the lines, of which the first has this number, or the first fault
abbrev pub read_lines : {S : Type 0} → (ℕ → S → List ℕ → Result S TextCause) → ℕ → S → List (List ℕ) → Result S TextFault
read_lines take_line number state [] = Ok state
read_lines take_line number state (line ∷ lines) = behind_line number (take_line number state line) (λ next. read_lines take_line (number + 1) next lines)

module _ {S : Type 0} (name version : List ℕ) (meaning : ℕ → S → List (List ℕ) → Result S TextCause) where
  -- line 1 is the header; behind it a line is passed over or has its meaning
  abbrev pub words_line : ℕ → S → List (List ℕ) → Result S TextCause
  words_line number state words =
      if number == 1 then (if is_header name version words then Ok state else Err NoHeader)
      else if is_passed_over words then Ok state
      else meaning number state words

  -- any line
  abbrev pub text_line : ℕ → S → List ℕ → Result S TextCause
  text_line number state line = if is_text line then words_line number state (words_of line) else Err NotText

  -- all lines: the empty text has none, and so no header
  abbrev pub whole_text : S → List (List ℕ) → Result S TextFault
  whole_text state [] = Err (fault 1 NoHeader)
  whole_text state (line ∷ lines) = read_lines text_line 1 state (line ∷ lines)

  -- the state behind a text, or its one fault
  abbrev pub text_state : S → List ℕ → Result S TextFault
  text_state state text = if nat_le (length text) most_bytes then whole_text state (lines_of text) else Err (fault 0 TooLong)

-- a fault is that of the first line with a fault: all lines before that one are taken, and it isn't
pub record IsFirstFault {S : Type 0} (take_line : ℕ → S → List ℕ → Result S TextCause) (number : ℕ) (state : S) (lines : List (List ℕ)) (found : TextFault) : Type 0 where
  pub before : List (List ℕ)
  pub line : List ℕ
  pub behind : List (List ℕ)
  pub reached : S
  pub lines_are : lines ≡ before ++ line ∷ behind
  pub number_is : found.line ≡ number + length before
  pub taken : read_lines take_line number state before ≡ Ok reached
  pub refused : take_line found.line reached line ≡ Err found.cause
