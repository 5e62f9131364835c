-- The text of a history: the header `bqhist 1` or `bqhist 2`, the line `callers` with a number, and a line for each
-- group. A text of version 2 can tell of a queue that was shut.
use Rattle.std.specs.Prelude.{ℕ, ◌+◌, Bool, true, false, List, [], ◌∷◌, ◌++◌, length, sum_by, Option, None, Some, Result, Ok, Err, nat_le, codes, bytes_eq, if◌then◌else◌}
use Rattle.bq_model.specs.declared.fault.TextCause.{TextCause}
use Rattle.bq_model.specs.declared.fault.TextCause.TheVariants.{BadWord, TooMany}
use Rattle.bq_model.specs.declared.fault.TextFault.{TextFault}
use Rattle.text_lines.specs.Lines.{lines_of}
use Rattle.text_lines.specs.Number.{number_within}
use Rattle.text_lines.specs.Reading.{text_state, fault}
use Rattle.text_lines.specs.Parts.{or_bad_number, ◌>>=◌}
use Rattle.text_lines.specs.Words.{words_of, is_header}
use Rattle.trace_text.specs.declared.claim.Entry.{Entry}
use Rattle.trace_text.specs.Claims.{claims_of, entry_of}

-- the most callers, and the most operations
abbrev pub most_callers : ℕ
most_callers = 17

abbrev pub most_operations : ℕ
most_operations = 1000000

-- a history that is claimed: how many callers there are, and an entry for each group
pub record History : Type 0 where
  pub callers : ℕ
  pub entries : List Entry

-- what the lines so far say, in a text of version 2, or of version 1
pub record LinesSay : Type 0 where
  pub second : Bool
  pub callers : Option ℕ
  pub entries : List Entry

-- how many operations the entries have
abbrev pub operation_count : List Entry → ℕ
operation_count entries = sum_by (λ entry. length entry.claims) entries

-- a line `callers` with their number
abbrev pub callers_in : List (List ℕ) → Result ℕ TextCause
callers_in (word ∷ number ∷ []) = if bytes_eq word (codes "callers") then or_bad_number (number_within 1 most_callers number) else Err BadWord
callers_in _ = Err BadWord

-- behind the word `group` a caller, a batch number and operations
abbrev pub entry_in : Bool → ℕ → List (List ℕ) → Result Entry TextCause
entry_in second line (caller ∷ batch ∷ words) = claims_of second words >>= (λ claims. or_bad_number (entry_of line caller batch claims))
entry_in second line _ = Err BadWord

-- one more entry
abbrev pub add_entry : Bool → Option ℕ → List Entry → Entry → Result LinesSay TextCause
add_entry second callers entries entry =
    if nat_le (operation_count entries + length entry.claims) most_operations then Ok (record { second = second; callers = callers; entries = entries ++ entry ∷ [] })
    else Err TooMany

-- a line of a group
abbrev pub group_line : Bool → ℕ → Option ℕ → List Entry → List (List ℕ) → Result LinesSay TextCause
group_line second line callers entries [] = Err BadWord
group_line second line callers entries (word ∷ words) = if bytes_eq word (codes "group") then entry_in second line words >>= add_entry second callers entries else Err BadWord

-- the first line that isn't passed over has the callers, and each other one a group
abbrev pub line_in : Bool → Option ℕ → ℕ → List Entry → List (List ℕ) → Result LinesSay TextCause
line_in second None line entries words = callers_in words >>= (λ callers. Ok (record { second = second; callers = Some callers; entries = entries }))
line_in second (Some callers) line entries words = group_line second line (Some callers) entries words

-- what a line says, behind the header
abbrev pub meaning : ℕ → LinesSay → List (List ℕ) → Result LinesSay TextCause
meaning line say words = line_in say.second say.callers line say.entries words

-- before the first line
abbrev pub nothing_yet : Bool → LinesSay
nothing_yet second = record { second = second; callers = None; entries = [] }

-- the history of a text that ends before this line; without its callers it is none
abbrev pub history_at_end : ℕ → Option ℕ → List Entry → Result History TextFault
history_at_end line None entries = Err (fault line BadWord)
history_at_end line (Some callers) entries = Ok (record { callers = callers; entries = entries })

-- the word of the version in the header
abbrev pub version_word : Bool → List ℕ
version_word false = codes "1"
version_word true = codes "2"

-- whether the first of these lines is the header of version 2
abbrev pub begins_second : List (List ℕ) → Bool
begins_second [] = false
begins_second (line ∷ lines) = is_header (codes "bqhist") (codes "2") (words_of line)

-- whether a text is one of version 2; each other one is read as version 1
abbrev pub is_second : List ℕ → Bool
is_second text = begins_second (lines_of text)

-- what all lines of a text of this version say, or the fault of the first line with a fault
abbrev pub said_in : Bool → List ℕ → Result LinesSay TextFault
said_in second text = text_state (codes "bqhist") (version_word second) meaning (nothing_yet second) text

-- the same of a text by its own version
abbrev pub said_of : List ℕ → Result LinesSay TextFault
said_of text = said_in (is_second text) text

-- the history that a text is, or the text's one fault
abbrev pub hist_of : List ℕ → Result History TextFault
hist_of text = said_of text >>= (λ say. history_at_end (length (lines_of text) + 1) say.callers say.entries)
