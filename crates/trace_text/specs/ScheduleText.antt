-- The text of a schedule: the header `bqplay 1`, the line `shape` with five numbers, and lines that start commands and
-- make steps.
use Rattle.std.specs.Prelude.{ℕ, ◌+◌, ◌-◌, ◌^◌, Bool, ◌||◌, List, [], ◌∷◌, length, Option, None, Some, Result, Ok, Err, ◌==◌, nat_lt, codes, bytes_eq, option_map, option_and_then, if◌then◌else◌}
use Rattle.std.specs.List.{list_all}
use Rattle.bq_model.specs.declared.fault.TextCause.{TextCause}
use Rattle.bq_model.specs.declared.fault.TextCause.TheVariants.{BadWord}
use Rattle.bq_model.specs.declared.fault.TextFault.{TextFault}
use Rattle.bq_model.specs.declared.op.Op.{Op}
use Rattle.bq_model.specs.declared.op.Op.TheVariants.{Enq, Deq}
use Rattle.bq_model.specs.declared.shape.Shape.{Shape}
use Rattle.text_lines.specs.Lines.{lines_of}
use Rattle.text_lines.specs.Number.{number_of}
use Rattle.text_lines.specs.Reading.{text_state, fault}
use Rattle.text_lines.specs.Words.{begins_with}
use Rattle.text_lines.specs.Each.{each_of}
use Rattle.text_lines.specs.Parts.{or_bad_number, ◌>>=◌}
use Rattle.trace_text.specs.Kinds.{is_kind}
use Rattle.trace_text.specs.Played.{Playing, begun, ran}
use Rattle.trace_text.specs.Shapes.{shape_with}

-- the shape that these words are
abbrev pub shape_of : List ℕ → List ℕ → List ℕ → List ℕ → List ℕ → Option Shape
shape_of callers batch room allowance first =
    option_and_then (λ s. option_and_then (λ b. option_and_then (λ r. option_and_then (λ a. option_and_then (λ f.
    shape_with s b r a f) (number_of first)) (number_of allowance)) (number_of room)) (number_of batch)) (number_of callers)

-- a line `shape` with five numbers
abbrev pub shape_in : List (List ℕ) → Result Shape TextCause
shape_in (word ∷ callers ∷ batch ∷ room ∷ allowance ∷ first ∷ []) =
    if bytes_eq word (codes "shape") then or_bad_number (shape_of callers batch room allowance first) else Err BadWord
shape_in _ = Err BadWord

-- a caller of the lane
abbrev pub caller_of : Shape → List ℕ → Option ℕ
caller_of z word = option_and_then (λ c. if nat_lt c z.callers then Some c else None) (number_of word)

-- whether a word is `d`, or begins with `e`
abbrev pub is_op_word : List ℕ → Bool
is_op_word word = begins_with 101 word || bytes_eq word (codes "d")

-- the operation that such a word is
abbrev pub op_of : List ℕ → Option Op
op_of [] = None
op_of (letter ∷ rest) = if letter == 101 then option_map Enq (number_of rest) else Some Deq

-- a command has an operation
abbrev pub is_startable : List Op → Bool
is_startable ops = nat_lt 0 (length ops)

abbrev pub startable : List Op → Result (List Op) TextCause
startable ops = if is_startable ops then Ok ops else Err BadWord

-- the operations that words are; a wrong letter comes before a wrong number
abbrev pub op_words_of : List (List ℕ) → Result (List Op) TextCause
op_words_of words = if list_all is_op_word words then or_bad_number (each_of op_of words) else Err BadWord

-- the operations of a command
abbrev pub ops_of : List (List ℕ) → Result (List Op) TextCause
ops_of words = op_words_of words >>= startable

-- behind the word `start` a caller and operations
abbrev pub start_in : Playing → List (List ℕ) → Result Playing TextCause
start_in p (caller ∷ words) = ops_of words >>= (λ ops. or_bad_number (caller_of p.shape caller) >>= (λ c. begun p c ops))
start_in p _ = Err BadWord

-- behind the word `step` a caller and a number
abbrev pub step_in : Playing → List (List ℕ) → Result Playing TextCause
step_in p (caller ∷ number ∷ []) = or_bad_number (number_of number) >>= (λ n. or_bad_number (caller_of p.shape caller) >>= (λ c. ran [] n c p))
step_in p _ = Err BadWord

-- a limit that no schedule comes to
abbrev pub no_limit : ℕ
no_limit = 2 ^ 64 - 1

-- behind the word `until` a caller and a kind of step
abbrev pub until_in : Playing → List (List ℕ) → Result Playing TextCause
until_in p (caller ∷ kind ∷ []) = if is_kind kind then or_bad_number (caller_of p.shape caller) >>= (λ c. ran kind no_limit c p) else Err BadWord
until_in p _ = Err BadWord

-- behind the word `finish` a caller
abbrev pub finish_in : Playing → List (List ℕ) → Result Playing TextCause
finish_in p (caller ∷ []) = or_bad_number (caller_of p.shape caller) >>= (λ c. ran [] no_limit c p)
finish_in p _ = Err BadWord

-- a line behind that of the shape
abbrev pub command_in : Playing → List (List ℕ) → Result Playing TextCause
command_in p [] = Err BadWord
command_in p (word ∷ words) =
    if bytes_eq word (codes "start") then start_in p words
    else if bytes_eq word (codes "step") then step_in p words
    else if bytes_eq word (codes "until") then until_in p words
    else if bytes_eq word (codes "finish") then finish_in p words
    else Err BadWord

-- the first line that isn't passed over has the shape
abbrev pub play_line : Option Playing → List (List ℕ) → Result (Option Playing) TextCause
play_line None words = shape_in words >>= (λ z. Ok (Some (record { shape = z; events = [] })))
play_line (Some p) words = command_in p words >>= (λ after. Ok (Some after))

-- what a line does, behind the header
abbrev pub play_meaning : ℕ → Option Playing → List (List ℕ) → Result (Option Playing) TextCause
play_meaning line so_far words = play_line so_far words

-- the machine of a text that ends before this line; without a shape there is none
abbrev pub machine_at_end : ℕ → Option Playing → Result Playing TextFault
machine_at_end line None = Err (fault line BadWord)
machine_at_end line (Some p) = Ok p

-- the machine behind a schedule, or the text's one fault
abbrev pub play_of : List ℕ → Result Playing TextFault
play_of text = text_state (codes "bqplay") (codes "1") play_meaning None text >>= machine_at_end (length (lines_of text) + 1)
