-- What the words of a line claim of a group.
use Rattle.std.specs.Prelude.{ℕ, List, [], ◌∷◌, Bool, true, false, ◌||◌, Option, None, Some, Result, Ok, Err, option_map, option_and_then, ◌==◌, codes, bytes_eq, map, if◌then◌else◌}
use Rattle.std.specs.List.{list_all}
use Rattle.bq_model.specs.declared.op.Op.{Op}
use Rattle.bq_model.specs.declared.op.Op.TheVariants.{Enq, Deq, Shut}
use Rattle.bq_model.specs.declared.op.Answer.{Answer}
use Rattle.bq_model.specs.declared.op.Answer.TheVariants.{Done, Got, Empty, Refused}
use Rattle.bq_model.specs.declared.group.Group.{Group}
use Rattle.bq_model.specs.declared.fault.TextCause.{TextCause}
use Rattle.bq_model.specs.declared.fault.TextCause.TheVariants.{BadWord}
use Rattle.text_lines.specs.Number.{number_of}
use Rattle.trace_text.specs.declared.claim.Claim.{Claim}
use Rattle.trace_text.specs.declared.claim.Entry.{Entry}
use Rattle.text_lines.specs.Each.{each_of}
use Rattle.text_lines.specs.Parts.{or_bad_number}

infixl 10 ◌>>=◌
abbrev ◌>>=◌ : {A B : Type 0} → Option A → (A → Option B) → Option B
found >>= f = option_and_then f found

abbrev pub claim : Op → Answer → Claim
claim op answer = record { op = op; answer = answer }

-- an enqueue of a number was done
abbrev pub enqueue_of : List ℕ → Option Claim
enqueue_of number = option_map (λ v. claim (Enq v) Done) (number_of number)

-- an enqueue of a number was refused
abbrev pub refusal_of : List ℕ → Option Claim
refusal_of number = option_map (λ v. claim (Enq v) Refused) (number_of number)

-- a dequeue found nothing, or got a number
abbrev pub dequeue_of : List ℕ → Option Claim
dequeue_of word = if bytes_eq word (codes "-") then Some (claim Deq Empty) else option_map (λ v. claim Deq (Got v)) (number_of word)

-- whether an operation word begins with its letter: `e` or `d`, and in version 2 also `x`
abbrev pub has_letter : Bool → List ℕ → Bool
has_letter false [] = false
has_letter false (letter ∷ rest) = letter == 101 || letter == 100
has_letter true [] = false
has_letter true (letter ∷ rest) = letter == 101 || letter == 100 || letter == 120

-- what such a word claims
abbrev pub claim_of : List ℕ → Option Claim
claim_of [] = None
claim_of (letter ∷ rest) = if letter == 101 then enqueue_of rest else if letter == 120 then refusal_of rest else dequeue_of rest

-- what one or more operation words claim; a wrong letter comes before a wrong number
abbrev pub op_claims_of : Bool → List (List ℕ) → Result (List Claim) TextCause
op_claims_of second [] = Err BadWord
op_claims_of second (word ∷ words) = if list_all (has_letter second) (word ∷ words) then or_bad_number (each_of claim_of (word ∷ words)) else Err BadWord

-- a Shut, if these words behind it are none
abbrev pub shut_before : List (List ℕ) → Result (List Claim) TextCause
shut_before [] = Ok (claim Shut Done ∷ [])
shut_before (word ∷ words) = Err BadWord

-- what the words of a group claim; in version 2 also the word `s` alone, which is a Shut
abbrev pub claims_of : Bool → List (List ℕ) → Result (List Claim) TextCause
claims_of false words = op_claims_of false words
claims_of true [] = Err BadWord
claims_of true (word ∷ words) = if bytes_eq word (codes "s") then shut_before words else op_claims_of true (word ∷ words)

-- a group with these claims
abbrev pub entry_of : ℕ → List ℕ → List ℕ → List Claim → Option Entry
entry_of line caller batch claims = do
  by ← number_of caller
  number ← number_of batch
  Some (record { line = line; caller = by; batch = number; claims = claims })

-- the group that an entry is, and the answers that are claimed of it
abbrev pub group_of : Entry → Group
group_of entry = record { caller = entry.caller; batch = entry.batch; ops = map (λ c. c.op) entry.claims }

abbrev pub claimed : Entry → List Answer
claimed entry = map (λ c. c.answer) entry.claims
