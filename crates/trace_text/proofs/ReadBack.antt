-- The printed lines of a history are read back.
use Rattle.std.proofs.Common.{◌≡◌, ◌≢◌, ℕ, suc, ◌+◌, ◌^◌, ◌<◌, ◌≤◌, ◌==◌, Bool, true, false, List, [], ◌∷◌, ◌++◌, length, map, None, Some, Result, Ok, refl, sym, ap, subst, ◌∙◌, arith, append_assoc, append-nil, add-zero, All, le-leb, codes, decimal, length-append}
use Rattle.std.specs.List.{join_with_byte, list_all}
use Rattle.std.specs.Str.{bytes_eq}
use Rattle.std.proofs.lemmas.Bool.{false_from_ne_true}
use Rattle.std.proofs.lemmas.Slice.Eq.{bytes_eq-Decides}
use Rattle.text_lines.specs.Number.{number_of}
use Rattle.std.proofs.lemmas.List.Sums.{sum_by_push, length-filter, count_by-le-length}
use Rattle.std.proofs.lemmas.List.Elements.{All-nil, All-cons, All-head, All-tail, All-append}
use Rattle.bq_model.specs.declared.fault.TextFault.{TextFault}
use Rattle.bq_model.specs.declared.op.Op.{Op}
use Rattle.bq_model.specs.declared.op.Op.TheVariants.{Enq, Deq, Shut}
use Rattle.bq_model.specs.declared.op.Answer.{Answer}
use Rattle.bq_model.specs.declared.group.Group.{Group}
use Rattle.bq_model.specs.Queue.{Queue, queue_of, queue_after, answer_at_queue}
use Rattle.bq_model.specs.Replay.{answers_from, queue_from}
use Rattle.bq_model.specs.History.{operations}
use Rattle.bq_model.specs.NoShut.{NoShut, NeverShut}
use Rattle.bq_model.specs.Proper.{IsProper}
use Rattle.bq_model.proofs.NoShuts.{NoShut-rest}
use Rattle.bq_model.proofs.OpenQueues.{shut_stays}
use Rattle.text_lines.specs.Words.{IsWord}
use Rattle.text_lines.specs.Reading.{read_lines, text_line}
use Rattle.text_lines.proofs.IsWordLemmas.{IsWord-from_test}
use Rattle.text_lines.proofs.PrintedLines.{AreWords, read_lines-joined}
use Rattle.text_lines.proofs.PrintedValues.{IsWord-decimal, number_of-decimal}
use Rattle.trace_text.specs.declared.claim.Claim.{Claim}
use Rattle.trace_text.specs.declared.claim.Entry.{Entry}
use Rattle.text_lines.specs.Each.{each_of}
use Rattle.trace_text.specs.Claims.{claim, has_letter, claim_of, claims_of}
use Rattle.trace_text.specs.HistoryText.{LinesSay, operation_count, most_operations, meaning}
use Rattle.trace_text.specs.Printed.{answer_word, op_words, group_words, group_lines}
use Rattle.trace_text.specs.Ranges.{IsNumber, IsOpInRange, IsGroupInRange}
use Rattle.trace_text.proofs.HistoryLemmas.{All-at, numbered-at}

-- the claims that a group on this queue makes, and its entry
abbrev pub claims_from : Queue → List Op → List Claim
claims_from q [] = []
claims_from q (op ∷ ops) = claim op (answer_at_queue q op) ∷ claims_from (queue_after q op) ops

abbrev pub entry_at : ℕ → Queue → Group → Entry
entry_at line q g = record { line = line; caller = g.caller; batch = g.batch; claims = claims_from q g.ops }

-- the entries of groups, of which the first is in this line and on this queue
abbrev pub entries_from : ℕ → Queue → List Group → List Entry
entries_from line q [] = []
entries_from line q (g ∷ h) = entry_at line q g ∷ entries_from (line + 1) (queue_from q g.ops) h

-- ---- the values stay numbers

after-numbers : (b : Bool) (values : List ℕ) (op : Op) → All IsNumber values → IsOpInRange op → All IsNumber (queue_after (queue_of values b) op).values
after-numbers true values (Enq v) numbers small = numbers
after-numbers false values (Enq v) numbers small = All-append IsNumber values (v ∷ []) numbers (All-cons IsNumber v [] small (All-nil IsNumber))
after-numbers b [] Deq numbers small = All-nil IsNumber
after-numbers b (v ∷ values) Deq numbers small = All-tail IsNumber v values numbers
after-numbers b values Shut numbers small = numbers

queue_after-numbers : (q : Queue) (op : Op) → All IsNumber q.values → IsOpInRange op → All IsNumber (queue_after q op).values
queue_after-numbers q op numbers small = after-numbers q.shut q.values op numbers small

-- ---- the queue stays open

open-after : (q : Queue) (op : Op) (ops : List Op) → NoShut (op ∷ ops) → q.shut ≡ false → (queue_after q op).shut ≡ false
open-after q (Enq v) ops none off = off
open-after q Deq ops none off = off
open-after q Shut ops none off = absurd none

queue_from-numbers : (q : Queue) (ops : List Op) → All IsNumber q.values → All IsOpInRange ops → All IsNumber (queue_from q ops).values
queue_from-numbers q [] numbers small = numbers
queue_from-numbers q (op ∷ ops) numbers small =
    queue_from-numbers (queue_after q op) ops (queue_after-numbers q op numbers (All-head IsOpInRange op ops small)) (All-tail IsOpInRange op ops small)

-- ---- one operation

IsWord-lettered : (letter : ℕ) (word : List ℕ) → 33 ≤ letter → letter ≤ 126 → IsWord word → IsWord (letter ∷ word)
IsWord-lettered letter word low high is = record { some = omega arith; visible = All-cons (λ byte. (33 ≤ byte) × (byte ≤ 126)) letter word (low, high) is.visible }

IsWord-answer : (b : Bool) (values : List ℕ) (op : Op) → All IsNumber values → IsOpInRange op → IsWord (answer_word op (answer_at_queue (queue_of values b) op))
IsWord-answer true values (Enq v) numbers small = IsWord-lettered 120 (decimal v) (omega arith) (omega arith) (IsWord-decimal v small)
IsWord-answer false values (Enq v) numbers small = IsWord-lettered 101 (decimal v) (omega arith) (omega arith) (IsWord-decimal v small)
IsWord-answer b [] Deq numbers small = IsWord-from_test (codes "d-") refl
IsWord-answer b (v ∷ values) Deq numbers small = IsWord-lettered 100 (decimal v) (omega arith) (omega arith) (IsWord-decimal v (All-head IsNumber v values numbers))
IsWord-answer b values Shut numbers small = IsWord-from_test (codes "s") refl

-- a number is no dash: a dash is no number
no_dash : (word : List ℕ) (n : ℕ) → number_of word ≡ Some n → bytes_eq word (codes "-") ≡ false
no_dash word n is = false_from_ne_true _ (λ dash. (let same : word ≡ codes "-" = (bytes_eq-Decides word (codes "-")).0 dash in let none : number_of (codes "-") ≡ None = refl in cc))

claim_of-answer : (b : Bool) (values : List ℕ) (op : Op) (ops : List Op) → NoShut (op ∷ ops) → All IsNumber values → IsOpInRange op
    → claim_of (answer_word op (answer_at_queue (queue_of values b) op)) ≡ Some (claim op (answer_at_queue (queue_of values b) op))
claim_of-answer true values (Enq v) ops none numbers small = let is = number_of-decimal v small in rw is refl
claim_of-answer false values (Enq v) ops none numbers small = let is = number_of-decimal v small in rw is refl
claim_of-answer b [] Deq ops none numbers small = refl
claim_of-answer b (v ∷ values) Deq ops none numbers small =
    let is = number_of-decimal v (All-head IsNumber v values numbers) in
    let dash = no_dash (decimal v) v is in
    rw (dash, is) refl
claim_of-answer b values Shut ops none numbers small = absurd none

has_letter-answer : (b : Bool) (values : List ℕ) (op : Op) (ops : List Op) → NoShut (op ∷ ops) → b ≡ false → has_letter false (answer_word op (answer_at_queue (queue_of values b) op)) ≡ true
has_letter-answer true values (Enq v) ops none off = absurd (cc off)
has_letter-answer false values (Enq v) ops none off = refl
has_letter-answer b [] Deq ops none off = refl
has_letter-answer b (v ∷ values) Deq ops none off = refl
has_letter-answer b values Shut ops none off = absurd none

-- ---- the operations of a group

AreWords-ops : (q : Queue) (ops : List Op) → All IsNumber q.values → All IsOpInRange ops → AreWords (op_words q ops)
AreWords-ops q [] numbers small = All-nil IsWord
AreWords-ops q (op ∷ ops) numbers small =
    let here = All-head IsOpInRange op ops small in
    All-cons IsWord (answer_word op (answer_at_queue q op)) (op_words (queue_after q op) ops) (IsWord-answer q.shut q.values op numbers here)
    (AreWords-ops (queue_after q op) ops (queue_after-numbers q op numbers here) (All-tail IsOpInRange op ops small))

letters-ops : (q : Queue) (ops : List Op) → NoShut ops → q.shut ≡ false → list_all (has_letter false) (op_words q ops) ≡ true
letters-ops q [] none off = refl
letters-ops q (op ∷ ops) none off = let here = has_letter-answer q.shut q.values op ops none off in rw here (letters-ops (queue_after q op) ops (NoShut-rest op ops none) (open-after q op ops none off))

each_of-ops : (q : Queue) (ops : List Op) → NoShut ops → All IsNumber q.values → All IsOpInRange ops → each_of claim_of (op_words q ops) ≡ Some (claims_from q ops)
each_of-ops q [] none numbers small = refl
each_of-ops q (op ∷ ops) none numbers small =
    let in_range = All-head IsOpInRange op ops small in
    let here = claim_of-answer q.shut q.values op ops none numbers in_range in
    let later = each_of-ops (queue_after q op) ops (NoShut-rest op ops none) (queue_after-numbers q op numbers in_range) (All-tail IsOpInRange op ops small) in
    rw (here, later) refl

claims_of-ops : (q : Queue) (ops : List Op) → ops ≢ [] → NoShut ops → q.shut ≡ false → All IsNumber q.values → All IsOpInRange ops → claims_of false (op_words q ops) ≡ Ok (claims_from q ops)
claims_of-ops q [] some none off numbers small = absurd (some refl)
claims_of-ops q (op ∷ ops) some none off numbers small =
    let letters = letters-ops q (op ∷ ops) none off in
    let each = each_of-ops q (op ∷ ops) none numbers small in
    rw (letters, each) refl

-- what is read is what was printed
pub ops_of-claims : (q : Queue) (ops : List Op) → map (λ (c : Claim). c.op) (claims_from q ops) ≡ ops
ops_of-claims q [] = refl
ops_of-claims q (op ∷ ops) = ap (λ (rest : List Op). op ∷ rest) (ops_of-claims (queue_after q op) ops)

pub answers_of-claims : (q : Queue) (ops : List Op) → map (λ (c : Claim). c.answer) (claims_from q ops) ≡ answers_from q ops
answers_of-claims q [] = refl
answers_of-claims q (op ∷ ops) = ap (λ (rest : List Answer). answer_at_queue q op ∷ rest) (answers_of-claims (queue_after q op) ops)

pub length-claims : (q : Queue) (ops : List Op) → length (claims_from q ops) ≡ length ops
length-claims q [] = refl
length-claims q (op ∷ ops) = ap suc (length-claims (queue_after q op) ops)

-- ---- the line of a group

abbrev pub joined : List (List (List ℕ)) → List (List ℕ)
joined lines = map (join_with_byte 32) lines

abbrev pub read_from : ℕ → LinesSay → List (List ℕ) → Result LinesSay TextFault
read_from = read_lines (text_line (codes "bqhist") (codes "1") meaning)

abbrev pub said : ℕ → List Entry → LinesSay
said callers entries = record { second = false; callers = Some callers; entries = entries }

-- what of a group and of its queue is in the range of a text
record IsPrintable (q : Queue) (g : Group) : Type 0 where
  caller : IsNumber g.caller
  batch : IsNumber g.batch
  filled : g.ops ≢ []
  plain : NoShut g.ops
  off : q.shut ≡ false
  queue : All IsNumber q.values
  ops : IsGroupInRange g

AreWords-group : (q : Queue) (g : Group) → IsPrintable q g → AreWords (group_words q g)
AreWords-group q g is =
    All-cons IsWord (codes "group") (decimal g.caller ∷ decimal g.batch ∷ op_words q g.ops) (IsWord-from_test (codes "group") refl)
    (All-cons IsWord (decimal g.caller) (decimal g.batch ∷ op_words q g.ops) (IsWord-decimal g.caller is.caller)
    (All-cons IsWord (decimal g.batch) (op_words q g.ops) (IsWord-decimal g.batch is.batch) (AreWords-ops q g.ops is.queue is.ops)))

group_said : (line callers : ℕ) (entries : List Entry) (q : Queue) (g : Group) → IsPrintable q g → operation_count entries + length g.ops ≤ most_operations
    → meaning line (said callers entries) (group_words q g) ≡ Ok (said callers (entries ++ entry_at line q g ∷ []))
group_said line callers entries q g is few =
    let claims = claims_of-ops q g.ops is.filled is.plain is.off is.queue is.ops in
    let caller = number_of-decimal g.caller is.caller in
    let batch = number_of-decimal g.batch is.batch in
    let as_many = length-claims q g.ops in
    let room = le-leb (operation_count entries + length (claims_from q g.ops)) most_operations (omega arith) in
    rw (claims, caller, batch, room) refl

-- ---- the lines of all groups

printable : (callers : ℕ) (before h : List Group) (q : Queue) (g : Group) → IsProper callers (before ++ g ∷ h) → callers ≤ 17 → length before + length (g ∷ h) < 2 ^ 64 → IsGroupInRange g → NoShut g.ops → q.shut ≡ false → All IsNumber q.values → IsPrintable q g
printable callers before h q g proper few short in_range plain off numbers =
    let known = All-at (λ (x : Group). x.caller < callers) before h g proper.known in
    let place = numbered-at callers before h g proper in
    let mine_are : Group → Bool = λ x. x.caller == g.caller in
    record {
      caller = omega arith;
      batch = omega (arith, length-filter mine_are before, count_by-le-length mine_are before);
      filled = All-at (λ (x : Group). x.ops ≢ []) before h g proper.filled;
      plain = plain;
      off = off;
      queue = numbers;
      ops = in_range;
    }

pub AreWords-groups : (h before : List Group) (q : Queue) (callers : ℕ) → IsProper callers (before ++ h) → callers ≤ 17 → length before + length h < 2 ^ 64 → All IsGroupInRange h → NeverShut h → q.shut ≡ false → All IsNumber q.values → All AreWords (group_lines q h)
AreWords-groups [] before q callers proper few short ranges never off numbers = All-nil AreWords
AreWords-groups (g ∷ h) before q callers proper few short ranges never off numbers =
    let P : List Group → Type 0 = IsProper callers in
    let in_range = All-head IsGroupInRange g h ranges in
    let longer = length-append before (g ∷ []) in
    let plain = All-head (λ (x : Group). NoShut x.ops) g h never in
    All-cons AreWords (group_words q g) (group_lines (queue_from q g.ops) h) (AreWords-group q g (printable callers before h q g proper few short in_range plain off numbers))
    (AreWords-groups h (before ++ g ∷ []) (queue_from q g.ops) callers (subst P (sym (append_assoc before (g ∷ []) h)) proper) few (omega arith) (All-tail IsGroupInRange g h ranges) (All-tail (λ (x : Group). NoShut x.ops) g h never) (shut_stays q g.ops plain ∙ off) (queue_from-numbers q g.ops numbers in_range))

pub reads_groups : (h before : List Group) (q : Queue) (number callers : ℕ) (entries : List Entry) (rest : List (List ℕ)) → IsProper callers (before ++ h) → callers ≤ 17 → length before + length h < 2 ^ 64 → All IsGroupInRange h → NeverShut h
    → q.shut ≡ false → All IsNumber q.values → 2 ≤ number → operation_count entries + length (operations h) ≤ most_operations
    → read_from number (said callers entries) (joined (group_lines q h) ++ rest) ≡ read_from (number + length h) (said callers (entries ++ entries_from number q h)) rest
reads_groups [] before q number callers entries rest proper few short ranges never off numbers behind count =
    ap (λ n. read_from n (said callers entries) rest) (sym (add-zero number)) ∙ ap (λ (es : List Entry). read_from (number + 0) (said callers es) rest) (sym (append-nil entries))
reads_groups (g ∷ h) before q number callers entries rest proper few short ranges never off numbers behind count =
    let P : List Group → Type 0 = IsProper callers in
    let in_range = All-head IsGroupInRange g h ranges in
    let plain = All-head (λ (x : Group). NoShut x.ops) g h never in
    let is = printable callers before h q g proper few short in_range plain off numbers in
    let longer = length-append before (g ∷ []) in
    let ops_are = length-append g.ops (operations h) in
    let more = entries ++ entry_at number q g ∷ [] in
    let next = queue_from q g.ops in
    let grown = sum_by_push (λ (e : Entry). length e.claims) entries (entry_at number q g) in
    let as_many = length-claims q g.ops in
    let counted : number + 1 + length h ≡ number + length (g ∷ h) = omega arith in
    read_lines-joined (codes "bqhist") (codes "1") meaning number (said callers entries) (said callers more) (group_words q g) (joined (group_lines next h) ++ rest) (AreWords-group q g is) behind refl
    (group_said number callers entries q g is (omega arith))
    ∙ (reads_groups h (before ++ g ∷ []) next (number + 1) callers more rest (subst P (sym (append_assoc before (g ∷ []) h)) proper) few (omega arith) (All-tail IsGroupInRange g h ranges) (All-tail (λ (x : Group). NoShut x.ops) g h never) (shut_stays q g.ops plain ∙ off) (queue_from-numbers q g.ops numbers in_range)
    (omega arith) (omega arith)
    ∙ (ap (λ n. read_from n (said callers (more ++ entries_from (number + 1) next h)) rest) counted
    ∙ ap (λ (es : List Entry). read_from (number + length (g ∷ h)) (said callers es) rest) (append_assoc entries (entry_at number q g ∷ []) (entries_from (number + 1) next h))))
