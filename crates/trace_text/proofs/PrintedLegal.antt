-- The text of a machine is found legal.
use Rattle.std.proofs.Common.{◌≡◌, ◌≢◌, ℕ, zero, suc, ◌+◌, ◌<◌, ◌≤◌, Bool, true, false, not, List, [], ◌∷◌, ◌++◌, length, map, flat_map, Result, Ok, Err, IfOk, OnOk, refl, sym, ap, subst, ◌∙◌, arith, All, le-leb, codes, decimal, length-append, ◌==◌, ne_eqb}
use Rattle.std.specs.List.{join_with_byte, range_with_len}
use Rattle.std.proofs.lemmas.List.Sums.{sum_by-cons}
use Rattle.text_lines.specs.Lines.{lines_of}
use Rattle.std.proofs.lemmas.List.{map-append}
use Rattle.std.proofs.lemmas.List.Elements.{All-nil, All-cons, All-head, All-tail, All-append, All-map, All-filter, All-weaker}
use Rattle.bq_model.specs.declared.error.Refusal.TheVariants.{Spent, Full}
use Rattle.bq_model.specs.declared.fault.TextCause.{TextCause}
use Rattle.bq_model.specs.declared.fault.TextFault.{TextFault}
use Rattle.bq_model.specs.declared.op.Op.{Op}
use Rattle.bq_model.specs.declared.group.Group.{Group}
use Rattle.bq_model.specs.NoShut.{NeverShut}
use Rattle.bq_model.specs.Queue.{Queue, unshut}
use Rattle.bq_model.specs.Replay.{answers_from, queue_from}
use Rattle.bq_model.specs.History.{operations, answers_of}
use Rattle.bq_model.specs.Proper.{IsProper}
use Rattle.bq_model.proofs.Histories.{answers_from-append}
use Rattle.text_lines.specs.Words.{IsWord, is_passed_over, is_header}
use Rattle.text_lines.specs.Reading.{read_lines, behind_line, words_line, text_line}
use Rattle.text_lines.specs.Parts.{◌>>=◌}
use Rattle.text_lines.proofs.IsWordLemmas.{IsWord-from_test, is_text-joined}
use Rattle.text_lines.proofs.PrintedLines.{AreWords, read_lines-joined, words_of-joined, lines_of-printed, text_state-printed}
use Rattle.text_lines.proofs.PrintedValues.{IsWord-decimal, number_of-decimal}
use Rattle.trace_text.specs.declared.claim.Entry.{Entry}
use Rattle.trace_text.specs.declared.play.Refused.{Refused}
use Rattle.trace_text.specs.declared.verdict.Verdict.TheVariants.{Legal}
use Rattle.trace_text.specs.Claims.{claimed}
use Rattle.trace_text.specs.HistoryText.{LinesSay, operation_count, meaning, nothing_yet, begins_second, is_second, said_in, history_at_end}
use Rattle.trace_text.specs.Legal.{IsLegal}
use Rattle.trace_text.specs.Played.{Playing, state_of, refusals_of, is_idle}
use Rattle.trace_text.specs.Printed.{group_lines, refused_line, reason_word, unfinished_line, unfinished, comment_lines, play_text}
use Rattle.trace_text.specs.Ranges.{IsNumber, IsGroupInRange, IsRefusedInRange, IsFoundLegal}
use Rattle.trace_text.specs.Verdicts.{groups_of, verdict_of, verdict_with}
use Rattle.trace_text.proofs.LegalLemmas.{none_from_legal}
use Rattle.trace_text.proofs.ReadBack.{entry_at, entries_from, ops_of-claims, answers_of-claims, length-claims, joined, read_from, said, AreWords-groups, reads_groups}

-- ---- comments

AreWords-refused : (r : Refused) → IsRefusedInRange r → AreWords (refused_line r)
AreWords-refused r small =
    All-cons IsWord (codes "#") (codes "refused" ∷ decimal r.caller ∷ reason_word r.reason ∷ []) (IsWord-from_test (codes "#") refl)
    (All-cons IsWord (codes "refused") (decimal r.caller ∷ reason_word r.reason ∷ []) (IsWord-from_test (codes "refused") refl)
    (All-cons IsWord (decimal r.caller) (reason_word r.reason ∷ []) (IsWord-decimal r.caller small) (All-cons IsWord (reason_word r.reason) [] (reason_is r.reason) (All-nil IsWord))))
  where
    reason_is : (reason : _) → IsWord (reason_word reason)
    reason_is Spent = IsWord-from_test (codes "spent") refl
    reason_is Full = IsWord-from_test (codes "full") refl

AreWords-unfinished : (c : ℕ) → IsNumber c → AreWords (unfinished_line c)
AreWords-unfinished c small =
    All-cons IsWord (codes "#") (codes "unfinished" ∷ decimal c ∷ []) (IsWord-from_test (codes "#") refl)
    (All-cons IsWord (codes "unfinished") (decimal c ∷ []) (IsWord-from_test (codes "unfinished") refl) (All-cons IsWord (decimal c) [] (IsWord-decimal c small) (All-nil IsWord)))

abbrev IsComment : List (List ℕ) → Type 0
IsComment words = AreWords words × (is_passed_over words ≡ true)

reads_comments : (lines : List (List (List ℕ))) (number : ℕ) (say : LinesSay) → All IsComment lines → 2 ≤ number → read_from number say (joined lines) ≡ Ok say
reads_comments [] number say are behind = refl
reads_comments (line ∷ lines) number say are behind =
    let here = All-head IsComment line lines are in
    let take_line = text_line (codes "bqhist") (codes "1") meaning in
    let text = is_text-joined line here.0 in
    let words = words_of-joined line here.0 in
    let later : (number == 1) ≡ false = ne_eqb number 1 (λ same. absurd (omega arith)) in
    let passed = here.1 in
    let taken : words_line (codes "bqhist") (codes "1") meaning number say line ≡ Ok say = rw (later, passed) refl in
    let whole : take_line number say (join_with_byte 32 line) ≡ Ok say = rw text (ap (words_line (codes "bqhist") (codes "1") meaning number say) words ∙ taken) in
    ap (λ (r : Result LinesSay TextCause). behind_line number r (λ after. read_lines take_line (number + 1) after (joined lines))) whole ∙ reads_comments lines (number + 1) say (All-tail IsComment line lines are) (omega arith)

range-below : (a n top : ℕ) → a + n ≤ top → All (λ c. c < top) (range_with_len a n)
range-below a zero top within = All-nil (λ c. c < top)
range-below a (suc n) top within = All-cons (λ c. c < top) a (range_with_len (a + 1) n) (omega arith) (range-below (a + 1) n top (omega arith))

AreComments : (p : Playing) → All IsRefusedInRange (refusals_of p) → p.shape.callers ≤ 17 → All IsComment (comment_lines p)
AreComments p refused few =
    let idle : ℕ → Bool = λ c. not (is_idle (state_of p) c) in
    let callers = All-filter idle (λ c. c < 17) (range_with_len 0 p.shape.callers) (range-below 0 p.shape.callers 17 (omega arith)) in
    All-append IsComment (map refused_line (refusals_of p)) (map unfinished_line (unfinished p))
    (All-map IsComment refused_line (refusals_of p) (All-weaker IsRefusedInRange (λ r. IsComment (refused_line r)) (λ r small. (AreWords-refused r small, refl)) (refusals_of p) refused))
    (All-map IsComment unfinished_line (unfinished p) (All-weaker (λ c. c < 17) (λ c. IsComment (unfinished_line c)) (λ c low. (AreWords-unfinished c (omega arith), refl)) (unfinished p) callers))

-- ---- the entries that are read

groups_of-entries : (h : List Group) (line : ℕ) (q : Queue) → groups_of (entries_from line q h) ≡ h
groups_of-entries [] line q = refl
groups_of-entries (g ∷ h) line q =
    let ops = ops_of-claims q g.ops in
    let rest = groups_of-entries h (line + 1) (queue_from q g.ops) in
    λ i. record { caller = g.caller; batch = g.batch; ops = ops i } ∷ rest i

answers_of-entries : (h : List Group) (line : ℕ) (q : Queue) → flat_map claimed (entries_from line q h) ≡ answers_from q (operations h)
answers_of-entries [] line q = refl
answers_of-entries (g ∷ h) line q =
    let here = answers_of-claims q g.ops in
    let rest = answers_of-entries h (line + 1) (queue_from q g.ops) in
    (λ i. here i ++ rest i) ∙ sym (answers_from-append q g.ops (operations h))

length-entries : (h : List Group) (line : ℕ) (q : Queue) → length (entries_from line q h) ≡ length h
length-entries [] line q = refl
length-entries (g ∷ h) line q = ap suc (length-entries h (line + 1) (queue_from q g.ops))

count-entries : (h : List Group) (line : ℕ) (q : Queue) → operation_count (entries_from line q h) ≡ length (operations h)
count-entries [] line q = refl
count-entries (g ∷ h) line q =
    let here = length-claims q g.ops in
    let rest = count-entries h (line + 1) (queue_from q g.ops) in
    let parts = length-append g.ops (operations h) in
    let counted = sum_by-cons (λ (e : Entry). length e.claims) (entry_at line q g) (entries_from (line + 1) (queue_from q g.ops) h) in
    omega arith

-- a history with a group in each place has as many operations
filled-count : (h : List Group) → All (λ g. g.ops ≢ []) h → length h ≤ length (operations h)
filled-count [] filled = omega arith
filled-count (g ∷ h) filled =
    let rest = filled-count h (All-tail (λ (x : Group). x.ops ≢ []) g h filled) in
    let parts = length-append g.ops (operations h) in
    let some = some_ops g.ops (All-head (λ (x : Group). x.ops ≢ []) g h filled) in
    omega arith
  where
    some_ops : (ops : List Op) → ops ≢ [] → 1 ≤ length ops
    some_ops [] some = absurd (some refl)
    some_ops (op ∷ ops) some = omega arith

-- ---- the whole text

pub play_text-legal : (p : Playing) → IsProper p.shape.callers (state_of p).history → NeverShut (state_of p).history → All IsGroupInRange (state_of p).history → All IsRefusedInRange (refusals_of p) → IsFoundLegal (state_of p).history (play_text p)
play_text-legal p proper never ranges refused short few =
    let h = (state_of p).history in
    let callers = p.shape.callers in
    let low = p.shape.some_callers in
    let comments = AreComments p refused low.1 in
    let groups = group_lines (unshut []) h in
    let callers_line : List (List ℕ) = codes "callers" ∷ decimal callers ∷ [] in
    let callers_are : AreWords callers_line = All-cons IsWord (codes "callers") (decimal callers ∷ []) (IsWord-from_test (codes "callers") refl) (All-cons IsWord (decimal callers) [] (IsWord-decimal callers (omega arith)) (All-nil IsWord)) in
    let as_many = filled-count h proper.filled in
    let comment_words = All-weaker IsComment AreWords (λ line is. is.0) (comment_lines p) comments in
    let lines_are = All-cons AreWords callers_line (groups ++ comment_lines p) callers_are (All-append AreWords groups (comment_lines p) (AreWords-groups h [] (unshut []) callers proper low.1 (omega arith) ranges never refl (All-nil IsNumber)) comment_words) in
    let number = number_of-decimal callers (omega arith) in
    let least = le-leb 1 callers low.0 in
    let most = le-leb callers 17 low.1 in
    let callers_said : meaning 2 (nothing_yet false) callers_line ≡ Ok (said callers []) = rw (number, least, most) refl in
    let header_words : AreWords (codes "bqhist" ∷ codes "1" ∷ []) = All-cons IsWord (codes "bqhist") (codes "1" ∷ []) (IsWord-from_test (codes "bqhist") refl) (All-cons IsWord (codes "1") [] (IsWord-from_test (codes "1") refl) (All-nil IsWord)) in
    let entries = entries_from 3 (unshut []) h in
    let read = text_state-printed (codes "bqhist") (codes "1") meaning (nothing_yet false) (callers_line ∷ (groups ++ comment_lines p)) (IsWord-from_test (codes "bqhist") refl) (IsWord-from_test (codes "1") refl) lines_are short
    ∙ (read_lines-joined (codes "bqhist") (codes "1") meaning 2 (nothing_yet false) (said callers []) callers_line (joined (groups ++ comment_lines p)) callers_are (omega arith) refl callers_said
    ∙ (ap (read_from 3 (said callers [])) (map-append (join_with_byte 32) groups (comment_lines p))
    ∙ (reads_groups h [] (unshut []) 3 callers [] (joined (comment_lines p)) proper low.1 (omega arith) ranges never refl (All-nil IsNumber) (omega arith) (omega arith)
    ∙ reads_comments (comment_lines p) (3 + length h) (said callers entries) comments (omega arith)))) in
    let groups_are = groups_of-entries h 3 (unshut []) in
    let P : List Group → Type 0 = IsProper callers in
    let legal : IsLegal callers entries = record { proper = subst P (sym groups_are) proper; answered = answers_of-entries h 3 (unshut []) ∙ ap answers_of (sym groups_are) } in
    let none = none_from_legal callers entries legal in
    let verdict : verdict_of (record { callers = callers; entries = entries }) ≡ Legal (length h) (length (operations h)) =
    ap (verdict_with entries) none ∙ (λ i. Legal (length-entries h 3 (unshut []) i) (count-entries h 3 (unshut []) i)) in
    let lines_are_read : List (List (List ℕ)) = callers_line ∷ (groups ++ comment_lines p) in
    let first : is_second (play_text p) ≡ false = ap begins_second (lines_of-printed ((codes "bqhist" ∷ codes "1" ∷ []) ∷ lines_are_read) (All-cons AreWords (codes "bqhist" ∷ codes "1" ∷ []) lines_are_read header_words lines_are))
    ∙ ap (is_header (codes "bqhist") (codes "2")) (words_of-joined (codes "bqhist" ∷ codes "1" ∷ []) header_words) in
    ap (λ (r : Result LinesSay TextFault). (r >>= (λ say. history_at_end (length (lines_of (play_text p)) + 1) say.callers say.entries)) >>= (λ history. Ok (verdict_of history)))
    (ap (λ (second : Bool). said_in second (play_text p)) first ∙ read) ∙ ap Ok verdict

-- the same of what a printer gives
pub printed-legal : {E : Type 0} (p : Playing) (printed : Result (List ℕ) E) → IfOk printed (λ text. text ≡ play_text p) → OnOk printed (IsProper p.shape.callers (state_of p).history)
    → OnOk printed (NeverShut (state_of p).history) → OnOk printed (All IsGroupInRange (state_of p).history) → OnOk printed (All IsRefusedInRange (refusals_of p)) → IfOk printed (λ text. IsFoundLegal (state_of p).history text)
printed-legal p (Ok text) is proper never ranges refused = let P : List ℕ → Type 0 = λ t. IsFoundLegal (state_of p).history t in subst P (sym is) (play_text-legal p proper never ranges refused)
printed-legal p (Err error) is proper never ranges refused = tt
