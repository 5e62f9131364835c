-- The lines of units in canonical form are read back.
use Rattle.std.proofs.Common.{◌≡◌, ℕ, ◌+◌, ◌<◌, ◌≤◌, false, List, [], ◌∷◌, ◌++◌, length, Some, None, Result, Ok, refl, sym, ap, ◌∙◌, arith, append_assoc, append-nil, add-zero, All, map, flat_map, nat_le, leb-true, codes, decimal, length-append}
use Rattle.std.specs.List.{join_with_byte}
use Rattle.std.proofs.lemmas.Bool.{false_from_ne_true}
use Rattle.std.proofs.lemmas.List.{map-append}
use Rattle.std.proofs.lemmas.List.Sums.{sum_by-cons}
use Rattle.std.proofs.lemmas.List.Elements.{All-nil, All-cons, All-head, All-tail, All-append}
use Rattle.bq_model.specs.declared.fault.TextCause.{TextCause}
use Rattle.bq_model.specs.declared.fault.TextFault.{TextFault}
use Rattle.text_lines.specs.Words.{IsWord}
use Rattle.text_lines.specs.Reading.{read_lines, text_line, most_bytes}
use Rattle.text_lines.specs.Parts.{◌>>=◌}
use Rattle.text_lines.proofs.IsWordLemmas.{IsWord-from_test}
use Rattle.text_lines.proofs.PrintedLines.{AreWords, read_lines-joined, text_state-printed}
use Rattle.text_lines.proofs.PrintedValues.{IsWord-decimal}
use Rattle.job_work.specs.declared.job.Job.{Job}
use Rattle.job_text.specs.declared.file.Unit.{Unit}
use Rattle.job_text.specs.JobFile.{IsInRange, IsUnit, IsJobFile, job_count, most_jobs, most_lane, most_in_unit}
use Rattle.job_text.specs.Grammar.{LinesSay, meaning, unit_of, nothing_yet, jobs_of, units_at_end}
use Rattle.job_text.specs.Canon.{canon, job_words, put_line, block_lines, lane_lines, unit_lines}
use Rattle.job_text.proofs.RangeLemmas.{job_count-more_jobs}
use Rattle.job_text.proofs.CanonWords.{AreWords-job_words, job_of-job_words, lane_of-decimal}

-- what the units so far say outside a block
abbrev outside_block : List Unit → LinesSay
outside_block units = record { units = units; block = None }

-- the same inside a block of these jobs
abbrev inside_block : List Unit → ℕ → ℕ → List Job → LinesSay
inside_block units line lane jobs = record { units = units; block = Some (record { line = line; lane = lane; jobs = jobs }) }

abbrev take_line : ℕ → LinesSay → List ℕ → Result LinesSay TextCause
take_line = text_line (codes "bqjobs") (codes "1") meaning

-- what is said behind the lines
abbrev read_from : ℕ → LinesSay → List (List ℕ) → Result LinesSay TextFault
read_from = read_lines take_line

abbrev joined : List (List (List ℕ)) → List (List ℕ)
joined lines = map (join_with_byte 32) lines

not_full : (most count : ℕ) → count < most → nat_le most count ≡ false
not_full most count few = false_from_ne_true _ (λ full. (let above = leb-true most count full in omega arith))

-- ---- what each line says

job_said : (number : ℕ) (units : List Unit) (lane : ℕ) (job : Job) → lane ≤ most_lane → IsInRange job → job_count units < most_jobs
    → meaning number (outside_block units) (codes "job" ∷ decimal lane ∷ job_words job) ≡ Ok (outside_block (units ++ unit_of lane (job ∷ [])))
job_said number units lane job low range few =
    let lane_is = lane_of-decimal lane low in
    let job_is = job_of-job_words job range in
    let room = not_full most_jobs (job_count units) few in
    rw (lane_is, job_is, room) refl

block_said : (number : ℕ) (units : List Unit) (lane : ℕ) → lane ≤ most_lane → meaning number (outside_block units) (codes "block" ∷ decimal lane ∷ []) ≡ Ok (inside_block units number lane [])
block_said number units lane low = let lane_is = lane_of-decimal lane low in rw lane_is refl

put_said : (number : ℕ) (units : List Unit) (line lane : ℕ) (jobs : List Job) (job : Job) → IsInRange job → length jobs < most_in_unit → job_count units + length jobs < most_jobs
    → meaning number (inside_block units line lane jobs) (put_line job) ≡ Ok (inside_block units line lane (jobs ++ job ∷ []))
put_said number units line lane jobs job range place few =
    let job_is = job_of-job_words job range in
    let in_unit = not_full most_in_unit (length jobs) place in
    let room = not_full most_jobs (job_count units + length jobs) few in
    rw (job_is, in_unit, room) refl

-- ---- the words of each line can be words

lane_is_word : (lane : ℕ) → lane ≤ most_lane → IsWord (decimal lane)
lane_is_word lane low = IsWord-decimal lane (omega arith)

AreWords-job : (lane : ℕ) (job : Job) → lane ≤ most_lane → IsInRange job → AreWords (codes "job" ∷ decimal lane ∷ job_words job)
AreWords-job lane job low range =
    All-cons IsWord (codes "job") (decimal lane ∷ job_words job) (IsWord-from_test (codes "job") refl) (All-cons IsWord (decimal lane) (job_words job) (lane_is_word lane low) (AreWords-job_words job range))

AreWords-block : (lane : ℕ) → lane ≤ most_lane → AreWords (codes "block" ∷ decimal lane ∷ [])
AreWords-block lane low =
    All-cons IsWord (codes "block") (decimal lane ∷ []) (IsWord-from_test (codes "block") refl) (All-cons IsWord (decimal lane) [] (lane_is_word lane low) (All-nil IsWord))

AreWords-put : (job : Job) → IsInRange job → AreWords (put_line job)
AreWords-put job range = All-cons IsWord (codes "put") (job_words job) (IsWord-from_test (codes "put") refl) (AreWords-job_words job range)

AreWords-end : AreWords (codes "end" ∷ [])
AreWords-end = All-cons IsWord (codes "end") [] (IsWord-from_test (codes "end") refl) (All-nil IsWord)

-- ---- lines one after another

reads_puts : (jobs : List Job) (number : ℕ) (units : List Unit) (line lane : ℕ) (done : List Job) (rest : List (List ℕ)) → All IsInRange jobs → 2 ≤ number
    → length done + length jobs ≤ most_in_unit → job_count units + (length done + length jobs) ≤ most_jobs
    → read_from number (inside_block units line lane done) (joined (map put_line jobs) ++ rest) ≡ read_from (number + length jobs) (inside_block units line lane (done ++ jobs)) rest
reads_puts [] number units line lane done rest ranges behind place few =
    ap (λ n. read_from n (inside_block units line lane done) rest) (sym (add-zero number))
    ∙ ap (λ (jobs : List Job). read_from (number + 0) (inside_block units line lane jobs) rest) (sym (append-nil done))
reads_puts (job ∷ jobs) number units line lane done rest ranges behind place few =
    let range = All-head IsInRange job jobs ranges in
    let more = done ++ job ∷ [] in
    let longer = length-append done (job ∷ []) in
    let later = joined (map put_line jobs) ++ rest in
    let counted : number + 1 + length jobs ≡ number + length (job ∷ jobs) = omega arith in
    read_lines-joined (codes "bqjobs") (codes "1") meaning number (inside_block units line lane done) (inside_block units line lane more) (put_line job) later (AreWords-put job range) behind refl
    (put_said number units line lane done job range (omega arith) (omega arith))
    ∙ (reads_puts jobs (number + 1) units line lane more rest (All-tail IsInRange job jobs ranges) (omega arith) (omega arith) (omega arith)
    ∙ (ap (λ n. read_from n (inside_block units line lane (more ++ jobs)) rest) counted
    ∙ ap (λ (all : List Job). read_from (number + length (job ∷ jobs)) (inside_block units line lane all) rest) (append_assoc done (job ∷ []) jobs)))

reads_block : (jobs : List Job) (number : ℕ) (units : List Unit) (lane : ℕ) (rest : List (List ℕ)) → lane ≤ most_lane → length jobs ≤ most_in_unit → All IsInRange jobs
    → job_count units + length jobs ≤ most_jobs → 2 ≤ number
    → read_from number (outside_block units) (joined (block_lines lane jobs) ++ rest) ≡ read_from (number + 1 + length jobs + 1) (outside_block (units ++ unit_of lane jobs)) rest
reads_block jobs number units lane rest low place ranges few behind =
    let end = join_with_byte 32 (codes "end" ∷ []) in
    let puts = joined (map put_line jobs) in
    let split : joined (map put_line jobs ++ (codes "end" ∷ []) ∷ []) ++ rest ≡ puts ++ end ∷ rest =
    ap (λ (lines : List (List ℕ)). lines ++ rest) (map-append (join_with_byte 32) (map put_line jobs) ((codes "end" ∷ []) ∷ [])) ∙ append_assoc puts (end ∷ []) rest in
    read_lines-joined (codes "bqjobs") (codes "1") meaning number (outside_block units) (inside_block units number lane []) (codes "block" ∷ decimal lane ∷ []) (joined (map put_line jobs ++ (codes "end" ∷ []) ∷ []) ++ rest)
    (AreWords-block lane low) behind refl (block_said number units lane low)
    ∙ (ap (read_from (number + 1) (inside_block units number lane [])) split
    ∙ (reads_puts jobs (number + 1) units number lane [] (end ∷ rest) ranges (omega arith) (omega arith) (omega arith)
    ∙ read_lines-joined (codes "bqjobs") (codes "1") meaning (number + 1 + length jobs) (inside_block units number lane jobs) (outside_block (units ++ unit_of lane jobs)) (codes "end" ∷ []) rest
    AreWords-end (omega arith) refl refl))

-- some number of the line behind a unit: which one, the state there does not depend on
record Behind (number : ℕ) (units : List Unit) (lane : ℕ) (jobs : List Job) (rest : List (List ℕ)) : Type 0 where
  next : ℕ
  behind : 2 ≤ next
  read : read_from number (outside_block units) (joined (lane_lines lane jobs) ++ rest) ≡ read_from next (outside_block (units ++ unit_of lane jobs)) rest

reads_unit : (jobs : List Job) (number : ℕ) (units : List Unit) (lane : ℕ) (rest : List (List ℕ)) → lane ≤ most_lane → 1 ≤ length jobs → length jobs ≤ most_in_unit → All IsInRange jobs
    → job_count units + length jobs ≤ most_jobs → 2 ≤ number → Behind number units lane jobs rest
reads_unit [] number units lane rest low some place ranges few behind = absurd (omega arith)
reads_unit (job ∷ []) number units lane rest low some place ranges few behind =
    let range = All-head IsInRange job [] ranges in
    record {
      next = number + 1;
      behind = omega arith;
      read =
          read_lines-joined (codes "bqjobs") (codes "1") meaning number (outside_block units) (outside_block (units ++ unit_of lane (job ∷ []))) (codes "job" ∷ decimal lane ∷ job_words job) rest
          (AreWords-job lane job low range) behind refl (job_said number units lane job low range (omega arith));
    }
reads_unit (job ∷ next ∷ others) number units lane rest low some place ranges few behind = record {
  next = number + 1 + length (job ∷ next ∷ others) + 1;
  behind = omega arith;
  read = reads_block (job ∷ next ∷ others) number units lane rest low place ranges few behind;
}

unit_of-some : (lane : ℕ) (jobs : List Job) → 1 ≤ length jobs → unit_of lane jobs ≡ record { lane = lane; jobs = jobs } ∷ []
unit_of-some lane [] some = absurd (omega arith)
unit_of-some lane (job ∷ jobs) some = refl

reads_units : (more : List Unit) (number : ℕ) (units : List Unit) → All IsUnit more → job_count units + job_count more ≤ most_jobs → 2 ≤ number
    → read_from number (outside_block units) (joined (flat_map unit_lines more)) ≡ Ok (outside_block (units ++ more))
reads_units [] number units are few behind = ap (λ (us : List Unit). Ok (outside_block us)) (sym (append-nil units))
reads_units (unit ∷ more) number units are few behind =
    let is = All-head IsUnit unit more are in
    let rest = joined (flat_map unit_lines more) in
    let counted = sum_by-cons (λ (u : Unit). length u.jobs) unit more in
    let here = reads_unit unit.jobs number units unit.lane rest is.lane is.some is.few is.ranges (omega arith) behind in
    let one = unit_of-some unit.lane unit.jobs is.some in
    let grown = job_count-more_jobs units unit.lane unit.jobs in
    ap (read_from number (outside_block units)) (map-append (join_with_byte 32) (unit_lines unit) (flat_map unit_lines more))
    ∙ (here.read
    ∙ (reads_units more here.next (units ++ unit_of unit.lane unit.jobs) (All-tail IsUnit unit more are) (omega arith) here.behind
    ∙ ap (λ (us : List Unit). Ok (outside_block us)) (append_assoc units (unit_of unit.lane unit.jobs) more ∙ ap (λ (us : List Unit). units ++ (us ++ more)) one)))

-- ---- the whole text

AreWords-puts : (jobs : List Job) → All IsInRange jobs → All AreWords (map put_line jobs)
AreWords-puts [] ranges = All-nil AreWords
AreWords-puts (job ∷ jobs) ranges =
    All-cons AreWords (put_line job) (map put_line jobs) (AreWords-put job (All-head IsInRange job jobs ranges)) (AreWords-puts jobs (All-tail IsInRange job jobs ranges))

AreWords-block_lines : (lane : ℕ) (jobs : List Job) → lane ≤ most_lane → All IsInRange jobs → All AreWords (block_lines lane jobs)
AreWords-block_lines lane jobs low ranges =
    let end = (codes "end" ∷ []) ∷ [] in
    All-cons AreWords (codes "block" ∷ decimal lane ∷ []) (map put_line jobs ++ end) (AreWords-block lane low)
    (All-append AreWords (map put_line jobs) end (AreWords-puts jobs ranges) (All-cons AreWords (codes "end" ∷ []) [] AreWords-end (All-nil AreWords)))

AreWords-lane_lines : (lane : ℕ) (jobs : List Job) → lane ≤ most_lane → All IsInRange jobs → All AreWords (lane_lines lane jobs)
AreWords-lane_lines lane [] low ranges = AreWords-block_lines lane [] low ranges
AreWords-lane_lines lane (job ∷ []) low ranges =
    All-cons AreWords (codes "job" ∷ decimal lane ∷ job_words job) [] (AreWords-job lane job low (All-head IsInRange job [] ranges)) (All-nil AreWords)
AreWords-lane_lines lane (job ∷ next ∷ others) low ranges = AreWords-block_lines lane (job ∷ next ∷ others) low ranges

AreWords-units : (units : List Unit) → All IsUnit units → All AreWords (flat_map unit_lines units)
AreWords-units [] are = All-nil AreWords
AreWords-units (unit ∷ units) are =
    let is = All-head IsUnit unit units are in
    All-append AreWords (unit_lines unit) (flat_map unit_lines units) (AreWords-lane_lines unit.lane unit.jobs is.lane is.ranges) (AreWords-units units (All-tail IsUnit unit units are))

-- a file in its canonical form is read as the same file
pub jobs_of-canon : (units : List Unit) → IsJobFile units → length (canon units) ≤ most_bytes → jobs_of (canon units) ≡ Ok units
jobs_of-canon units file short =
    let lines = flat_map unit_lines units in
    let few = file.count in
    let said = text_state-printed (codes "bqjobs") (codes "1") meaning nothing_yet lines (IsWord-from_test (codes "bqjobs") refl) (IsWord-from_test (codes "1") refl) (AreWords-units units file.units_are) short
    ∙ reads_units units 2 [] file.units_are (omega arith) (omega arith) in
    ap (λ (r : Result LinesSay TextFault). r >>= (λ so_far. units_at_end so_far.units so_far.block)) said
