-- The units that are dealt, one after another, and their ranges.
use Rattle.std.proofs.Common.{◌≡◌, ℕ, zero, suc, ◌+◌, ◌-◌, ◌/◌, ◌%◌, ◌^◌, ◌<◌, ◌≤◌, min, Bool, true, false, List, [], ◌∷◌, ◌++◌, length, take, drop, refl, sym, ap, ap₂, subst, ◌∙◌, arith, All, codes, if◌then◌else◌, ◌==◌, ⊎_elim, length-take, length-drop}
use Rattle.std.proofs.lemmas.Bool.{cases_lt}
use Rattle.std.proofs.lemmas.Fmt.{decimal_digit}
use Rattle.std.proofs.lemmas.List.{nil_from_length, take-append-drop}
use Rattle.std.proofs.lemmas.List.Elements.{All-nil, All-cons, All-take, All-drop}
use Rattle.std.proofs.lemmas.List.Sums.{sum_by-cons}
use Rattle.text_lines.specs.Words.{IsWord}
use Rattle.text_lines.proofs.IsWordLemmas.{IsWord-from_test}
use Rattle.job_work.specs.declared.job.Job.{Job}
use Rattle.job_work.specs.declared.job.Job.TheVariants.{Sum, Digest, Count, Mix, Words}
use Rattle.job_text.specs.declared.file.Unit.{Unit}
use Rattle.job_text.specs.JobFile.{all_jobs, AreBytes, IsInRange, IsUnit, IsJobFile, job_count}
use Rattle.job_text.specs.Generator.{eight_digits, digit_word, made_job, jobs_from, dealt, gen_of}

-- ---- jobs

-- one more job
pub jobs_from-more : (first count : ℕ) → jobs_from first (count + 1) ≡ jobs_from first count ++ made_job (first + count) ∷ []
jobs_from-more first zero = let here : first ≡ first + 0 = omega arith in ap (λ n. made_job n ∷ []) here
jobs_from-more first (suc count) =
    let next : first + 1 + count ≡ first + suc count = omega arith in
    let longer : suc count + 1 ≡ suc (count + 1) = omega arith in
    ap (jobs_from first) longer
    ∙ ap (λ (jobs : List Job). made_job first ∷ jobs) (jobs_from-more (first + 1) count ∙ ap (λ n. jobs_from (first + 1) count ++ made_job n ∷ []) next)

pub length-jobs_from : (first count : ℕ) → length (jobs_from first count) ≡ count
length-jobs_from first zero = refl
length-jobs_from first (suc count) = ap suc (length-jobs_from (first + 1) count)

take-jobs_from : (some first left : ℕ) → take some (jobs_from first left) ≡ jobs_from first (min some left)
take-jobs_from zero first left = let none : 0 ≡ min 0 left = omega arith in ap (jobs_from first) none
take-jobs_from (suc some) first zero = let none : 0 ≡ min (suc some) 0 = omega arith in ap (jobs_from first) none
take-jobs_from (suc some) first (suc left) =
    let more : suc (min some left) ≡ min (suc some) (suc left) = omega arith in
    ap (λ (jobs : List Job). made_job first ∷ jobs) (take-jobs_from some (first + 1) left) ∙ ap (jobs_from first) more

drop-jobs_from : (some first left : ℕ) → drop some (jobs_from first left) ≡ jobs_from (first + some) (left - some)
drop-jobs_from zero first left =
    let here : first ≡ first + 0 = omega arith in
    let all : left ≡ left - 0 = omega arith in
    ap₂ jobs_from here all
drop-jobs_from (suc some) first zero = let none : 0 ≡ 0 - suc some = omega arith in ap (jobs_from (first + suc some)) none
drop-jobs_from (suc some) first (suc left) =
    let here : first + 1 + some ≡ first + suc some = omega arith in
    let rest : left - some ≡ suc left - suc some = omega arith in
    drop-jobs_from some (first + 1) left ∙ ap₂ jobs_from here rest

-- so many jobs less than there are to take
past_end : (first some count left : ℕ) → count ≡ min some left → jobs_from (first + some) (left - some) ≡ jobs_from (first + count) (left - count)
past_end first some count left count_is =
    ⊎_elim
    (λ few. (let rest : left - some ≡ 0 = omega arith in let none : 0 ≡ left - count = omega arith in ap (jobs_from (first + some)) rest ∙ ap (jobs_from (first + count)) none))
    (λ many. (let same : some ≡ count = omega arith in ap (λ n. jobs_from (first + n) (left - n)) same))
    (cases_lt left some)

-- ---- units

-- the unit that takes the next jobs
abbrev pub next_unit : ℕ → ℕ → ℕ → Unit
next_unit u first count = record { lane = u % 3; jobs = jobs_from first count }

dealt-some : (most u first left count : ℕ) → count ≡ min (1 + u % 7) (suc left)
    → dealt (suc most) u (jobs_from first (suc left)) ≡ next_unit u first count ∷ dealt most (u + 1) (jobs_from (first + count) (suc left - count))
dealt-some most u first left count count_is =
    let some = 1 + u % 7 in
    let jobs = jobs_from first (suc left) in
    let taken : take some jobs ≡ jobs_from first count = take-jobs_from some first (suc left) ∙ ap (jobs_from first) (sym count_is) in
    let rest : drop some jobs ≡ jobs_from (first + count) (suc left - count) = drop-jobs_from some first (suc left) ∙ past_end first some count (suc left) count_is in
    ap₂ (λ (front behind : List Job). record { lane = u % 3; jobs = front } ∷ dealt most (u + 1) behind) taken rest

-- a step of a loop that deals
pub dealt-more : (n u first count : ℕ) → u ≤ first → first < n → count ≡ min (1 + u % 7) (n - first)
    → dealt (n - u) u (jobs_from first (n - first)) ≡ next_unit u first count ∷ dealt (n - (u + 1)) (u + 1) (jobs_from (first + count) (n - (first + count)))
dealt-more n u first count behind within count_is =
    let most : n - u ≡ suc (n - (u + 1)) = omega arith in
    let left : n - first ≡ suc (n - first - 1) = omega arith in
    let rest : suc (n - first - 1) - count ≡ n - (first + count) = omega arith in
    ap₂ (λ (m l : ℕ). dealt m u (jobs_from first l)) most left
    ∙ (dealt-some (n - (u + 1)) u first (n - first - 1) count (count_is ∙ ap (min (1 + u % 7)) left)
    ∙ ap (λ l. next_unit u first count ∷ dealt (n - (u + 1)) (u + 1) (jobs_from (first + count) l)) rest)

-- no job is left
pub dealt-none : (most u first left : ℕ) → left ≡ 0 → dealt most u (jobs_from first left) ≡ []
dealt-none zero u first left none = refl
dealt-none (suc most) u first left none = ap (λ l. dealt (suc most) u (jobs_from first l)) none

-- all jobs are dealt, if there are as many units as jobs
all_jobs-dealt : (most u : ℕ) (jobs : List Job) → length jobs ≤ most → all_jobs (dealt most u jobs) ≡ jobs
all_jobs-dealt zero u jobs enough = sym (nil_from_length jobs (omega arith))
all_jobs-dealt (suc most) u [] enough = refl
all_jobs-dealt (suc most) u (job ∷ jobs) enough =
    let some = 1 + u % 7 in
    let all = job ∷ jobs in
    let fewer = length-drop some all in
    ap (λ (rest : List Job). take some all ++ rest) (all_jobs-dealt most (u + 1) (drop some all) (omega arith)) ∙ take-append-drop some all

pub all_jobs-gen_of : (n : ℕ) → all_jobs (gen_of n) ≡ jobs_from 0 n
all_jobs-gen_of n = let as_many = length-jobs_from 0 n in all_jobs-dealt n 0 (jobs_from 0 n) (omega arith)

-- ---- ranges

if_holds : (P : Job → Type 0) (b : Bool) (one other : Job) → P one → P other → P (if b then one else other)
if_holds P true one other first second = first
if_holds P false one other first second = second

AreBytes-eight_digits : (number : ℕ) → AreBytes (eight_digits number)
AreBytes-eight_digits number =
    let byte = λ (b : ℕ). b < 256 in
    All-cons byte (number / 256 ^ 3 % 256) (number / 256 ^ 2 % 256 ∷ number / 256 ^ 1 % 256 ∷ number % 256 ∷ []) (omega arith)
    (All-cons byte (number / 256 ^ 2 % 256) (number / 256 ^ 1 % 256 ∷ number % 256 ∷ []) (omega arith)
    (All-cons byte (number / 256 ^ 1 % 256) (number % 256 ∷ []) (omega arith) (All-cons byte (number % 256) [] (omega arith) (All-nil byte))))

IsWord-digit_word : (number : ℕ) → IsWord (digit_word number)
IsWord-digit_word number =
    let seen = λ (byte : ℕ). (33 ≤ byte) × (byte ≤ 126) in
    let digit = decimal_digit (number % 10) (omega arith) in
    let word : IsWord (119 ∷ (48 + number % 10) ∷ []) = record {
      some = omega arith;
      visible = All-cons seen 119 ((48 + number % 10) ∷ []) (omega arith, omega arith) (All-cons seen (48 + number % 10) [] (omega arith, omega arith) (All-nil seen));
    } in
    subst (λ (digits : List ℕ). IsWord (119 ∷ digits)) (sym digit) word

IsInRange-made_job : (number : ℕ) → number < 500000 → IsInRange (made_job number)
IsInRange-made_job number small =
    let below = λ (n : ℕ). n < 2 ^ 64 in
    let sum : IsInRange (Sum (number ∷ (number + 1) ∷ [])) = All-cons below number ((number + 1) ∷ []) (omega arith) (All-cons below (number + 1) [] (omega arith) (All-nil below)) in
    let digest : IsInRange (Digest (eight_digits number)) = AreBytes-eight_digits number in
    let count : IsInRange (Count 0 (eight_digits number)) = (omega arith, AreBytes-eight_digits number) in
    let mix : IsInRange (Mix number 100) = (omega arith, omega arith) in
    let word = IsWord-digit_word number in
    let words : IsInRange (Words (digit_word number ∷ codes "x" ∷ digit_word number ∷ [])) =
    All-cons IsWord (digit_word number) (codes "x" ∷ digit_word number ∷ []) word
    (All-cons IsWord (codes "x") (digit_word number ∷ []) (IsWord-from_test (codes "x") refl) (All-cons IsWord (digit_word number) [] word (All-nil IsWord))) in
    if_holds IsInRange (number % 5 == 0) _ _ sum
    (if_holds IsInRange (number % 5 == 1) _ _ digest
    (if_holds IsInRange (number % 5 == 2) _ _ count
    (if_holds IsInRange (number % 5 == 3) _ _ mix words)))

IsInRange-jobs_from : (first count : ℕ) → first + count ≤ 500000 → All IsInRange (jobs_from first count)
IsInRange-jobs_from first zero small = All-nil IsInRange
IsInRange-jobs_from first (suc count) small =
    All-cons IsInRange (made_job first) (jobs_from (first + 1) count) (IsInRange-made_job first (omega arith)) (IsInRange-jobs_from (first + 1) count (omega arith))

IsUnit-dealt : (most u : ℕ) (jobs : List Job) → All IsInRange jobs → All IsUnit (dealt most u jobs)
IsUnit-dealt zero u jobs ranges = All-nil IsUnit
IsUnit-dealt (suc most) u [] ranges = All-nil IsUnit
IsUnit-dealt (suc most) u (job ∷ jobs) ranges =
    let some = 1 + u % 7 in
    let all = job ∷ jobs in
    let taken = length-take some all in
    let unit : Unit = record { lane = u % 3; jobs = take some all } in
    let is : IsUnit unit = record { lane = omega arith; some = omega arith; few = omega arith; ranges = All-take IsInRange some all ranges } in
    All-cons IsUnit unit (dealt most (u + 1) (drop some all)) is (IsUnit-dealt most (u + 1) (drop some all) (All-drop IsInRange some all ranges))

job_count-dealt : (most u : ℕ) (jobs : List Job) → job_count (dealt most u jobs) ≤ length jobs
job_count-dealt zero u jobs = omega arith
job_count-dealt (suc most) u [] = omega arith
job_count-dealt (suc most) u (job ∷ jobs) =
    let some = 1 + u % 7 in
    let all = job ∷ jobs in
    let unit : Unit = record { lane = u % 3; jobs = take some all } in
    let counted = sum_by-cons (λ (unit : Unit). length unit.jobs) unit (dealt most (u + 1) (drop some all)) in
    let taken = length-take some all in
    let rest = length-drop some all in
    let later = job_count-dealt most (u + 1) (drop some all) in
    omega arith

-- what is generated is a job file
pub IsJobFile-gen_of : (n : ℕ) → n ≤ 500000 → IsJobFile (gen_of n)
IsJobFile-gen_of n small =
    let few = job_count-dealt n 0 (jobs_from 0 n) in
    let as_many = length-jobs_from 0 n in
    record { units_are = IsUnit-dealt n 0 (jobs_from 0 n) (IsInRange-jobs_from 0 n (omega arith)); count = omega arith }
